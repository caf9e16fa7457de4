use Rattle.std.proofs.Common.{refl}
use Rattle.std.proofs.lemmas.Result.{on_ok_weaker}
use Rattle.world_core.specs.Schedule.{WorldState}
use Rattle.shared_book.specs.declared.script.Call.TheVariants.{Apply}
use Rattle.world_core.proofs.StepLemmas.{applied, on_ok_at, refused}
use Rattle.world_core.proofs.world.World.apply.Goals as goal
use Rattle.world_core.proofs.world.World.apply.Goals.{in-Ok, in-Err}

pub returns-clause-ok : goal.returns-clause-ok
returns-clause-ok c =
    let old : WorldState = c.args.self.now in
    let held = c.self.inside.held.items in
    let seen : WorldState = record { past = c.self.inside.book; held = held; limits = c.self.inside.limits } in
    let past = c.apply_shared.new.self in
    elim c.match-apply_shared.branch [
      | in-Ok w ↦ on_ok_at _ _ _ w.result-is
          (applied old seen c.self.view_is c.args.actor c.args.input w.in-Ok._changed.event past
          w.in-Ok.ensures.ok.0 w.in-Ok.ensures.ok.1.grows)
      | in-Err w ↦ on_ok_at _ _ _ w.result-is
          (on_ok_weaker w.refused.result
          (λ other. refused old seen c.self.view_is c.args.actor (Apply c.args.input) past held
          w.in-Err.ensures.err refl
          (w.in-Err.error.code, other, w.in-Err.ensures.why)) w.refused.ensures)
    ]
