use Rattle.std.proofs.Common.{List, ap, subst, ◌∙◌}
use Rattle.mock_request.specs.Request.{Request}
use Rattle.stub_book.specs.Growth.{IsServed}
use Rattle.world_core.specs.Schedule.{WorldState, held_after}
use Rattle.world_core.specs.declared.held.Held.{Held}
use Rattle.world_core.proofs.StepLemmas.{served}
use Rattle.world_core.proofs.world.World.serve.Goals as goal

pub returns-in-Ok-clause-ok : goal.returns-in-Ok-clause-ok
returns-in-Ok-clause-ok c =
    let old : WorldState = c.args.self.now in
    let held = c.self.inside.held.items in
    let seen : WorldState = record { past = c.self.inside.book; held = held; limits = c.self.inside.limits } in
    let event = c.in-Ok.event in
    let ok = c.in-Ok.ensures.ok in
    served old seen c.self.view_is c.args.actor c.args.request event c.serve_read.new.self c.hold.new.held.items
    (subst (λ (r : Request). IsServed r event) (c.in_ok-kept.ensures.cases ∙ c.in_ok-shared.ensures) ok.0) ok.1
    (c.hold.ensures ∙ ap (λ (hs : List Held). held_after c.args.actor event hs) c.reserve.ensures.items)
