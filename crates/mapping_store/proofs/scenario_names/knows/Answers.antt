use Rattle.std.proofs.Common.{List, All, refl, subst, arith}
use Rattle.std.proofs.lemmas.Bool.{false≢true}
use Rattle.std.proofs.lemmas.List.{take_all}
use Rattle.request_journal.specs.Past.{Placed}
use Rattle.request_journal.specs.State.{IsIn}
use Rattle.mapping_store.specs.declared.entry.Entry.{Entry}
use Rattle.mapping_store.specs.Kept.{placed_of}
use Rattle.mapping_store.proofs.StoreLemmas.{any_at, none_among}
use Rattle.mapping_store.proofs.scenario_names.knows.Goals as goal

pub returns-then-is_in : goal.returns-then-is_in
returns-then-is_in c =
    let here = rw (c.spec.ensures, c.spec_of.ensures) at (c.is_in.ensures.0 c.if-is_in.true) in (
      λ yes. any_at (λ (p : Placed). IsIn c.args.scenario.now p.mapping.spec.scenario) c.args.entries.now c.loop-i.i
          c.index-entries-i.result (omega arith) c.index-entries-i.is here,
      λ any. refl,
    )

pub returns : goal.returns
returns c =
    let none = subst (λ (l : List Entry).
    All (λ e. ¬ (IsIn c.args.scenario.now (placed_of e).mapping.spec.scenario)) l)
    (take_all c.loop-i.i c.args.entries.now (omega arith)) c.loop-i.invariant in (
      λ yes. absurd (false≢true yes),
      λ any. absurd (none_among (λ (p : Placed). IsIn c.args.scenario.now p.mapping.spec.scenario)
          c.args.entries.now none any),
    )
