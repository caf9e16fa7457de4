use Rattle.std.proofs.Common.{List, All, refl, subst, arith}
use Rattle.std.proofs.lemmas.Bool.{false≢true}
use Rattle.std.proofs.lemmas.List.{take_all}
use Rattle.request_journal.specs.Past.{Placed}
use Rattle.request_journal.specs.State.{Names}
use Rattle.mapping_store.specs.declared.entry.Entry.{Entry}
use Rattle.mapping_store.specs.Kept.{placed_of}
use Rattle.mapping_store.proofs.StoreLemmas.{any_at, none_among}
use Rattle.mapping_store.proofs.scenario_names.names.Goals as goal

pub returns-then-names_state : goal.returns-then-names_state
returns-then-names_state c =
    let here = rw (c.spec.ensures, c.spec_of.ensures) at (c.names_state.ensures.0 c.if-names_state.true) in (
      λ yes. any_at (λ (p : Placed). Names c.args.scenario.now c.args.state.now p.mapping.spec.scenario)
          c.args.entries.now c.loop-i.i
          c.index-entries-i.result (omega arith) c.index-entries-i.is here,
      λ any. refl,
    )

pub returns : goal.returns
returns c =
    let none = subst (λ (l : List Entry).
    All (λ e. ¬ (Names c.args.scenario.now c.args.state.now (placed_of e).mapping.spec.scenario)) l)
    (take_all c.loop-i.i c.args.entries.now (omega arith)) c.loop-i.invariant in (
      λ yes. absurd (false≢true yes),
      λ any. absurd (none_among (λ (p : Placed). Names c.args.scenario.now c.args.state.now p.mapping.spec.scenario)
          c.args.entries.now none any),
    )
