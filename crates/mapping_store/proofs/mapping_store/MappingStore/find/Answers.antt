use Rattle.std.proofs.Common.{◌≡◌, ℕ, List, get_or, sym, ap, ◌∙◌}
use Rattle.scenario_core.specs.Scenarios.{state_of}
use Rattle.mapping_store.specs.declared.entry.Entry.{Entry}
use Rattle.mapping_store.proofs.ChoiceLemmas.{chosen, missed, same_items}
use Rattle.mapping_store.proofs.mapping_store.MappingStore.find.Goals as goal
use Rattle.mapping_store.proofs.mapping_store.MappingStore.find.Goals.{in-Some+in_ok-clone-in-Some, in-None}

pub returns-clause-found : goal.returns-clause-found
returns-clause-found c =
    let items : List Entry = c.self.inside.live.items in
    let states : List ℕ → List ℕ = state_of c.args.scenarios.now in
    let request = c.args.request.now in
    elim c.match-branch-2.branch [
      | in-Some+in_ok-clone-in-Some w ↦
          let found = rw (w.in-Some.is, c.as_mut_slice.ensures.value) at c.in_ok-at.ensures.found in
          let e : Entry = w.index-entry.result.now in
          let kept = same_items c.self.inside.live.len items c.best_eligible.new.entries
          (c.in_ok-at.ensures.same_entries ∙ c.as_mut_slice.ensures.value) c.self.inside.live.ok.0 in
          let read : e ≡ get_or items w.in-Some.at e =
          w.index-entry.ensures ∙ ap (λ l. get_or l w.in-Some.at e) kept in
          let copy : e.seen.value ≡ w.in_ok-clone-in-Some.field-0 =
          sym (w.in_ok-clone-in-Some.ensures.cases ∙ w.spec_of.ensures) in
          rw (← c.self.view_is, w.result-is)
          (chosen states request items c.self.inside.defaults.items w.in-Some.at e
          (record { id = e.id; spec = w.in_ok-clone-in-Some.field-0 }) c.self.invariant.kept read found
          (λ i. record { id = e.id; spec = copy i }))
      | in-None w ↦
          let found = rw (w.in-None.is, c.as_mut_slice.ensures.value) at c.in_ok-at.ensures.found in
          rw (← c.self.view_is, w.result-is) (missed states request items found)
    ]
