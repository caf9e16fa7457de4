use Rattle.scenario_core.proofs.EntryLemmas.{pairs_of_clone}
use Rattle.scenario_core.proofs.scenarios.ScenariosClone.clone.Goals as goal

pub invariant_of-result : goal.invariant_of-result
invariant_of-result c =
    let copied = pairs_of_clone c.self.inside.entries.items c.in_ok-clone.field-0.items c.in_ok-clone.ensures.cases.0 in
    rw copied c.self.invariant

pub returns : goal.returns
returns c =
    let copied = pairs_of_clone c.self.inside.entries.items c.in_ok-clone.field-0.items c.in_ok-clone.ensures.cases.0 in
    record { cases = rw copied c.self.view_is }
