use Rattle.std.proofs.Common.{rules}
use Rattle.scenario_core.proofs.StateLemmas.{no_entries, no_entries_started}
use Rattle.scenario_core.proofs.scenarios.Scenarios.reset.Goals as goal

pub returns-clause-empty : goal.returns-clause-empty
returns-clause-empty c = search (rules, no_entries)

pub returns-clause-started : goal.returns-clause-started
returns-clause-started c = search (rules, no_entries_started)
