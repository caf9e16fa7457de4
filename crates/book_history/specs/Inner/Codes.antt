-- By what a proof tells the states of scenarios apart.
use Rattle.std.specs.Coded.{Coded, coded_list, coded_ℕ}
use Rattle.std.specs.FinMap as map
use Rattle.scenario_core.specs.Scenarios.{States}

abbrev pub states_code : Coded States
states_code = map.code (coded_list coded_ℕ) (coded_list coded_ℕ)
