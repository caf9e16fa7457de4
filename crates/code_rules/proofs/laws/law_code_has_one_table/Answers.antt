use Rattle.code_rules.specs.Table.{entry_at}
use Rattle.code_rules.proofs.TableFacts.{IsTable-entry_at, entry-same}
use Rattle.code_rules.proofs.laws.law_code_has_one_table.Goals as goal

pub returns-clause-table : goal.returns-clause-table
returns-clause-table c = IsTable-entry_at

pub returns-clause-one : goal.returns-clause-one
returns-clause-one c = λ code t h index le. entry-same code t (entry_at code) h (IsTable-entry_at code) index le
