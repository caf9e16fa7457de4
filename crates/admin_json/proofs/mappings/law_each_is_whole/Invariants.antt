use Rattle.std.proofs.Common.{All, take}
use Rattle.admin_json.specs.WholeNumbers.{HasWholeNumbers}
use Rattle.admin_json.proofs.mappings.law_each_is_whole.Given as goal

abbrev pub invariant-loop-mapping : goal.invariant-loop-mapping
invariant-loop-mapping l = All HasWholeNumbers (take l.mapping-index l.fn.mappings)
