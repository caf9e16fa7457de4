use Rattle.std.proofs.Common.{◌≡◌, ◌++◌, drop}
use Rattle.admin_json.specs.Scenarios.{named_by}
use Rattle.mock_request.specs.Values.{pairs_of}
use Rattle.admin_json.proofs.scenarios.named_by.Given as goal

-- the pairs so far, and those of the mappings that are left
abbrev pub invariant-loop-mapping : goal.invariant-loop-mapping
invariant-loop-mapping l =
    named_by l.fn.mappings ≡ pairs_of l.pairs.items ++ named_by (drop l.mapping-index l.fn.mappings)
