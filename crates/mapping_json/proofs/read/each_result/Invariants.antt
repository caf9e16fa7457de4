use Rattle.std.proofs.Common.{take}
use Rattle.std.specs.List.{AllZip}
use Rattle.mapping_json.specs.Documents.{IsResultOf}
use Rattle.serde_json.specs.View.{view}
use Rattle.mapping_json.proofs.read.each_result.Given as goal

abbrev pub invariant-loop-value : goal.invariant-loop-value
invariant-loop-value l =
    AllZip (λ value. IsResultOf l.fn.escape (view value)) (take l.value-index l.values) l.results.items
