use Rattle.std.proofs.Common.{◌≡◌, map, take}
use Rattle.har_export.specs.Pairs.{json_of_pair}
use Rattle.mock_request.specs.Values.{pair_of}
use Rattle.serde_json.specs.View.{view}
use Rattle.har_export.proofs.pairs.pairs_value.Given as goal

abbrev pub invariant-loop-pair : goal.invariant-loop-pair
invariant-loop-pair l = map view l.values.items ≡ map (λ p. json_of_pair (pair_of p)) (take l.pair-index l.fn.pairs)
