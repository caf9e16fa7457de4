use Rattle.std.proofs.Common.{◌≤◌, ◌∙◌, ap, map, sym, length, arith}
use Rattle.std.proofs.lemmas.List.{take_all}
use Rattle.std.proofs.lemmas.Simd.{map-map}
use Rattle.har_export.specs.Pairs.{json_of_pair}
use Rattle.mock_request.specs.Values.{pair_of}
use Rattle.serde_json.proofs.Views.{view-Array}
use Rattle.serde_json.specs.Data.{array}
use Rattle.serde_json.specs.View.{items_of}
use Rattle.har_export.proofs.pairs.pairs_value.Goals as goal

pub returns : goal.returns
returns c =
    let pairs = c.args.pairs.now in
    let past : length pairs ≤ c.loop-pair.pair-index = omega arith in
    let whole = take_all c.loop-pair.pair-index pairs past in
    view-Array c.loop-pair.values
    ∙ ap (λ ds. array (items_of ds))
    (c.loop-pair.invariant ∙ ap (map (λ p. json_of_pair (pair_of p))) whole
    ∙ sym (map-map json_of_pair pair_of pairs))
