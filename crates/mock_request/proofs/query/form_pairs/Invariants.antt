use Rattle.std.proofs.Common.{◌≡◌, ◌++◌}
use Rattle.form_urlencoded.specs.Form.{raw_pairs}
use Rattle.form_urlencoded.specs.Parse.{owned_pairs_left}
use Rattle.mock_request.specs.Values.{pairs_of}
use Rattle.mock_request.proofs.QueryLemmas.{texts_left}
use Rattle.mock_request.proofs.query.form_pairs.Given as goal

abbrev pub invariant-loop-pair : goal.invariant-loop-pair
invariant-loop-pair l =
    pairs_of l.pairs.items ++ texts_left (owned_pairs_left l.pair-iterator) ≡ texts_left (raw_pairs l.form)
