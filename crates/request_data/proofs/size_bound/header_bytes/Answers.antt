use Rattle.std.proofs.Common.{◌<◌, length, take, ap, arith}
use Rattle.std.specs.List.{sum_by}
use Rattle.std.proofs.lemmas.List.Sums.{sum_by_push}
use Rattle.mock_request.specs.Request.{Header}
use Rattle.mock_request.proofs.HeaderLemmas.{more_taken}
use Rattle.request_data.specs.Inner.Lengths.{header_weight}
use Rattle.request_data.proofs.size_bound.header_bytes.Goals as goal

pub loop-index-preserved : goal.loop-index-preserved
loop-index-preserved c =
    let headers = c.args.snapshot.now.headers in
    let i = c.loop-index.index in
    let within : i < length headers = omega arith in
    let header : Header = record { name = c.in_ok-name.name.now; value = c.in_ok-name.value.now } in
    let more = more_taken headers i header within c.in_ok-name.ensures.value in
    omega (arith, ap (sum_by header_weight) more, sum_by_push header_weight (take i headers) header)
