use Rattle.std.proofs.Common.{◌≡◌, ◌+◌, suc, slice_index_or, slice_set, arith, ap, ◌∙◌}
use Rattle.form_urlencoded.specs.Form.{plus_to_space}
use Rattle.request_data.proofs.DecodedLemmas.{spaced, spaced_more, spaced_all}
use Rattle.request_data.proofs.query_data.put_spaces.Goals as goal

pub loop-index-preserved : goal.loop-index-preserved
loop-index-preserved c =
    let n = c.loop-index.index in
    let whole = c.args.bytes.now in
    let next : suc n ≡ n + 1 = omega arith in
    ap (slice_set c.loop-index.bytes n) c.plus_to_space.ensures
    ∙ ap (λ bytes. slice_set bytes n (plus_to_space (slice_index_or bytes n 0))) c.loop-index.invariant
    ∙ spaced_more n 0 whole
    ∙ ap (λ m. spaced m whole) next

pub returns : goal.returns
returns c = c.loop-index.invariant ∙ spaced_all c.loop-index.index c.args.bytes.now (omega arith)
