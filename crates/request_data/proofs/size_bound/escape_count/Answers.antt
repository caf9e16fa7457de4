use Rattle.std.proofs.Common.{length, arith, ap}
use Rattle.json.specs.Print.{escape}
use Rattle.request_data.proofs.TextBounds.{escape-append}
use Rattle.request_data.proofs.size_bound.escape_count.Goals as goal

pub loop-rest-preserved : goal.loop-rest-preserved
loop-rest-preserved c =
    let block = c.split_at.result.0.now in
    let after = c.split_at.result.1.now in
    let split = c.split_at.ensures.by_index.0 in
    let parts = escape-append block after in
    record {
      few = omega (arith, c.loop-rest.invariant.few, c.escapes_in.ensures.few, c.split_at.ensures.front_len, c.split_at.ensures.back_len);
      whole = omega (
        arith,
        c.loop-rest.invariant.whole,
        ap (λ s. length (escape s)) split,
        parts,
        c.escapes_in.ensures.most,
        c.split_at.ensures.front_len,
        c.split_at.ensures.back_len,
      );
    }
