use Rattle.std.proofs.Common.{◌≡◌, ◌+◌, get_or, length, ◌<◌, arith, refl, ◌∙◌}
use Rattle.std.specs.Prelude.{max}
use Rattle.code_verifier.proofs.SumFacts.{sum-more, fits-more, some-cond}
use Rattle.code_verifier.proofs.polynomial.sum.Goals as goal

pub loop-index-preserved : goal.loop-index-preserved
loop-index-preserved c =
    let ps = c.args.left.now in
    let qs = c.args.right.now in
    let i = c.loop-index.index in
    let done = c.loop-index.sum.items in
    let both = c.in-Some.both in
    let s = some-cond _ _ _ c.in-Some.ensures in
    let lt : i < max (length ps) (length qs) = omega (arith, c.max-index-end.ensures, c.loop-index-test.true) in
    let e : both ≡ get_or ps i 0 + get_or qs i 0 = s.1 ∙ rw (
      c.coefficient.ensures,
      c.coefficient-in-loop-index.ensures,
    ) refl in
    rw c.in_ok-push-in-Some.ensures.items (record {
      whole = sum-more ps qs done i both lt c.loop-index.invariant.whole e;
      small = fits-more done both c.loop-index.invariant.small (rw s.1 s.0);
    })
