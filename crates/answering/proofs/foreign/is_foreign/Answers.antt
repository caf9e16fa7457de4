use Rattle.std.proofs.Common.{arith, refl}
use Rattle.std.proofs.lemmas.Bool.{false≢true}
use Rattle.answering.specs.Foreign.{IsOtherOrigin}
use Rattle.answering.proofs.ForeignLemmas.{none_at_all, none_more, some_has}
use Rattle.answering.proofs.foreign.is_foreign.Goals as goal

pub returns-then-is_other_origin : goal.returns-then-is_other_origin
returns-then-is_other_origin c = (
  λ _. some_has (IsOtherOrigin c.args.request.now.headers) c.args.request.now.headers c.is_other_origin.result c.loop-index.index (omega arith)
      c.is_other_origin.ensures c.if-is_other_origin.true,
  λ _. refl,
)

pub loop-index-preserved : goal.loop-index-preserved
loop-index-preserved c =
    none_more (IsOtherOrigin c.args.request.now.headers) c.args.request.now.headers c.is_other_origin.result c.loop-index.index (omega arith)
    c.is_other_origin.ensures c.if-is_other_origin.false c.loop-index.invariant

pub returns : goal.returns
returns c = (
  λ passed. absurd (false≢true passed),
  λ some. absurd (none_at_all (IsOtherOrigin c.args.request.now.headers) c.args.request.now.headers
      c.loop-index.index (omega arith) c.loop-index.invariant some),
)
