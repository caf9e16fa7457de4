use Rattle.std.proofs.Common.{arith, refl}
use Rattle.std.proofs.lemmas.Bool.{false≢true}
use Rattle.answering.specs.Foreign.{NamesHost}
use Rattle.answering.proofs.ForeignLemmas.{none_at_all, none_more, some_has}
use Rattle.answering.proofs.foreign.has_host.Goals as goal

pub returns-then-is_host : goal.returns-then-is_host
returns-then-is_host c = (
  λ _. some_has (NamesHost c.args.origin.now) c.args.request.now.headers c.is_host.result c.loop-index.index (omega arith)
      c.is_host.ensures c.if-is_host.true,
  λ _. refl,
)

pub loop-index-preserved : goal.loop-index-preserved
loop-index-preserved c =
    none_more (NamesHost c.args.origin.now) c.args.request.now.headers c.is_host.result c.loop-index.index (omega arith)
    c.is_host.ensures c.if-is_host.false c.loop-index.invariant

pub returns : goal.returns
returns c = (
  λ passed. absurd (false≢true passed),
  λ some. absurd (none_at_all (NamesHost c.args.origin.now) c.args.request.now.headers
      c.loop-index.index (omega arith) c.loop-index.invariant some),
)
