use Rattle.std.proofs.Common.{arith, refl, subst, All}
use Rattle.std.specs.Str.{IsUtf8}
use Rattle.std.proofs.lemmas.List.{take_all}
use Rattle.mock_request.proofs.HeaderLemmas.{more_text}
use Rattle.mock_request.proofs.request_values.headers_are_text.Goals as goal

pub loop-index-preserved : goal.loop-index-preserved
loop-index-preserved c =
    more_text c.args.snapshot.now.headers c.loop-index.index (omega arith) c.loop-index.invariant
    (c.if-not-header_is_text.ensures refl)

pub returns : goal.returns
returns c =
    λ _. subst (All (λ header. IsUtf8 header.value))
    (take_all c.loop-index.index c.args.snapshot.now.headers (omega arith)) c.loop-index.invariant
