use Rattle.std.proofs.Common.{take, All}
use Rattle.std.specs.Str.{IsUtf8}
use Rattle.mock_request.proofs.request_values.headers_are_text.Given as goal

abbrev pub invariant-loop-index : goal.invariant-loop-index
invariant-loop-index l = All (λ header. IsUtf8 header.value) (take l.index l.snapshot.headers)
