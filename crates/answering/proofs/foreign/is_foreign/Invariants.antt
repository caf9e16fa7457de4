use Rattle.std.proofs.Common.{take, All}
use Rattle.answering.specs.Foreign.{IsOtherOrigin}
use Rattle.answering.proofs.foreign.is_foreign.Given as goal

abbrev pub invariant-loop-index : goal.invariant-loop-index
invariant-loop-index l = All (λ header. ¬ (IsOtherOrigin l.request.headers header)) (take l.index l.request.headers)
