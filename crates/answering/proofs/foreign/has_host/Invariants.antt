use Rattle.std.proofs.Common.{take, All}
use Rattle.answering.specs.Foreign.{NamesHost}
use Rattle.answering.proofs.foreign.has_host.Given as goal

abbrev pub invariant-loop-index : goal.invariant-loop-index
invariant-loop-index l = All (λ header. ¬ (NamesHost l.origin header)) (take l.index l.request.headers)
