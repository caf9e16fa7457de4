use Rattle.code_verifier.proofs.PassFacts.{IsKnown}
use Rattle.code_verifier.proofs.pass.pass.Given as goal

abbrev pub invariant-loop-index : goal.invariant-loop-index
invariant-loop-index l = IsKnown l.code l.index l.known.stack l.known.loops l.known.targets l.known.cost
