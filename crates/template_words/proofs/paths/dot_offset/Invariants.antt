use Rattle.std.proofs.Common.{length}
use Rattle.template_words.proofs.Dots.{Seen}
use Rattle.template_words.proofs.paths.dot_offset.Given as goal

abbrev pub invariant-loop-rest : goal.invariant-loop-rest
invariant-loop-rest l = Seen l.text l.at l.inside l.rest

abbrev pub decreases-loop-rest : goal.decreases-loop-rest
decreases-loop-rest l = length l.rest
