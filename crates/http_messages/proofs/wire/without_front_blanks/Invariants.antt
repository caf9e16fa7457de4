use Rattle.std.proofs.Common.{◌≡◌, length}
use Rattle.http_messages.specs.Wire.{without_front_blanks}
use Rattle.http_messages.proofs.wire.without_front_blanks.Given as goal

abbrev pub invariant-loop-first : goal.invariant-loop-first
invariant-loop-first l = without_front_blanks l.rest ≡ without_front_blanks l.fn.bytes

abbrev pub decreases-loop-first : goal.decreases-loop-first
decreases-loop-first l = length l.rest
