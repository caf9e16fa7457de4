use Rattle.std.proofs.Common.{◌≡◌, length}
use Rattle.http_messages.specs.Wire.{without_end_blanks}
use Rattle.http_messages.proofs.wire.without_end_blanks.Given as goal

abbrev pub invariant-loop-last : goal.invariant-loop-last
invariant-loop-last l = without_end_blanks l.rest ≡ without_end_blanks l.fn.bytes

abbrev pub decreases-loop-last : goal.decreases-loop-last
decreases-loop-last l = length l.rest
