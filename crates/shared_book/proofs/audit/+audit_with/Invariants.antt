use Rattle.std.proofs.Common.{length}
use Rattle.shared_book.proofs.audit.+audit_with.Given as goal

abbrev pub decreases-audit_with : goal.decreases-audit_with
decreases-audit_with g l = length l.seats.now
