use Rattle.std.proofs.Common.{string_bytes}
use Rattle.admin_answers.proofs.JoinedLemmas.{ended_some}
use Rattle.admin_answers.proofs.listing.piece_from.Goals as goal

pub returns-clause-some : goal.returns-clause-some
returns-clause-some c =
    ended_some c.args.entries.now (string_bytes c.loop-index.piece) (string_bytes c.push_end.new.piece)
    c.in_ok-push_end.ensures
