use Rattle.std.proofs.Common.{◌≤◌}
use Rattle.shared_book.proofs.HeldLemmas.{all_go_none}
use Rattle.shared_book.specs.Inner.Seat.{lines_in}
use Rattle.shared_book.proofs.lines.let_all_go.Goals as goal

pub returns-in_default-clause-lines : goal.returns-in_default-clause-lines
returns-in_default-clause-lines c = all_go_none (λ n. n ≤ c.args.last) (lines_in c.args.piles.now.items)

pub returns-in_default-with_capacity-clause-lines : goal.returns-in_default-with_capacity-clause-lines
returns-in_default-with_capacity-clause-lines c =
    all_go_none (λ n. n ≤ c.args.last) (lines_in c.args.piles.now.items)
