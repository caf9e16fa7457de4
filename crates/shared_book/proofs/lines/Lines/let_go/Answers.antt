use Rattle.std.proofs.Common.{◌≤◌}
use Rattle.shared_book.proofs.HeldLemmas.{all_go_none}
use Rattle.shared_book.specs.Inner.Seat.{lines_in}
use Rattle.shared_book.proofs.lines.Lines.let_go.Goals as goal

pub returns-then-self-clause-joined : goal.returns-then-self-clause-joined
returns-then-self-clause-joined c =
    all_go_none (λ n. n ≤ c.greater-self.result) (lines_in c.args.self.now.joined.items)
