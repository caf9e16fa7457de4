use Rattle.shared_book.proofs.ReceiptLemmas.{line_misplaced}
use Rattle.shared_book.specs.Inner.Seat.{line_of}
use Rattle.shared_book.proofs.misplaced.misplaced_in_list.Goals as goal

pub returns-in-None : goal.returns-in-None
returns-in-None c =
    line_misplaced c.let_go_above.result c.args.last (line_of c.args.list.now) c.in-None.ensures
    c.let_go_above.ensures
