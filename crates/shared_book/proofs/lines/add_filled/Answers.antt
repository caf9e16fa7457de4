use Rattle.std.proofs.Common.{◌++◌, ◌∙◌, List, sym, ap}
use Rattle.shared_book.proofs.HeldLemmas.{filled_free}
use Rattle.shared_book.specs.Held.{filled}
use Rattle.shared_book.specs.Inner.Seat.{lines_in, lines_of}
use Rattle.shared_book.specs.Receipts.{Line}
use Rattle.shared_book.specs.declared.pile.Pile.{Pile}
use Rattle.shared_book.proofs.lines.add_filled.Goals as goal

pub returns-in-Short-clause-items : goal.returns-in-Short-clause-items
returns-in-Short-clause-items c =
    c.add_pile.ensures.items
    ∙ ap (λ (l : List Line). lines_in c.args.piles.now.items ++ l) (sym (filled_free c.in-Short.lists c.are_filled.ensures))
    ∙ ap (λ (p : Pile). lines_in c.args.piles.now.items ++ filled (lines_of p)) (sym c.in-Short.is)
