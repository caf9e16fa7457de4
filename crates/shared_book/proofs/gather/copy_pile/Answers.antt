use Rattle.std.proofs.Common.{◌≡◌, ◌++◌, List, append-nil, sym, subst, ap, ◌∙◌}
use Rattle.shared_book.proofs.HeldLemmas.{receipts_free}
use Rattle.shared_book.specs.Held.{receipts_of}
use Rattle.shared_book.specs.Inner.Seat.{lines_of}
use Rattle.shared_book.specs.declared.pile.Pile.{Pile}
use Rattle.shared_book.specs.declared.receipt.Receipt.{Receipt}
use Rattle.shared_book.proofs.gather.copy_pile.Goals as goal

pub returns-in-Short : goal.returns-in-Short
returns-in-Short c =
    subst (λ (p : Pile). c.args.all.now.items ≡ c.args.all.now.items ++ receipts_of (lines_of p))
    (sym c.in-Short.is)
    (sym (append-nil c.args.all.now.items)
    ∙ ap (λ (l : List Receipt). c.args.all.now.items ++ l) (sym (receipts_free c.in-Short.field-0)))
