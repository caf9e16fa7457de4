use Rattle.std.proofs.Common.{◌≡◌, ◌++◌, ◌∙◌, ℕ, List, OnOk, sym, subst, ap}
use Rattle.std.specs.List.{concat}
use Rattle.shared_book.proofs.HeldLemmas.{numbers_free}
use Rattle.shared_book.specs.Held.{all_numbers}
use Rattle.shared_book.specs.Inner.Seat.{lines_of}
use Rattle.shared_book.specs.declared.pile.Pile.{Pile}
use Rattle.shared_book.proofs.gather.number_pile.Goals as goal

pub returns-in-Short : goal.returns-in-Short
returns-in-Short c =
    let more : concat c.in-Short.lists ≡ all_numbers (lines_of c.args.pile.now) =
    sym (numbers_free c.in-Short.lists) ∙ ap (λ (p : Pile). all_numbers (lines_of p)) (sym c.in-Short.is) in
    subst (λ (ns : List ℕ). OnOk c.add_to.result (c.add_to.new.all.items ≡ c.args.all.now.items ++ ns)) more
    c.add_to.ensures
