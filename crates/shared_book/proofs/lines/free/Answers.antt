use Rattle.std.proofs.Common.{◌≤◌, map, sym, subst}
use Rattle.std.specs.List.{AllZip}
use Rattle.shared_book.proofs.HeldLemmas.{all_go_none}
use Rattle.shared_book.specs.Held.{LetsGo}
use Rattle.shared_book.specs.Inner.Seat.{lines_of, free_line}
use Rattle.shared_book.specs.declared.pile.Pile.{Pile}
use Rattle.shared_book.proofs.lines.free.Goals as goal

pub returns-in-Short : goal.returns-in-Short
returns-in-Short c =
    subst (λ (p : Pile). AllZip (LetsGo (λ n. n ≤ c.args.last)) (lines_of p)
    (map free_line c.in-Short.lists)) (sym c.in-Short.is)
    (all_go_none (λ n. n ≤ c.args.last) (map free_line c.in-Short.lists))
