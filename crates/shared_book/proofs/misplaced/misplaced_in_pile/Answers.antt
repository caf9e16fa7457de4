use Rattle.std.proofs.Common.{All, subst, sym}
use Rattle.std.specs.Prelude.{Any, MatchOption}
use Rattle.shared_book.specs.Inner.Misplaced.{IsMisplaced, IsWellPlaced}
use Rattle.shared_book.specs.Inner.Seat.{lines_of}
use Rattle.shared_book.specs.declared.pile.Pile.{Pile}
use Rattle.shared_book.proofs.misplaced.misplaced_in_pile.Goals as goal

pub returns-in-Short : goal.returns-in-Short
returns-in-Short c =
    subst (λ (p : Pile). MatchOption c.misplaced.result (All (IsWellPlaced c.args.last) (lines_of p))
    (λ n. Any (IsMisplaced c.args.last n) (lines_of p))) (sym c.in-Short.is) c.misplaced.ensures
