use Rattle.std.proofs.Common.{◌≡◌, List, All, ap, subst}
use Rattle.std.specs.Prelude.{Any, MatchOption}
use Rattle.shared_book.proofs.ReceiptLemmas.{own_misplaced, seat_misplaced}
use Rattle.shared_book.specs.Held.{Held, lists}
use Rattle.shared_book.specs.Inner.Misplaced.{IsMisplaced, IsWellPlaced}
use Rattle.shared_book.specs.Inner.Seat.{line_of, lines_in}
use Rattle.shared_book.specs.Receipts.{Line}
use Rattle.shared_book.proofs.misplaced.misplaced_in_seat.Goals as goal

pub returns-in-Some : goal.returns-in-Some
returns-in-Some g c =
    subst (λ (s : Held). Any (IsMisplaced c.args.last c.in-Some.number) (lists s)) c.seat.view_is
    (own_misplaced c.args.last c.in-Some.number (line_of c.seat.inside.lines.own)
    (lines_in c.seat.inside.lines.joined.items) c.in-Some.ensures)

pub returns-in-None : goal.returns-in-None
returns-in-None g c =
    let joined : lines_in c.as_slice.result.now ≡ lines_in c.seat.inside.lines.joined.items =
    ap lines_in c.as_slice.ensures.value in
    subst (λ (s : Held). MatchOption c.misplaced_in_lists.result
    (All (IsWellPlaced c.args.last) (lists s)) (λ n. Any (IsMisplaced c.args.last n) (lists s)))
    c.seat.view_is
    (seat_misplaced c.misplaced_in_lists.result c.args.last (line_of c.seat.inside.lines.own)
    (lines_in c.seat.inside.lines.joined.items) c.in-None.ensures
    (subst (λ (l : List Line).
    MatchOption c.misplaced_in_lists.result
    (All (IsWellPlaced c.args.last) l) (λ n. Any (IsMisplaced c.args.last n) l)) joined
    c.misplaced_in_lists.ensures))
