use Rattle.std.proofs.Common.{List, All, arith, subst}
use Rattle.std.specs.Prelude.{Any}
use Rattle.shared_book.proofs.ReceiptLemmas.{all_flat_more, all_taken, any_flat}
use Rattle.shared_book.specs.Inner.Misplaced.{IsMisplaced, IsWellPlaced}
use Rattle.shared_book.specs.Inner.Seat.{lines_in, lines_of}
use Rattle.shared_book.specs.declared.pile.Pile.{Pile}
use Rattle.shared_book.proofs.misplaced.misplaced_in_lists.Goals as goal

pub returns-in-Some : goal.returns-in-Some
returns-in-Some c =
    any_flat (IsMisplaced c.args.last c.in-Some.number) lines_of c.args.piles.now c.loop-pile.pile-index
    c.pile-item.result (omega arith)
    (subst (λ (p : Pile). Any (IsMisplaced c.args.last c.in-Some.number) (lines_of p)) c.pile-item.is
    c.in-Some.ensures)

pub loop-pile-preserved : goal.loop-pile-preserved
loop-pile-preserved c =
    all_flat_more (IsWellPlaced c.args.last) lines_of c.args.piles.now c.loop-pile.pile-index c.pile-item.result
    (omega arith) c.loop-pile.invariant
    (subst (λ (p : Pile). All (IsWellPlaced c.args.last) (lines_of p)) c.pile-item.is c.in_default.ensures)

pub returns : goal.returns
returns c =
    all_taken (λ (ps : List Pile). All (IsWellPlaced c.args.last) (lines_in ps)) c.args.piles.now
    c.loop-pile.pile-index (omega arith) c.loop-pile.invariant
