use Rattle.std.proofs.Common.{◌≡◌, ◌+◌, ◌∷◌, ◌++◌, [], List, arith, ap, ◌∙◌, sym, length-append}
use Rattle.shared_book.proofs.HeldLemmas.{filled_more, lines_more}
use Rattle.shared_book.specs.Held.{filled}
use Rattle.shared_book.specs.Inner.Seat.{line_of, lines_in, lines_of}
use Rattle.shared_book.specs.Receipts.{Line}
use Rattle.shared_book.proofs.lines.add_lists.Goals as goal

pub loop-pile-preserved : goal.loop-pile-preserved
loop-pile-preserved c =
    let steps = c.in-Some.ensures.steps in
    let left : c.loop-pile.pile-iterator.rest.len ≡ c.next.new.self.rest.len + 1 = sym steps.1 in
    record {
      can_next = tt;
      ends = tt;
      items =
          c.add_filled.ensures.items
          ∙ ap (λ (l : List Line). l ++ filled (lines_of c.in-Some.pile)) c.loop-pile.invariant.items
          ∙ filled_more (lines_in c.args.piles.now.items) (lines_in c.loop-pile.yielded)
          (lines_of c.in-Some.pile) (line_of c.args.own)
          ∙ ap (λ (l : List Line). lines_in c.args.piles.now.items ++ filled (line_of c.args.own ∷ l))
          (sym (lines_more c.loop-pile.yielded c.in-Some.pile));
      left = omega (arith, length-append c.loop-pile.yielded (c.in-Some.pile ∷ []), left);
      room = omega (
        arith,
        length-append c.loop-pile.yielded (c.in-Some.pile ∷ []),
        c.add_filled.ensures.length,
        c.add_filled.ensures.room,
      );
    }
