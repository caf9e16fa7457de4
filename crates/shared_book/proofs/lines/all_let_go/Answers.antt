use Rattle.std.proofs.Common.{◌≡◌, ◌+◌, ◌≤◌, ◌∷◌, ◌++◌, [], List, arith, sym, subst, length-append}
use Rattle.std.specs.List.{AllZip}
use Rattle.shared_book.proofs.HeldLemmas.{all_go_append, lines_more}
use Rattle.shared_book.specs.Held.{LetsGo}
use Rattle.shared_book.specs.Inner.Seat.{lines_in, lines_of}
use Rattle.shared_book.specs.Receipts.{Line}
use Rattle.shared_book.proofs.lines.all_let_go.Goals as goal

pub loop-pile-preserved : goal.loop-pile-preserved
loop-pile-preserved c =
    let steps = c.in-Some.ensures.steps in
    let left : c.loop-pile.pile-iterator.rest.len ≡ c.next.new.self.rest.len + 1 = sym steps.1 in
    record {
      can_next = tt;
      ends = tt;
      lines =
          subst (λ (ls : List Line). AllZip (LetsGo (λ n. n ≤ c.args.last)) ls (lines_in c.add_pile.new.piles.items))
          (sym (lines_more c.loop-pile.yielded c.in-Some.pile))
          (subst (λ (ls : List Line). AllZip (LetsGo (λ n. n ≤ c.args.last))
          (lines_in c.loop-pile.yielded ++ lines_of c.in-Some.pile) ls) (sym c.add_pile.ensures.items)
          (all_go_append (λ n. n ≤ c.args.last) (lines_in c.loop-pile.yielded) (lines_in c.loop-pile.left.items)
          (lines_of c.in-Some.pile) (lines_of c.free-pile.result.0) c.loop-pile.invariant.lines c.free-pile.ensures));
      left = omega (arith, length-append c.loop-pile.yielded (c.in-Some.pile ∷ []), left);
      few = omega (
        arith,
        length-append c.loop-pile.yielded (c.in-Some.pile ∷ []),
        c.add_pile.ensures.length,
        c.loop-pile.invariant.few,
      );
      capacity = omega (arith, c.add_pile.ensures.room, c.loop-pile.invariant.capacity);
    }
