use Rattle.std.proofs.Common.{◌≤◌, arith}
use Rattle.shared_book.proofs.NumberLemmas.{all_left, contains_left}
use Rattle.shared_book.proofs.misplaced.above.Goals as goal

pub loop-number-preserved : goal.loop-number-preserved
loop-number-preserved c = record {
  all = λ all. c.loop-number.invariant.all
      (all_left (λ n. n ≤ c.args.last) c.loop-number.left c.next.new.self c.in-Some.number c.in-Some.ensures
      (omega (arith, c.if-number-last.false)) all);
  contains = λ n found. c.loop-number.invariant.contains n
      (contains_left c.loop-number.left c.next.new.self c.in-Some.number n c.in-Some.ensures found);
}
