use Rattle.shared_book.specs.Script.{Plays}
use Rattle.shared_book.proofs.script.play.Given as goal

abbrev pub invariant-loop-call : goal.invariant-loop-call
invariant-loop-call g l = record {
  can_next : (goal.iterator-loop-call g).can_next l.call-iterator;
  ends : (goal.iterator-loop-call g).is_finite l.call-iterator;
  played : Plays g.L.Origin.origin l.fn.seat l.seat l.yielded;
}
