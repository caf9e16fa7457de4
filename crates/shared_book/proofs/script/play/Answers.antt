use Rattle.shared_book.proofs.ScriptLemmas.{plays_on}
use Rattle.shared_book.proofs.script.play.Goals as goal

pub loop-call-preserved : goal.loop-call-preserved
loop-call-preserved g c = record {
  can_next = tt;
  ends = tt;
  played = plays_on g.L.Origin.origin c.args.seat c.loop-call.seat c.play_call.new.seat c.loop-call.yielded
      c.in-Some.call c.loop-call.invariant.played c.play_call.ensures;
}
