use Rattle.std.proofs.Common.{refl, sym, ◌∙◌}
use Rattle.shared_history.proofs.Growing.{first_turn}
use Rattle.shared_history.proofs.opened.Opened.new.Goals as goal

pub invariant_of-result : goal.invariant_of-result
invariant_of-result g c =
    let opened = c.open-seen.ensures in
    let book = c.add.ensures.book in
    rw (c.add.ensures.added, opened.1)
    (record {
      head_is = rw book (c.tracked-head.ensures.0 ∙ rw (opened.2, opened.4) refl);
      pen_name = c.draw-next.ensures.book ∙ sym book;
      right = c.draw-next.ensures.right;
      one = refl;
      has = first_turn g.C.Rule.may c.args.origin.now c.draw-turn.result.nib.key c.draw-next.result.nib.key;
    })
