use Rattle.std.proofs.Common.{ap, sym, ◌∙◌}
use Rattle.shared_history.specs.Inner.Drafts.{no_line}
use Rattle.shared_history.proofs.KeptSteps.{look_moves}
use Rattle.shared_history.proofs.steps.look.Goals as goal

pub compare_exchange-requires : goal.compare_exchange-requires
compare_exchange-requires g c =
    let h = c.requires.name in
    let offer = c.plain-offer.ensures in
    let book = sym (ap (λ w. w.book) h) in (
      ap (λ w. w.tracked) h,
      book,
      c.requires.pen ∙ book,
      offer.0,
      rw (ap (λ w. w.key) h, offer.3)
          (look_moves g.C.Rule.may c.args.seen.now.log no_line c.args.turn.now.nib c.requires.right),
    )
