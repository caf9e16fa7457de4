use Rattle.std.proofs.Common.{ap, sym, ◌∙◌, refl}
use Rattle.shared_history.specs.Inner.Drafts.{drafted}
use Rattle.shared_history.proofs.KeptSteps.{add_moves}
use Rattle.shared_history.proofs.steps.add.Goals as goal

pub compare_exchange-found-requires : goal.compare_exchange-found-requires
compare_exchange-found-requires g c =
    let h = c.requires.name in
    let offer = c.plain-offer.ensures in
    let book = sym (ap (λ w. w.book) h) in (
      ap (λ w. w.tracked) h,
      book,
      c.requires.pen ∙ book,
      offer.0,
      rw (ap (λ w. w.key) h, offer.1, offer.3)
          (add_moves g.C.Rule.may c.args.seen.now.log
          (drafted c.args.seat c.args.ask c.args.turn.now.nib c.args.next.now.nib c.args.child.now.nib)
          c.args.count c.args.turn.now.nib c.requires.right refl c.requires.long c.requires.allowed),
    )
