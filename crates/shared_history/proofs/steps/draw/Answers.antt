use Rattle.std.proofs.Common.{ap, sym, ◌∙◌}
use Rattle.shared_history.specs.Inner.Drafts.{no_line}
use Rattle.shared_history.proofs.KeptSteps.{draw_moves}
use Rattle.shared_history.proofs.steps.draw.Goals as goal

pub compare_exchange-requires : goal.compare_exchange-requires
compare_exchange-requires g c =
    let h = c.requires in
    let seen = c.again-seen.ensures in
    let offer = c.plain-offer.ensures in
    let pen = c.no_pen-pen.ensures in
    let book = ap (λ s. s.book) seen ∙ sym (ap (λ w. w.book) h) in (
      ap (λ w. w.tracked) h,
      book,
      pen.0 ∙ book,
      offer.0,
      rw (ap (λ w. w.key) h, pen.1, offer.3) (draw_moves g.C.Rule.may c.again-seen.result.log no_line),
    )
