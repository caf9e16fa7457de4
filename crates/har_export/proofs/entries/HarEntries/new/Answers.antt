use Rattle.std.proofs.Common.{◌∙◌, ap, subst}
use Rattle.har_export.specs.Document.{AreEntries}
use Rattle.har_export.specs.Inner.Timed.{texts_of_timed}
use Rattle.har_export.proofs.TimedLemmas.{items_of_timed, timed_are, timed_texts}
use Rattle.har_export.proofs.entries.HarEntries.new.Goals as goal

pub returns-clause-texts : goal.returns-clause-texts
returns-clause-texts c =
    let target = c.args.target.now in
    let timed = c.in_ok-timed.timed.items in (
      items_of_timed target timed,
      subst (λ xs. AreEntries target xs (items_of_timed target timed)) c.in_ok-timed.ensures (timed_are target timed),
      ap (λ t. texts_of_timed t timed) c.in_ok-target.ensures.cases ∙ timed_texts target timed,
    )
