use Rattle.std.proofs.Common.{◌++◌, ◌∙◌, sym, ap, codes, false, refl}
use Rattle.admin_answers.specs.Inner.Joined.{joined}
use Rattle.admin_answers.proofs.JoinedLemmas.{har_text}
use Rattle.har_export.specs.Document.{json_of_har}
use Rattle.admin_answers.proofs.listing.Listing.of_exchanges.Goals as goal

pub returns-clause-text : goal.returns-clause-text
returns-clause-text c =
    let made = c.in_ok-entries.ensures.texts in
    let end = codes "],\"version\":\"1.2\"}}" in (
      json_of_har made.0,
      (made.0, made.1, refl),
      c.new_listing.ensures
          ∙ ap (λ s. s ++ joined end false c.in_ok-entries.entries) c.in_ok-head.ensures.ok
          ∙ ap (λ ts. codes "{\"log\":{\"creator\":{\"name\":\"mock\",\"version\":\"1\"},\"entries\":["
          ++ joined end false ts) made.2
          ∙ sym (har_text made.0),
    )
