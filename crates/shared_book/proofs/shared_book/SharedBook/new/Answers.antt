use Rattle.std.proofs.Common.{[], ◌∷◌, ap, ◌∙◌}
use Rattle.request_journal.specs.Past.{Past}
use Rattle.shared_book.proofs.ReachedLemmas.{lawful_opened}
use Rattle.shared_history.specs.Entries.{opening}
use Rattle.shared_book.proofs.shared_book.SharedBook.new.Goals as goal

pub new-requires-4-clause-lawful : goal.new-requires-4-clause-lawful
new-requires-4-clause-lawful g c =
    lawful_opened g.L.Origin.origin c.named-history.result.1.seen
    (c.named-history.ensures.front ∙ c.requires.opened ∙ ap (λ (p : Past). opening p ∷ []) c.requires.origin)
