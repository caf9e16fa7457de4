-- Why seats aren't settled, by a number that shows it.
use Rattle.std.proofs.Common.{◌≡◌, ◌⊎◌, inl, inr, ℕ, List, sym, ap, ◌∙◌, subst}
use Rattle.std.specs.Prelude.{Any}
use Rattle.request_journal.specs.Journal.{event_at}
use Rattle.request_journal.specs.Past.{Past, last_number}
use Rattle.shared_book.specs.Held.{Held, all_lists, all_numbers, all_parts}
use Rattle.shared_book.specs.Inner.Misplaced.{IsMisplaced}
use Rattle.shared_book.specs.Inner.Refusal.{IsRefusalAt}
use Rattle.shared_book.specs.Receipts.{Line, Falls, LetGoAbove}
use Rattle.shared_book.specs.Settled.{IsMiscounted, IsMismatch, IsUnsettled}
use Rattle.shared_book.specs.declared.settled.SettleRefusal.{SettleRefusal}
use Rattle.shared_book.specs.declared.settled.SettleRefusal.TheVariants.{SeatsMissing, Mismatch, OutOfMemory}

unsettled_at : (origin : Past) (parts : ℕ) (past : Past) (seats : List Held) (n : ℕ) (reason : SettleRefusal)
    → all_parts seats ≡ parts → IsMismatch origin past (all_lists seats) n
    → IsRefusalAt (event_at past n) n reason → IsUnsettled origin parts past seats reason
unsettled_at origin parts past seats n SeatsMissing whole wrong refused = absurd refused
unsettled_at origin parts past seats n (Mismatch at kept) whole wrong refused = (
  whole,
  refused.1 ∙ ap (event_at past) (sym refused.0),
  subst (λ (m : ℕ). IsMismatch origin past (all_lists seats) m) (sym refused.0) wrong,
)
unsettled_at origin parts past seats n OutOfMemory whole wrong refused = whole

-- a number that a list shows by itself
placed_wrong : (base n : ℕ) (lines : List Line) → Any (IsMisplaced base n) lines
    → Any (Falls n) lines ⊎ Any (LetGoAbove base n) lines
placed_wrong base n lines (i, line, l, at, inl falls) = inl (i, line, l, at, falls)
placed_wrong base n lines (i, line, l, at, inr above) = inr (i, line, l, at, above)

module _
    (origin : Past) (parts : ℕ) (past : Past) (seats : List Held) (n : ℕ) (reason : SettleRefusal)
    (whole : all_parts seats ≡ parts) (refused : IsRefusalAt (event_at past n) n reason)
  where
    pub unsettled_misplaced : (base : ℕ) → base ≡ past.base.number → Any (IsMisplaced base n) (all_lists seats)
        → IsUnsettled origin parts past seats reason
    unsettled_misplaced base e wrong =
        unsettled_at origin parts past seats n reason whole
        (inr (placed_wrong past.base.number n (all_lists seats)
        (subst (λ (b : ℕ). Any (IsMisplaced b n) (all_lists seats)) e wrong)))
        refused

    pub unsettled_miscounted : (start : ℕ) → start ≡ last_number origin
        → IsMiscounted start (all_numbers (all_lists seats)) n → IsUnsettled origin parts past seats reason
    unsettled_miscounted start e wrong =
        unsettled_at origin parts past seats n reason whole
        (inl (subst (λ (s : ℕ). IsMiscounted s (all_numbers (all_lists seats)) n) e wrong))
        refused
