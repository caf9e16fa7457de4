-- A past that grew by an event.
use Rattle.std.proofs.Common.{◌≡◌, ◌⊎◌, ◌≤◌, ℕ, Bool, true, false, List, [], ◌∷◌, ◌++◌}
use Rattle.std.proofs.Common.{length, refl, ap, subst, sym, ◌∙◌, inl, inr, append-nil}
use Rattle.std.specs.Prelude.{MatchBool, unwrap_or}
use Rattle.request_journal.specs.Journal.{clears}
use Rattle.request_journal.specs.Legal.{IsLegal, IsCheckpoint}
use Rattle.request_journal.specs.Live.{left_by, live}
use Rattle.request_journal.specs.Past.{Past, with_event, with_events}
use Rattle.request_journal.specs.State.{state, touch}
use Rattle.request_journal.specs.declared.event.Event.{Event}
use Rattle.request_journal.specs.declared.limits.TheConstants.{LIVE_LIMIT}
use Rattle.request_journal.proofs.CheckpointLemmas.{legal_at_clear}
use Rattle.request_journal.proofs.LegalLemmas.{legal_after}
use Rattle.request_journal.proofs.LiveLemmas.{left_by_none, state_after, state_at_checkpoint}
use Rattle.stub_book.specs.Growth.{Grows, IsAfter}

-- the event was added to the past, or to a checkpoint of it, where it clears the journal
abbrev pub IsAdded : Past → Event → Past → Type 0
IsAdded old event new =
    (new ≡ with_event old event)
    ⊎ ((base : Past) × (clears event ≡ true) × IsCheckpoint old base × (new ≡ with_event base event))

pub added : (old new : Past) (event : Event) → IsAfter old event new → IsAdded old event new
added old new event after = go (clears event) refl after
  where
    go : (t : Bool) → clears event ≡ t
        → MatchBool t ((base : Past) × IsCheckpoint old base × (new ≡ with_event base event))
        (new ≡ with_event old event) → IsAdded old event new
    go true is (base, checkpoint, same) = inr (base, is, checkpoint, same)
    go false is same = inl same

-- ---- states

pub state_grown : (old new : Past) (event : Event) (name : List ℕ) → Grows old new event
    → state new name ≡ unwrap_or (touch name event) (state old name)
state_grown old new event name grows = elim (added old new event grows.after) [
  | inl same ↦ ap (λ (p : Past). state p name) same ∙ state_after old event name
  | inr cleared ↦ ap (λ (p : Past). state p name) cleared.3 ∙ state_after cleared.0 event name
      ∙ ap (unwrap_or (touch name event)) (state_at_checkpoint old cleared.0 cleared.2 name)
]

-- ---- legal pasts

abbrev EndsWith : {X : Type 0} → List X → Type 0
EndsWith {X} xs = (xs ≡ []) ⊎ ((front : List X) × (last : X) × (xs ≡ front ++ last ∷ []))

end_of : {X : Type 0} (xs : List X) → EndsWith xs
end_of [] = inl refl
end_of (x ∷ xs) = elim (end_of xs) [
  | inl none ↦ inr ([], x, ap (λ l. x ∷ l) none)
  | inr last ↦ inr (x ∷ last.0, last.1, ap (λ l. x ∷ l) last.2)
]

-- a legal past has no more live mappings than there may be
few_live : (past : Past) → IsLegal past → length (live past) ≤ LIVE_LIMIT
few_live past legal = elim (end_of past.events) [
  | inl none ↦
      let same : live past ≡ live (with_events past []) = ap (λ es. live (with_events past es)) none in
      let base : live (with_events past []) ≡ past.base.live =
      append-nil (left_by [] past.base.live) ∙ left_by_none past.base.live in
      subst (λ l. length l ≤ LIVE_LIMIT) (sym (same ∙ base)) legal.few_live
  | inr last ↦
      subst (λ es. length (live (with_events past es)) ≤ LIVE_LIMIT) (sym last.2)
      (legal.answers last.0 [] last.1 last.2).few_live
]

pub legal_grown : (old new : Past) (event : Event) → IsLegal old → Grows old new event → IsLegal new
legal_grown old new event legal grows = elim (added old new event grows.after) [
  | inl same ↦ subst IsLegal (sym same) (legal_after old event legal grows.next)
  | inr cleared ↦ subst IsLegal (sym cleared.3)
      (legal_at_clear old cleared.0 event cleared.2 cleared.1 grows.next (few_live old legal))
]
