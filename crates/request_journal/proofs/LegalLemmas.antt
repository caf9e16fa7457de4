-- One more event that is the right answer keeps a past legal.
use Rattle.std.proofs.Common.{◌≡◌, ◌⊎◌, inl, inr, List, [], ◌∷◌, ◌++◌, refl, sym, ap, subst}
use Rattle.request_journal.specs.Legal.{IsLegal, IsNext, BeginsWell}
use Rattle.request_journal.specs.Past.{Past, with_event, with_events}
use Rattle.request_journal.specs.declared.event.Event.{Event}

-- an item of a list with one more at its end is that one, or was there before
abbrev pub IsSplit : {X : Type 0} → List X → X → List X → X → Type 0
IsSplit {X} xs x earlier item =
    ((xs ≡ earlier) × (x ≡ item)) ⊎ ((later : List X) × (xs ≡ earlier ++ item ∷ later))

head_or : {X : Type 0} → X → List X → X
head_or d [] = d
head_or d (x ∷ xs) = x

rest_of : {X : Type 0} → List X → List X
rest_of [] = []
rest_of (x ∷ xs) = xs

abbrev pub HasItem : {X : Type 0} → List X → Type 0
HasItem [] = ⊥
HasItem (x ∷ xs) = Unit {0}

pub has_item : {X : Type 0} (earlier : List X) (item : X) (later : List X) → HasItem (earlier ++ item ∷ later)
has_item [] item later = tt
has_item (y ∷ ys) item later = tt

pub split_last : {X : Type 0} (xs : List X) (x : X) (earlier : List X) (item : X) (later : List X)
    → xs ++ x ∷ [] ≡ earlier ++ item ∷ later → IsSplit xs x earlier item
unfolding head_or rest_of
split_last [] x [] item later e = inl (refl, ap (head_or x) e)
split_last [] x (y ∷ ys) item later e = absurd (subst HasItem (sym (ap rest_of e)) (has_item ys item later))
split_last (y ∷ ys) x [] item later e = inr (ys, λ i. head_or y (e i) ∷ ys)
split_last (y ∷ ys) x (z ∷ zs) item later e =
    elim (split_last ys x zs item later (ap rest_of e)) as (λ _. IsSplit (y ∷ ys) x (z ∷ zs) item) [
      | inl s ↦ inl ((λ i. head_or y (e i) ∷ s.0 i), s.1)
      | inr s ↦ inr (s.0, λ i. head_or y (e i) ∷ s.1 i)
    ]

begins_still : (past : Past) (event : Event) → BeginsWell past → BeginsWell (with_event past event)
begins_still past event begins = elim begins as (λ _. BeginsWell (with_event past event)) [
  | inl same ↦ inl same
  | inr kept ↦ inr (kept.0, kept.1 ++ event ∷ [], ap (λ l. l ++ event ∷ []) kept.2, kept.3)
]

pub legal_after : (past : Past) (event : Event) → IsLegal past
    → IsNext past event → IsLegal (with_event past event)
legal_after past event legal next = record {
  begins = begins_still past event legal.begins;
  has_room = legal.has_room;
  few_live = legal.few_live;
  answers = λ earlier later item e.
      elim (split_last past.events event earlier item later e)
      as (λ _. IsNext (with_events past earlier) item) [
        | inl s ↦ subst (λ es. IsNext (with_events past es) item) s.0
            (subst (λ x. IsNext past x) s.1 next)
        | inr s ↦ legal.answers earlier s.0 item s.1
      ];
}
