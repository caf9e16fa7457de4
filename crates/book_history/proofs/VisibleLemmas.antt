-- What a list of events shows after one more, and what is picked from a list after one more.
use Rattle.std.proofs.Common.{◌≡◌, inl, inr, ℕ, ◌+◌, Bool, true, false, List, [], ◌∷◌, ◌++◌, length, Option, None, Some}
use Rattle.std.proofs.Common.{refl, sym, ap, subst, ◌∙◌, append-nil, reverse, get_or, take, ◌<◌}
use Rattle.std.proofs.lemmas.List.{reverse-append, take_more}
use Rattle.std.specs.List.{filter_map, cons_option}
use Rattle.mock_request.specs.Request.{Request}
use Rattle.request_journal.specs.Events.{Numbered, numbered, after_last}
use Rattle.request_journal.specs.Journal.{clears, Picks}
use Rattle.request_journal.specs.declared.event.Event.{Event}
use Rattle.request_journal.proofs.JournalLemmas.{numbered_one, after_passing, after_other, found_one}
use Rattle.book_history.specs.Inner.Shown.{entry_of, visible_in}

abbrev does_clear : Numbered → Bool
does_clear n = clears n.event

last_of_all : {X : Type 0} (xs : List X) (o : Option X)
    → reverse (xs ++ cons_option o []) ≡ cons_option o (reverse xs)
last_of_all xs None = ap reverse (append-nil xs)
last_of_all xs (Some x) = reverse-append xs (x ∷ [])

module _ (found : Event → Option Request) (before : ℕ) (es : List Event) (e : Event) where
  abbrev last : Numbered
  last = record { number = before + 1 + length es; event = e }

  pub shown_cleared : clears e ≡ true → visible_in found before (es ++ e ∷ []) ≡ []
  shown_cleared h =
      ap (λ l. reverse (filter_map (entry_of found) (after_last does_clear l))) (numbered_one (before + 1) es e)
      ∙ ap (λ l. reverse (filter_map (entry_of found) l))
      (after_passing does_clear (numbered (before + 1) es) last h)

  pub shown_more : clears e ≡ false
      → visible_in found before (es ++ e ∷ []) ≡ cons_option (entry_of found last) (visible_in found before es)
  shown_more h =
      ap (λ l. reverse (filter_map (entry_of found) (after_last does_clear l))) (numbered_one (before + 1) es e)
      ∙ ap (λ l. reverse (filter_map (entry_of found) l)) (after_other does_clear (numbered (before + 1) es) last h)
      ∙ ap reverse (found_one (entry_of found) (after_last does_clear (numbered (before + 1) es)) last)
      ∙ last_of_all (filter_map (entry_of found)
      (after_last does_clear (numbered (before + 1) es))) (entry_of found last)

module _ {X : Type 0} (P : X → Type 0) where
  pub picked : (xs ys : List X) (x : X) → Picks P xs ys → P x → Picks P (xs ++ x ∷ []) (ys ++ x ∷ [])
  picked [] ys x h p = inl ([], ap (λ zs. zs ++ x ∷ []) h, p, refl)
  picked (z ∷ zs) ys x (inl h) p =
      inl (h.0 ++ x ∷ [], ap (λ l. l ++ x ∷ []) h.1, h.2, picked zs h.0 x h.3 p)
  picked (z ∷ zs) ys x (inr h) p = inr (h.0, picked zs ys x h.1 p)

  pub left_out : (xs ys : List X) (x : X) → Picks P xs ys → ¬ (P x) → Picks P (xs ++ x ∷ []) ys
  left_out [] ys x h p = inr (p, h)
  left_out (z ∷ zs) ys x (inl h) p = inl (h.0, h.1, h.2, left_out zs h.0 x h.3 p)
  left_out (z ∷ zs) ys x (inr h) p = inr (h.0, left_out zs ys x h.1 p)

  -- the loop over `xs`, at the item `x` with this index
  module _ (xs : List X) (index : ℕ) (x : X) (in_range : index < length xs)
      (is_item : x ≡ get_or xs index x) (ys : List X)
      (so_far : Picks P (take index xs) ys) where
    one_more : take index xs ++ x ∷ [] ≡ take (index + 1) xs
    one_more = ap (λ y. take index xs ++ y ∷ []) is_item ∙ sym (take_more xs index x in_range)

    pub turn_picked : P x → (more : List X) → more ≡ ys ++ x ∷ [] → Picks P (take (index + 1) xs) more
    turn_picked p more m =
        subst (λ (zs : List X). Picks P (take (index + 1) xs) zs) (sym m)
        (subst (λ (zs : List X). Picks P zs (ys ++ x ∷ [])) one_more (picked (take index xs) ys x so_far p))

    pub turn_left_out : ¬ (P x) → (more : List X) → more ≡ ys → Picks P (take (index + 1) xs) more
    turn_left_out p more m =
        subst (λ (zs : List X). Picks P (take (index + 1) xs) zs) (sym m)
        (subst (λ (zs : List X). Picks P zs ys) one_more (left_out (take index xs) ys x so_far p))
