-- One turn of the loop over the events, from the last to the first.
use Rattle.std.proofs.Common.{◌≡◌, ℕ, ◌+◌, ◌-◌, ◌<◌, ◌≤◌, true, false, List, [], ◌∷◌, ◌++◌, length, get_or, take}
use Rattle.std.proofs.Common.{Option, None, Some, option_map, sym, ap, ◌∙◌, arith, append-nil, append_assoc}
use Rattle.std.proofs.lemmas.List.{take_more, length-take-le}
use Rattle.std.specs.List.{cons_option}
use Rattle.mock_request.specs.Request.{Request}
use Rattle.request_journal.specs.Journal.{clears}
use Rattle.request_journal.specs.declared.entry.Entry.{Entry}
use Rattle.request_journal.specs.declared.event.Event.{Event}
use Rattle.book_history.specs.Inner.Shown.{entry_of, visible_in}
use Rattle.book_history.proofs.VisibleLemmas.{shown_cleared, shown_more}

module _ (found : Event → Option Request) (before : ℕ) (es : List Event) (k : ℕ) (d : Event)
    (l : k < length es) where
  pub turn_cleared : clears (get_or es k d) ≡ true → visible_in found before (take (k + 1) es) ≡ []
  turn_cleared h =
      ap (visible_in found before) (take_more es k d l) ∙ shown_cleared found before (take k es) (get_or es k d) h

  pub turn_more : clears (get_or es k d) ≡ false
      → visible_in found before (take (k + 1) es)
      ≡ cons_option (entry_of found (record { number = before + k + 1; event = get_or es k d }))
      (visible_in found before (take k es))
  turn_more h =
      let at_end : length (take k es) ≡ k = length-take-le k es (omega arith) in
      let number : before + 1 + length (take k es) ≡ before + k + 1 = omega arith in
      ap (visible_in found before) (take_more es k d l)
      ∙ shown_more found before (take k es) (get_or es k d) h
      ∙ ap (λ n. cons_option (entry_of found (record { number = n; event = get_or es k d }))
      (visible_in found before (take k es))) number

-- the loop: `left` events are to be looked at, `entries` were shown of the others, and `event` is the next one
module _ (found : Event → Option Request) (before : ℕ) (es : List Event) (left : ℕ)
    (entries : List Entry) (event : Event)
    (some : 0 < left) (within : left ≤ length es)
    (so_far : visible_in found before es ≡ entries ++ visible_in found before (take left es))
    (is_next : event ≡ get_or es (left - 1) event) where
  abbrev number : ℕ
  number = before + (left - 1) + 1

  in_range : left - 1 < length es
  in_range = omega arith

  again : left ≡ left - 1 + 1
  again = omega arith

  here : visible_in found before es ≡ entries ++ visible_in found before (take (left - 1 + 1) es)
  here = so_far ∙ ap (λ n. entries ++ visible_in found before (take n es)) again

  pub at_clear : clears event ≡ true → entries ≡ visible_in found before es
  at_clear h =
      sym (here
      ∙ ap (λ l. entries ++ l)
      (turn_cleared found before es (left - 1) event in_range (ap clears (sym is_next) ∙ h))
      ∙ append-nil entries)

  past_it : clears event ≡ false → (o : Option Request) → found event ≡ o
      → visible_in found before es
      ≡ entries ++ cons_option (option_map (λ r. record { number = number; request = r }) o)
      (visible_in found before (take (left - 1) es))
  past_it h o f =
      here
      ∙ ap (λ l. entries ++ l) (turn_more found before es (left - 1) event in_range (ap clears (sym is_next) ∙ h))
      ∙ ap (λ p. entries ++ cons_option (option_map (λ r. record { number = number; request = r }) p)
      (visible_in found before (take (left - 1) es))) (ap found (sym is_next) ∙ f)

  pub past_none : clears event ≡ false → found event ≡ None
      → visible_in found before es ≡ entries ++ visible_in found before (take (left - 1) es)
  past_none h f = past_it h None f

  pub past_some : clears event ≡ false → (request : Request) → found event ≡ Some request
      → (more : List Entry) → more ≡ entries ++ record { number = number; request = request } ∷ []
      → visible_in found before es ≡ more ++ visible_in found before (take (left - 1) es)
  past_some h request f more m =
      past_it h (Some request) f
      ∙ sym (append_assoc entries (record { number = number; request = request } ∷ [])
      (visible_in found before (take (left - 1) es)))
      ∙ ap (λ l. l ++ visible_in found before (take (left - 1) es)) (sym m)
