-- What one more event does to what the journal shows.
use Rattle.std.proofs.Common.{◌≡◌, ℕ, ◌+◌, Bool, true, false, ◌||◌, cond, List, [], ◌∷◌, ◌++◌}
use Rattle.std.proofs.Common.{length, Option, Some, None, refl, ap, ◌∙◌, arith, reverse, option_map}
use Rattle.std.specs.List.{list_any, filter_map, cons_option}
use Rattle.mock_request.specs.Request.{Request}
use Rattle.request_journal.specs.Events.{Numbered, numbered, after_last}
use Rattle.request_journal.specs.Journal.{clears, visible}
use Rattle.request_journal.specs.declared.entry.Entry.{Entry}
use Rattle.request_journal.specs.Past.{Past, with_event, last_number, numbered_events}
use Rattle.request_journal.specs.declared.event.Event.{Event}
use Rattle.request_journal.proofs.LiveLemmas.{any_one}

pub numbered_one : (number : ℕ) (es : List Event) (e : Event)
    → numbered number (es ++ e ∷ [])
    ≡ numbered number es ++ record { number = number + length es; event = e } ∷ []
numbered_one number [] e = ap (λ n. record { number = n; event = e } ∷ []) (omega arith)
numbered_one number (y ∷ ys) e =
    ap (λ l. record { number = number; event = y } ∷ l)
    (numbered_one (number + 1) ys e
    ∙ ap (λ n. numbered (number + 1) ys ++ record { number = n; event = e } ∷ []) (omega arith))

pub numbered_after : (past : Past) (e : Event)
    → numbered_events (with_event past e)
    ≡ numbered_events past ++ record { number = last_number past + 1; event = e } ∷ []
numbered_after past e =
    numbered_one (past.base.number + 1) past.events e
    ∙ ap (λ n. numbered_events past ++ record { number = n; event = e } ∷ []) (omega arith)

or_true : (p : Bool) → (p || true) ≡ true
or_true true = refl
or_true false = refl

or_is_false : (p : Bool) → (p || false) ≡ p
or_is_false true = refl
or_is_false false = refl

-- nothing is after the last item that passes, where it is the last of all
pub after_passing
    : {X : Type 0} (test : X → Bool) (xs : List X) (x : X) → test x ≡ true
    → after_last test (xs ++ x ∷ []) ≡ []
after_passing test [] x h = ap (λ b. cond (b || false) [] (x ∷ [])) h
after_passing test (y ∷ ys) x h =
    ap (λ b. cond (test y || b) (after_last test (ys ++ x ∷ [])) (y ∷ (ys ++ x ∷ [])))
    (any_one test ys x ∙ ap (λ b. list_any test ys || b) h ∙ or_true (list_any test ys))
    ∙ ap (λ b. cond b (after_last test (ys ++ x ∷ [])) (y ∷ (ys ++ x ∷ []))) (or_true (test y))
    ∙ after_passing test ys x h

-- an item that doesn't pass is after it
pub after_other : {X : Type 0} (test : X → Bool) (xs : List X) (x : X) → test x ≡ false
    → after_last test (xs ++ x ∷ []) ≡ after_last test xs ++ x ∷ []
after_other test [] x h = ap (λ b. cond (b || false) [] (x ∷ [])) h
after_other test (y ∷ ys) x h =
    ap (λ b. cond (test y || b) (after_last test (ys ++ x ∷ [])) (y ∷ (ys ++ x ∷ [])))
    (any_one test ys x ∙ ap (λ b. list_any test ys || b) h ∙ or_is_false (list_any test ys))
    ∙ elim (test y || list_any test ys)
    as (λ b. cond b (after_last test (ys ++ x ∷ [])) (y ∷ (ys ++ x ∷ []))
    ≡ cond b (after_last test ys) (y ∷ ys) ++ x ∷ []) [
      | true ↦ after_other test ys x h
      | false ↦ refl
    ]

pub found_one : {X Y : Type 0} (f : X → Option Y) (xs : List X) (x : X)
    → filter_map f (xs ++ x ∷ []) ≡ filter_map f xs ++ cons_option (f x) []
found_one f [] x = refl
found_one f (y ∷ ys) x =
    elim (f y) as (λ o. cons_option o (filter_map f (ys ++ x ∷ []))
    ≡ cons_option o (filter_map f ys) ++ cons_option (f x) []) [
      | None ↦ found_one f ys x
      | Some z ↦ ap (λ l. z ∷ l) (found_one f ys x)
    ]

abbrev entry_of : (Event → Option Request) → Numbered → Option Entry
entry_of found n = option_map (λ r. record { number = n.number; request = r }) (found n.event)

-- an event that clears leaves nothing to be seen
pub visible_after_clear : (found : Event → Option Request) (past : Past) (e : Event) → clears e ≡ true
    → visible found (with_event past e) ≡ reverse []
visible_after_clear found past e h =
    ap (λ l. reverse (filter_map (entry_of found) (after_last (λ n. clears n.event) l))) (numbered_after past e)
    ∙ ap (λ l. reverse (filter_map (entry_of found) l))
    (after_passing (λ n. clears n.event) (numbered_events past)
    (record { number = last_number past + 1; event = e }) h)

-- another event adds what is found in it, as the newest
pub visible_after : (found : Event → Option Request) (past : Past) (e : Event) → clears e ≡ false
    → visible found (with_event past e)
    ≡ reverse (filter_map (entry_of found) (after_last (λ n. clears n.event) (numbered_events past))
    ++ cons_option (entry_of found (record { number = last_number past + 1; event = e })) [])
visible_after found past e h =
    let last : Numbered = record { number = last_number past + 1; event = e } in
    ap (λ l. reverse (filter_map (entry_of found) (after_last (λ n. clears n.event) l))) (numbered_after past e)
    ∙ ap (λ l. reverse (filter_map (entry_of found) l))
    (after_other (λ n. clears n.event) (numbered_events past) last h)
    ∙ ap reverse (found_one (entry_of found) (after_last (λ n. clears n.event) (numbered_events past)) last)
