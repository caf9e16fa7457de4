-- The numbers of the requests that a journal shows are at most that of the last event.
use Rattle.std.proofs.Common.{◌≡◌, ℕ, ◌+◌, ◌≤◌, ◌<◌, arith, List, [], ◌∷◌, Bool, true, false, cond, length}
use Rattle.std.proofs.Common.{Option, Some, None, refl}
use Rattle.std.specs.Prelude.{option_map, filter_map}
use Rattle.std.specs.List.{AllByRecursion, list_any}
use mathlib.Core.List.{reverse_aux}
use Rattle.mock_request.specs.Request.{Request}
use Rattle.request_journal.specs.Events.{Numbered, numbered, after_last}
use Rattle.request_journal.specs.Journal.{clears, visible}
use Rattle.request_journal.specs.Past.{Past, last_number, numbered_events}
use Rattle.request_journal.specs.declared.entry.Entry.{Entry}
use Rattle.request_journal.specs.declared.event.Event.{Event}

-- each entry has a number below that one
abbrev pub AreBelow : ℕ → List Entry → Type 0
AreBelow bound entries = AllByRecursion (λ entry. entry.number < bound) entries

abbrev are_below : ℕ → List Numbered → Type 0
are_below bound events = AllByRecursion (λ n. n.number < bound) events

numbered_below
    : (bound number : ℕ) (events : List Event) → number + length events ≤ bound
    → are_below bound (numbered number events)
numbered_below bound number [] fits = tt
numbered_below bound number (e ∷ events) fits =
    (omega arith, numbered_below bound (number + 1) events (omega arith))

last_below_at
    : (bound : ℕ) (any : Bool) (later events : List Numbered) → are_below bound later → are_below bound events
    → are_below bound (cond any later events)
last_below_at bound true later events less all = less
last_below_at bound false later events less all = all

last_below
    : (bound : ℕ) (test : Numbered → Bool) (events : List Numbered) → are_below bound events
    → are_below bound (after_last test events)
last_below bound test [] all = tt
last_below bound test (n ∷ events) all =
    last_below_at bound (list_any test (n ∷ events)) (after_last test events) (n ∷ events)
    (last_below bound test events all.1) all

abbrev entry_with : Numbered → Request → Entry
entry_with n r = record { number = n.number; request = r }

one_below
    : (bound : ℕ) (n : Numbered) (o : Option Request) (f : Numbered → Option Entry) (events : List Numbered)
    → f n ≡ option_map (entry_with n) o → n.number < bound → AreBelow bound (filter_map f events)
    → AreBelow bound (filter_map f (n ∷ events))
one_below bound n None f events is less rest = rw is rest
one_below bound n (Some r) f events is less rest = rw is (less, rest)

found_below
    : (bound : ℕ) (found : Event → Option Request) (events : List Numbered) → are_below bound events
    → AreBelow bound (filter_map (λ n. option_map (entry_with n) (found n.event)) events)
found_below bound found [] all = tt
found_below bound found (n ∷ events) all =
    one_below bound n (found n.event) (λ n. option_map (entry_with n) (found n.event)) events refl all.0
    (found_below bound found events all.1)

reversed_onto
    : (bound : ℕ) (xs ys : List Entry) → AreBelow bound xs → AreBelow bound ys → AreBelow bound (reverse_aux xs ys)
reversed_onto bound [] ys first last = last
reversed_onto bound (x ∷ xs) ys first last = reversed_onto bound xs (x ∷ ys) first.1 (first.0, last)

pub below_more : (bound more : ℕ) (xs : List Entry) → bound ≤ more → AreBelow bound xs → AreBelow more xs
below_more bound more [] up all = tt
below_more bound more (x ∷ xs) up all = (omega (arith, all.0), below_more bound more xs up all.1)

pub visible_below
    : (bound : ℕ) (found : Event → Option Request) (past : Past) → last_number past < bound
    → AreBelow bound (visible found past)
visible_below bound found past less =
    reversed_onto bound _ []
    (found_below bound found _
    (last_below bound (λ n. clears n.event) (numbered_events past)
    (numbered_below bound (past.base.number + 1) past.events (omega arith)))) tt
