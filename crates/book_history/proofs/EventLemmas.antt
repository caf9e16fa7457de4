-- The event of a number, by its index.
use Rattle.std.proofs.Common.{◌≡◌, ℕ, ◌+◌, ◌-◌, ◌<◌, ◌≤◌, zero, suc, Bool, true, false, ◌==◌, cond, List, [], ◌∷◌}
use Rattle.std.proofs.Common.{Option, None, Some, option_map, length, refl, sym, ap, ◌∙◌, arith, find}
use Rattle.std.proofs.lemmas.Bool.Decides.{nat_tests}
use Rattle.std.proofs.lemmas.Option.{slice_get_past, slice_get_read}
use Rattle.std.specs.Borrow.{Bor}
use Rattle.std.specs.List.{slice_get}
use Rattle.std.specs.Option.{option_copied}
use Rattle.std.specs.Slice.{IsItemAt}
use Rattle.request_journal.specs.Events.{Numbered, numbered}
use Rattle.request_journal.specs.Journal.{event_at}
use Rattle.request_journal.specs.Past.{Past}
use Rattle.request_journal.specs.declared.event.Event.{Event}

abbrev has_number : ℕ → Numbered → Bool
has_number number n = n.number == number

differs : (a b : ℕ) → b < a → (a == b) ≡ false
differs a b l = grind (arith, nat_tests)

differs_up : (a b : ℕ) → a < b → (a == b) ≡ false
differs_up a b l = grind (arith, nat_tests)

same : (a b : ℕ) → a ≡ b → (a == b) ≡ true
same a b e = grind (arith, nat_tests)

found_at : (first : ℕ) (es : List Event) (index number : ℕ) → number ≡ first + index
    → option_map (λ n. n.event) (find (has_number number) (numbered first es)) ≡ slice_get es index
found_at first [] index number e = refl
found_at first (x ∷ xs) zero number e =
    ap (λ b. option_map (λ n. n.event) (cond b (Some (record { number = first; event = x }))
    (find (has_number number) (numbered (first + 1) xs)))) (same first number (omega arith))
found_at first (x ∷ xs) (suc index) number e =
    ap (λ b. option_map (λ n. n.event) (cond b (Some (record { number = first; event = x }))
    (find (has_number number) (numbered (first + 1) xs)))) (differs_up first number (omega arith))
    ∙ found_at (first + 1) xs index number (omega arith)

not_found : (first : ℕ) (es : List Event) (number : ℕ) → number < first
    → option_map (λ n. n.event) (find (has_number number) (numbered first es)) ≡ None
not_found first [] number l = refl
not_found first (x ∷ xs) number l =
    ap (λ b. option_map (λ n. n.event) (cond b (Some (record { number = first; event = x }))
    (find (has_number number) (numbered (first + 1) xs)))) (differs first number l)
    ∙ not_found (first + 1) xs number (omega arith)

pub event_kept : (past : Past) (base number : ℕ) → past.base.number ≡ base → base < number
    → event_at past number ≡ slice_get past.events (number - base - 1)
event_kept past base number e l =
    found_at (past.base.number + 1) past.events (number - base - 1) number (omega arith)

pub event_dropped : (past : Past) (base number : ℕ) → past.base.number ≡ base → number ≤ base
    → event_at past number ≡ None
event_dropped past base number e l = not_found (past.base.number + 1) past.events number (omega arith)

-- what `get` of a slice gives
pub got : (es : List Event) (index : ℕ) (result : Option (Bor Event)) → IsItemAt es index result
    → option_copied result ≡ slice_get es index
got es index None h = sym (slice_get_past es index h.3)
got es index (Some x) h = sym (slice_get_read es (length es) index x.now refl h.3.0 h.1)
