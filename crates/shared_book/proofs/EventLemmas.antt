-- The event of a receipt is the one that each later past keeps under its number, if it keeps one.
use Rattle.std.proofs.Common.{◌≡◌, ℕ, ◌+◌, ◌-◌, ◌<◌, ◌≤◌, ◌==◌, Bool, true, false, cond, List, [], ◌∷◌, ◌++◌}
use Rattle.std.proofs.Common.{All, Option, None, Some, IfSome, option_map, find, length, append_assoc}
use Rattle.std.proofs.Common.{refl, sym, ap, subst, ◌∙◌, arith}
use Rattle.std.proofs.lemmas.Bool.Decides.{nat_tests}
use Rattle.std.proofs.lemmas.List.Elements.{All-weaker}
use Rattle.std.proofs.lemmas.List.Sorted.{All-permutation}
use Rattle.std.specs.List.{slice_get}
use Rattle.std.specs.List.Sorted.{IsPermutation}
use Rattle.std.specs.Prelude.{MatchBool}
use mathlib.Core.Bool.{true≢false}
use Rattle.book_history.proofs.EventLemmas.{event_dropped, event_kept}
use Rattle.request_journal.proofs.CheckpointLemmas.{number_at_checkpoint}
use Rattle.request_journal.proofs.JournalLemmas.{numbered_after}
use Rattle.request_journal.specs.Events.{Numbered}
use Rattle.request_journal.specs.Journal.{clears, event_at}
use Rattle.request_journal.specs.Legal.{IsCheckpoint}
use Rattle.request_journal.specs.Past.{Past, last_number, numbered_events, with_event}
use Rattle.request_journal.specs.declared.event.Event.{Event}
use Rattle.shared_book.proofs.ReachedLemmas.{lead_count, number_grown}
use Rattle.shared_book.specs.Held.{HoldReceipts, receipts_of}
use Rattle.shared_book.specs.Reached.{IsPastOf, Lead, Log}
use Rattle.shared_book.specs.Receipts.{IsReceiptIn, Line}
use Rattle.shared_book.specs.declared.receipt.Receipt.{Receipt}
use Rattle.shared_history.proofs.Entries.{events_append}
use Rattle.shared_history.specs.Entries.{entry, events}
use Rattle.shared_history.specs.declared.entry.Deed.TheVariants.{Called}
use Rattle.stub_book.specs.Growth.{Grows}

-- this event, or none
abbrev IsKeptAs : Event → Option Event → Type 0
IsKeptAs event kept = IfSome kept (λ e. event ≡ e)

-- ---- what is found in a list with one more event

abbrev has_number : ℕ → Numbered → Bool
has_number number n = n.number == number

abbrev event_in : Option Numbered → Option Event
event_in found = option_map (λ n. n.event) found

found_last : (b : Bool) (event : Event) (x : Numbered) → (b ≡ true → event ≡ x.event)
    → IsKeptAs event (event_in (cond b (Some x) None))
found_last true event x is = is refl
found_last false event x is = tt

found_before : (b : Bool) (event : Event) (y : Numbered) (rest more : Option Numbered)
    → (IsKeptAs event (event_in rest) → IsKeptAs event (event_in more))
    → IsKeptAs event (event_in (cond b (Some y) rest)) → IsKeptAs event (event_in (cond b (Some y) more))
found_before true event y rest more f kept = kept
found_before false event y rest more f kept = f kept

found_more : (number : ℕ) (event : Event) (xs : List Numbered) (x : Numbered)
    → IsKeptAs event (event_in (find (has_number number) xs)) → (has_number number x ≡ true → event ≡ x.event)
    → IsKeptAs event (event_in (find (has_number number) (xs ++ x ∷ [])))
found_more number event [] x kept is = found_last (has_number number x) event x is
found_more number event (y ∷ ys) x kept is =
    found_before (has_number number y) event y (find (has_number number) ys)
    (find (has_number number) (ys ++ x ∷ [])) (λ found. found_more number event ys x found is) kept

differs : (a b : ℕ) → b < a → (a == b) ≡ false
differs a b l = grind (arith, nat_tests)

over : (last number : ℕ) → number ≤ last → (last + 1 == number) ≡ true → ⊥
over last number le same = true≢false (sym same ∙ differs (last + 1) number (omega arith))

last_of : (es : List Event) (e : Event) → slice_get (es ++ e ∷ []) (length es) ≡ Some e
last_of [] e = refl
last_of (x ∷ xs) e = last_of xs e

up_to : (a b n : ℕ) → n ≡ a + b + 1 → n - a - 1 ≡ b
up_to a b n is = omega arith

-- ---- one more event in the past

-- its number is that of its receipt
newest : (past : Past) (event : Event) (number : ℕ) → number ≡ last_number past + 1
    → event_at (with_event past event) number ≡ Some event
newest past event number is =
    event_kept (with_event past event) past.base.number number refl (omega (arith, is))
    ∙ ap (λ (k : ℕ). slice_get (past.events ++ event ∷ []) k)
    (up_to past.base.number (length past.events) number is)
    ∙ last_of past.events event

newest_is : (past new : Past) (event : Event) (number : ℕ) → new ≡ with_event past event
    → number ≡ last_number past + 1 → IsKeptAs event (event_at new number)
newest_is past new event number after is =
    subst (λ (p : Past). IsKeptAs event (event_at p number)) (sym after)
    (subst (IsKeptAs event) (sym (newest past event number is)) refl)

newest_by : (old new : Past) (event : Event) (number : ℕ) (b : Bool)
    → MatchBool b ((base : Past) × IsCheckpoint old base × (new ≡ with_event base event))
    (new ≡ with_event old event) → number ≡ last_number old + 1 → IsKeptAs event (event_at new number)
newest_by old new event number true after is =
    newest_is after.0 new event number after.2
    (is ∙ ap (λ (n : ℕ). n + 1) (sym (number_at_checkpoint old after.0 after.1)))
newest_by old new event number false after is = newest_is old new event number after is

-- and those before it have theirs, unless a checkpoint has dropped them
earlier_by : (old new : Past) (added event : Event) (number : ℕ) (b : Bool)
    → MatchBool b ((base : Past) × IsCheckpoint old base × (new ≡ with_event base added))
    (new ≡ with_event old added) → number ≤ last_number old → IsKeptAs event (event_at old number)
    → IsKeptAs event (event_at new number)
earlier_by old new added event number true after le kept =
    subst (IsKeptAs event)
    (sym (event_dropped new (last_number old) number
    (ap (λ (p : Past). p.base.number) after.2 ∙ after.1.same_number) le))
    tt
earlier_by old new added event number false after le kept =
    subst (λ (p : Past). IsKeptAs event (event_at p number)) (sym after)
    (subst (λ (l : List Numbered). IsKeptAs event (event_in (find (has_number number) l)))
    (sym (numbered_after old added))
    (found_more number event (numbered_events old) (record { number = last_number old + 1; event = added }) kept
    (λ same. absurd (over (last_number old) number le same))))

-- ---- more events

kept_on : (later : List Event) (old new : Past) (event : Event) (number : ℕ) → Lead old later new
    → number ≤ last_number old → IsKeptAs event (event_at old number) → IsKeptAs event (event_at new number)
kept_on [] old new event number lead le kept =
    subst (λ (p : Past). IsKeptAs event (event_at p number)) lead kept
kept_on (e ∷ es) old new event number lead le kept =
    let one : last_number lead.0 ≡ last_number old + 1 = number_grown old lead.0 e lead.1 in
    kept_on es lead.0 new event number lead.2 (omega (arith, one, le))
    (earlier_by old lead.0 e event number (clears e) lead.1.after le kept)

record Parted (old new : Past) (earlier later : List Event) : Type 0 where
  pub between : Past
  pub first : Lead old earlier between
  pub rest : Lead between later new

parted : (earlier later : List Event) (old new : Past) → Lead old (earlier ++ later) new
    → Parted old new earlier later
parted [] later old new lead = record { between = old; first = refl; rest = lead }
parted (e ∷ es) later old new lead =
    let more = parted es later lead.0 new lead.2 in
    record { between = more.between; first = (lead.0, lead.1, more.first); rest = more.rest }

events_of : (before rest whole : Log) (seat : ℕ) (event : Event)
    → (before ++ entry seat (Called event) ∷ []) ++ rest ≡ whole
    → events before ++ event ∷ events rest ≡ events whole
events_of before rest whole seat event is =
    sym (events_append (before ++ entry seat (Called event) ∷ []) rest
    ∙ ap (λ (l : List Event). l ++ events rest) (events_append before (entry seat (Called event) ∷ []))
    ∙ append_assoc (events before) (event ∷ []) (events rest))
    ∙ ap events is

-- the event that is kept under the number of a receipt
event_of : (origin past : Past) (whole : Log) (receipt : Receipt) → IsPastOf origin whole past
    → IsReceiptIn origin whole receipt → IsKeptAs receipt.event (event_at past receipt.number)
event_of origin past whole receipt past_of of =
    let before : Log = of.is.before in
    let rest : Log = of.is.entered.0 in
    let event : Event = receipt.event in
    let parts : Parted origin past (events before) (event ∷ events rest) =
    parted (events before) (event ∷ events rest) origin past
    (subst (λ (es : List Event). Lead origin es past)
    (sym (events_of before rest whole of.seat event of.is.entered.1)) past_of) in
    let one : last_number of.is.past ≡ last_number origin + length (events before) =
    lead_count (events before) origin of.is.past of.is.past_of in
    let two : last_number parts.between ≡ last_number origin + length (events before) =
    lead_count (events before) origin parts.between parts.first in
    let number : receipt.number ≡ last_number parts.between + 1 = omega (arith, of.is.number, one, two) in
    let grows : Grows parts.between parts.rest.0 event = parts.rest.1 in
    let grown : last_number parts.rest.0 ≡ last_number parts.between + 1 =
    number_grown parts.between parts.rest.0 event grows in
    kept_on (events rest) parts.rest.0 past event receipt.number parts.rest.2 (omega (arith, number, grown))
    (newest_by parts.between parts.rest.0 event receipt.number (clears event) grows.after number)

-- those of all receipts that are held, in whatever order
pub events_are_kept : (origin past : Past) (whole : Log) (lines : List Line) (moved : List Receipt)
    → IsPastOf origin whole past → HoldReceipts origin whole lines → IsPermutation (receipts_of lines) moved
    → All (λ r. IfSome (event_at past r.number) (λ event. r.event ≡ event)) moved
events_are_kept origin past whole lines moved past_of held permuted =
    let Kept : Receipt → Type 0 = λ r. IfSome (event_at past r.number) (λ event. r.event ≡ event) in
    All-permutation Kept (receipts_of lines) moved permuted
    (All-weaker (IsReceiptIn origin whole) Kept (λ r of. event_of origin past whole r past_of of) (receipts_of lines)
    held)
