-- What one more entry of the history leads to.
use Rattle.std.proofs.Common.{◌≡◌, ℕ, ◌+◌, ◌≤◌, Bool, true, false, List, [], ◌∷◌, ◌++◌, length, refl, sym, ap}
use Rattle.std.proofs.Common.{append-nil, append_assoc, subst, ◌∙◌, arith}
use Rattle.std.specs.Prelude.{MatchBool}
use mathlib.Core.List.{IsPrefix}
use Rattle.request_journal.specs.Journal.{clears}
use Rattle.request_journal.specs.Legal.{IsCheckpoint}
use Rattle.request_journal.specs.Past.{Past, last_number, with_event}
use Rattle.request_journal.specs.declared.event.Event.{Event}
use Rattle.request_journal.proofs.CheckpointLemmas.{number_at_checkpoint}
use Rattle.request_journal.proofs.SameLemmas.{number_after}
use Rattle.shared_book.specs.Held.{IsDropped}
use Rattle.shared_book.specs.Reached.{InPastOf, IsLawful, IsPastOf, IsReached, Lead, Log, MayFollow}
use Rattle.shared_history.proofs.Entries.{events_append}
use Rattle.shared_history.proofs.Growing.{one_origin}
use Rattle.shared_history.proofs.Prefixes.{prefix_self, prefix_trans}
use Rattle.shared_history.specs.Entries.{entry, events, opening}
use Rattle.shared_history.specs.History.{GoesOn, IsHistory, MayCall, MayDo}
use Rattle.shared_history.specs.declared.entry.Deed.{Deed}
use Rattle.shared_history.specs.declared.entry.Deed.TheVariants.{Called, Left, Looked, Opened, Split}
use Rattle.shared_history.specs.declared.entry.Entry.{Entry}
use Rattle.stub_book.specs.Growth.{Grows}

-- ---- one more event

lead_on : (events : List Event) (origin old new : Past) (event : Event) → Lead origin events old
    → Grows old new event → Lead origin (events ++ event ∷ []) new
lead_on [] origin old new event lead grows = (new, subst (λ p. Grows p new event) (sym lead) grows, refl)
lead_on (e ∷ es) origin old new event lead grows =
    (lead.0, lead.1, lead_on es lead.0 old new event lead.2 grows)

number_by : (old new : Past) (event : Event) (b : Bool)
    → MatchBool b ((base : Past) × IsCheckpoint old base × (new ≡ with_event base event))
    (new ≡ with_event old event) → last_number new ≡ last_number old + 1
number_by old new event true after =
    ap last_number after.2 ∙ number_after after.0 event
    ∙ ap (λ n. n + 1) (number_at_checkpoint old after.0 after.1)
number_by old new event false after = ap last_number after ∙ number_after old event

pub number_grown : (old new : Past) (event : Event) → Grows old new event → last_number new ≡ last_number old + 1
number_grown old new event grows = number_by old new event (clears event) grows.after

-- the last number after these events
pub lead_count : (events : List Event) (origin past : Past) → Lead origin events past
    → last_number past ≡ last_number origin + length events
lead_count [] origin past lead = (let same = ap last_number lead in omega (arith, same))
lead_count (e ∷ es) origin past lead =
    let one = number_grown origin lead.0 e lead.1 in
    let rest = lead_count es lead.0 past lead.2 in
    omega (arith, one, rest)

-- ---- one more entry

-- the events of a log with more entries
events_more : (log more : Log) (e : Entry Past Event) → more ≡ log ++ e ∷ []
    → events more ≡ events log ++ events (e ∷ [])
events_more log more e is = ap events is ∙ events_append log (e ∷ [])

-- the past after a call, and after another entry
pub past_called : (origin old new : Past) (log more : Log) (seat : ℕ) (event : Event)
    → more ≡ log ++ entry seat (Called event) ∷ [] → IsPastOf origin log old → Grows old new event
    → IsPastOf origin more new
past_called origin old new log more seat event is past grows =
    subst (λ (es : List Event). Lead origin es new)
    (sym (events_more log more (entry seat (Called event)) is))
    (lead_on (events log) origin old new event past grows)

pub past_split : (origin past : Past) (log more : Log) (seat : ℕ) → more ≡ log ++ entry seat Split ∷ []
    → IsPastOf origin log past → IsPastOf origin more past
past_split origin past log more seat is same =
    subst (λ (es : List Event). Lead origin es past)
    (sym (events_more log more (entry seat Split) is ∙ append-nil (events log))) same

pub past_looked : (origin past : Past) (log more : Log) (seat : ℕ) → more ≡ log ++ entry seat Looked ∷ []
    → IsPastOf origin log past → IsPastOf origin more past
past_looked origin past log more seat is same =
    subst (λ (es : List Event). Lead origin es past)
    (sym (events_more log more (entry seat Looked) is ∙ append-nil (events log))) same

pub past_left : (origin past : Past) (log more : Log) (seat : ℕ) → more ≡ log ++ entry seat Left ∷ []
    → IsPastOf origin log past → IsPastOf origin more past
past_left origin past log more seat is same =
    subst (λ (es : List Event). Lead origin es past)
    (sym (events_more log more (entry seat Left) is ∙ append-nil (events log))) same

pub calls_left : (log more : Log) (seat : ℕ) → more ≡ log ++ entry seat Left ∷ [] → events more ≡ events log
calls_left log more seat is = events_more log more (entry seat Left) is ∙ append-nil (events log)

-- a history that goes on has the same origin
pub lawful_on : (origin : Past) (old new : Log) → IsLawful origin old → IsPrefix old new → IsHistory MayFollow new
    → IsLawful origin new
lawful_on origin old new lawful prefix history = record {
  history = history;
  opened =
      one_origin MayFollow history.origin lawful.history.origin history.after (lawful.history.after ++ prefix.0)
      (sym history.opens ∙ (sym prefix.1 ∙ ap (λ (log : Log). log ++ prefix.0) lawful.history.opens))
      ∙ lawful.opened;
}

pub lawful_opened : (origin : Past) (log : Log) → log ≡ opening origin ∷ [] → IsLawful origin log
lawful_opened origin log is =
    record { history = record { origin = origin; after = []; opens = is; goes_on = tt }; opened = refl }

pub past_opened : (origin : Past) (log : Log) → log ≡ opening origin ∷ [] → IsPastOf origin log origin
past_opened origin log is = subst (λ (es : List Event). Lead origin es origin) (sym (ap events is)) refl

-- a call that may be entered
pub may_call : (origin new : Past) (log : Log) (event : Event) → IsLawful origin log
    → InPastOf origin log (λ past. Grows past new event) → MayCall MayFollow log event
may_call origin new log event lawful grown = record {
  origin = lawful.history.origin;
  after = lawful.history.after;
  opens = lawful.history.opens;
  allowed = subst (λ (o : Past). MayFollow o (events log) event) (sym lawful.opened)
      (grown.0, new, grown.1, grown.2);
}

-- ---- each lawful log has a past

past_more : (origin : Past) (before : Log) (seat : ℕ) (deed : Deed Past Event) (past : Past)
    → IsPastOf origin before past → MayDo MayFollow origin before deed
    → (later : Past) × IsPastOf origin (before ++ entry seat deed ∷ []) later
past_more origin before seat (Opened other) past is may = absurd may
past_more origin before seat (Called event) past is may = (
  may.1,
  past_called origin may.0 may.1 before (before ++ entry seat (Called event) ∷ []) seat event refl may.2 may.3,
)
past_more origin before seat Looked past is may =
    (past, past_looked origin past before (before ++ entry seat Looked ∷ []) seat refl is)
past_more origin before seat Split past is may =
    (past, past_split origin past before (before ++ entry seat Split ∷ []) seat refl is)
past_more origin before seat Left past is may =
    (past, past_left origin past before (before ++ entry seat Left ∷ []) seat refl is)

past_rest : (origin : Past) (before after : Log) (past : Past) → IsPastOf origin before past
    → GoesOn MayFollow origin before after → (later : Past) × IsPastOf origin (before ++ after) later
past_rest origin before [] past is goes =
    (past, subst (λ (log : Log). IsPastOf origin log past) (sym (append-nil before)) is)
past_rest origin before (e ∷ after) past is goes =
    let next = past_more origin before e.seat e.deed past is goes.1 in
    let rest = past_rest origin (before ++ e ∷ []) after next.0 next.1 goes.2 in
    (rest.0, subst (λ (log : Log). IsPastOf origin log rest.0) (append_assoc before (e ∷ []) after) rest.1)

pub lawful_past : (origin : Past) (log : Log) → IsLawful origin log → (past : Past) × IsPastOf origin log past
lawful_past origin log lawful =
    let after : Log = lawful.history.after in
    let goes = subst (λ (o : Past). GoesOn MayFollow o (opening o ∷ []) after) lawful.opened lawful.history.goes_on in
    let found = past_rest origin (opening origin ∷ []) after origin (past_opened origin (opening origin ∷ []) refl)
    goes in
    let is : opening origin ∷ after ≡ log =
    sym (lawful.history.opens ∙ ap (λ (o : Past). opening o ∷ after) lawful.opened) in
    (found.0, subst (λ (l : Log). IsPastOf origin l found.0) is found.1)

-- ---- what a checkpoint has dropped

pub reached_last : (origin past : Past) (log : Log) → IsPastOf origin log past → IsReached origin log past
reached_last origin past log is = record { front = log; begins = prefix_self log; past_of = is }

pub reached_later : (origin past : Past) (old new : Log) → IsPrefix old new → IsReached origin old past
    → IsReached origin new past
reached_later origin past old new prefix reached = record {
  front = reached.front;
  begins = prefix_trans reached.front old new reached.begins prefix;
  past_of = reached.past_of;
}

pub dropped_none : (origin : Past) (log : Log) → IsDropped origin log 0
dropped_none origin log = (
  origin,
  record { front = []; begins = (log, refl); past_of = refl },
  omega arith,
)

pub dropped_last : (origin past : Past) (log : Log) (number : ℕ) → IsPastOf origin log past
    → number ≡ past.base.number → IsDropped origin log number
dropped_last origin past log number is same = (past, reached_last origin past log is, omega (arith, same))

pub dropped_before : (origin : Past) (log : Log) (n m : ℕ) → n ≤ m → IsDropped origin log m
    → IsDropped origin log n
dropped_before origin log n m le dropped = (dropped.0, dropped.1, (let up = dropped.2 in omega (arith, le, up)))

pub dropped_later : (origin : Past) (old new : Log) (n : ℕ) → IsPrefix old new → IsDropped origin old n
    → IsDropped origin new n
dropped_later origin old new n prefix dropped =
    (dropped.0, reached_later origin dropped.0 old new prefix dropped.1, dropped.2)
