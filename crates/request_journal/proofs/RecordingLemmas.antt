-- What one more event does to the recording, and that a checkpoint changes none.
use Rattle.std.proofs.Common.{◌≡◌, ℕ, suc, ◌+◌, Bool, true, false, not, ◌||◌, cond, List, [], ◌∷◌}
use Rattle.std.proofs.Common.{◌++◌, take, Option, None, refl, sym, ap, ◌∙◌, arith, append-nil, append_assoc}
use Rattle.std.proofs.lemmas.Bool.{false≢true, or_parts}
use Rattle.std.proofs.lemmas.List.Elements.{filter_map-append}
use Rattle.std.specs.List.{before_first, list_any, filter_map, cons_option, prefix_len}
use Rattle.std.specs.Option.{option_or, unwrap_or}
use Rattle.recorder.specs.declared.exchange.Exchange.{Exchange}
use Rattle.recorder.specs.declared.recording.Recording.{Recording}
use Rattle.recorder.specs.declared.recording.Recording.TheVariants.{NeverStarted, On, Stopped}
use Rattle.recorder.specs.declared.recording.Session.{Session}
use Rattle.request_journal.specs.Events.{Numbered, numbered, after_last, last_of}
use Rattle.request_journal.specs.Legal.{IsCheckpoint}
use Rattle.request_journal.specs.Past.{Past, with_event, last_number, numbered_events}
use Rattle.request_journal.specs.Recording.{recording, recorded, continued, started_by, starts, stops, exchange_of}
use Rattle.request_journal.specs.Recording.{with_exchanges}
use Rattle.request_journal.specs.declared.event.Event.{Event}
use Rattle.request_journal.specs.declared.event.Event.TheVariants as event
use Rattle.request_journal.proofs.JournalLemmas.{numbered_after, after_passing, after_other}
use Rattle.request_journal.proofs.LiveLemmas.{any_one, last_one}

-- a recording after the event of this number
abbrev pub recording_by : ℕ → Event → Recording → Recording
recording_by number (event.StartRecording target captured repeats) r = On (record {
  start = number;
  target = target;
  captured = captured;
  repeats = repeats;
  exchanges = [];
})
recording_by number (event.Record serve exchange) r = continued (event.Record serve exchange ∷ []) r
recording_by number (event.StopRecording mappings skipped) r = continued (event.StopRecording mappings skipped ∷ []) r
recording_by number other r = r

same_exchanges : (session : Session) → with_exchanges session [] ≡ session
same_exchanges session = ap (λ xs. record {
  start = session.start;
  target = session.target;
  captured = session.captured;
  repeats = session.repeats;
  exchanges = xs;
}) (append-nil session.exchanges)

-- ---- what is before the first that passes

one_more : (n : ℕ) → 1 + n ≡ suc n
one_more n = omega arith

module _ {X : Type 0} (test : X → Bool) where
  abbrev taken : Bool → X → List X → List X
  taken passes x xs = take (cond (not passes) (1 + prefix_len (λ y. not (test y)) xs) 0) (x ∷ xs)

  none_before : (x : X) (xs : List X) → test x ≡ true → before_first test (x ∷ xs) ≡ []
  none_before x xs h = ap (λ b. taken b x xs) h

  one_before : (x : X) (xs : List X) → test x ≡ false
      → before_first test (x ∷ xs) ≡ x ∷ before_first test xs
  one_before x xs h =
      ap (λ b. taken b x xs) h
      ∙ ap (λ n. take n (x ∷ xs)) (one_more (prefix_len (λ y. not (test y)) xs))

  before_passing : (xs ys : List X) → list_any test xs ≡ true
      → before_first test (xs ++ ys) ≡ before_first test xs
  before_passing [] ys h = absurd (false≢true h)
  before_passing (x ∷ xs) ys h =
      elim (test x) as (λ b. test x ≡ b → (b || list_any test xs) ≡ true
      → before_first test (x ∷ (xs ++ ys)) ≡ before_first test (x ∷ xs)) [
        | true ↦ λ passes _. none_before x (xs ++ ys) passes ∙ sym (none_before x xs passes)
        | false ↦ λ fails later. one_before x (xs ++ ys) fails ∙ ap (λ l. x ∷ l) (before_passing xs ys later)
            ∙ sym (one_before x xs fails)
      ] refl h

  before_failing : (xs ys : List X) → list_any test xs ≡ false
      → before_first test (xs ++ ys) ≡ xs ++ before_first test ys
  before_failing [] ys h = refl
  before_failing (x ∷ xs) ys h =
      let both : (test x ≡ false) × (list_any test xs ≡ false) = or_parts (test x) (list_any test xs) h in
      one_before x (xs ++ ys) both.0 ∙ ap (λ l. x ∷ l) (before_failing xs ys both.1)

  before_none : (xs : List X) → list_any test xs ≡ false → before_first test xs ≡ xs
  before_none xs h =
      ap (before_first test) (sym (append-nil xs)) ∙ before_failing xs [] h ∙ append-nil xs

-- a recording that is on, or was stopped by one of the events
abbrev pub switched : Bool → Session → Recording
switched stopped session = cond stopped (Stopped session) (On session)

-- ---- one more event

-- an event that has to do with no recording leaves it as it is
continued_other : (e : Event) (r : Recording) → exchange_of e ≡ None → stops e ≡ false
    → continued (e ∷ []) r ≡ r
continued_other e NeverStarted x s = refl
continued_other e (On session) x s =
    (λ i. switched (s i || false) (with_exchanges session (filter_map exchange_of (one_before stops e [] s i))))
    ∙ (λ i. On (with_exchanges session (cons_option (x i) [])))
    ∙ ap On (same_exchanges session)
continued_other e (Stopped session) x s = refl

more_exchanges : (session : Session) (xs ys : List Exchange)
    → with_exchanges session (xs ++ ys) ≡ with_exchanges (with_exchanges session xs) ys
more_exchanges session xs ys = ap (λ zs. record {
  start = session.start;
  target = session.target;
  captured = session.captured;
  repeats = session.repeats;
  exchanges = zs;
}) (sym (append_assoc session.exchanges xs ys))

or_false : (p : Bool) → p ≡ (p || false)
or_false true = refl
or_false false = refl

continued_one : (es : List Event) (e : Event) (r : Recording)
    → continued (es ++ e ∷ []) r ≡ continued (e ∷ []) (continued es r)
continued_one es e NeverStarted = refl
continued_one es e (On session) =
    let last : List Event = e ∷ [] in
    let stopped : (b : Bool) → list_any stops es ≡ b → list_any stops (es ++ last) ≡ (b || stops e) =
    λ b h. any_one stops es e ∙ ap (λ c. c || stops e) h in
    elim (list_any stops es)
    as (λ b. list_any stops es ≡ b
    → continued (es ++ last) (On session) ≡ continued last (continued es (On session))) [
      | true ↦ λ h.
          (λ i. switched (stopped true h i)
          (with_exchanges session (filter_map exchange_of (before_passing stops es last h i))))
          ∙ sym (ap (λ b. continued last (switched b (with_exchanges session (recorded es)))) h)
      | false ↦ λ h.
          (λ i. switched (stopped false h i)
          (with_exchanges session (filter_map exchange_of (before_failing stops es last h i))))
          ∙ (λ i. switched (or_false (stops e) i)
          (with_exchanges session (filter_map-append exchange_of es (before_first stops last) i)))
          ∙ ap (switched (stops e || false)) (more_exchanges session (filter_map exchange_of es) (recorded last))
          ∙ sym (λ i. continued last
          (switched (h i) (with_exchanges session (filter_map exchange_of (before_none stops es h i)))))
    ] refl
continued_one es e (Stopped session) = refl

pub continued_none : (r : Recording) → continued [] r ≡ r
continued_none NeverStarted = refl
continued_none (On session) = ap On (same_exchanges session)
continued_none (Stopped session) = refl

abbrev begun : Numbered → Option Recording
begun n = started_by n.number n.event

last_begun : (past : Past) (e : Event)
    → last_of begun (numbered_events (with_event past e))
    ≡ option_or (started_by (last_number past + 1) e) (last_of begun (numbered_events past))
last_begun past e =
    ap (last_of begun) (numbered_after past e)
    ∙ last_one begun (numbered_events past) (record { number = last_number past + 1; event = e })

recording_on : (past : Past) (e : Event) → starts e ≡ false → started_by (last_number past + 1) e ≡ None
    → recording (with_event past e) ≡ continued (e ∷ []) (recording past)
recording_on past e s n =
    (λ i. continued (after_other starts past.events e s i)
    (unwrap_or ((last_begun past e ∙ ap (λ o. option_or o (last_of begun (numbered_events past))) n)
    i) past.base.recording))
    ∙ continued_one (after_last starts past.events) e
    (unwrap_or (last_of begun (numbered_events past)) past.base.recording)

recording_same : (past : Past) (e : Event) → starts e ≡ false → started_by (last_number past + 1) e ≡ None
    → exchange_of e ≡ None → stops e ≡ false → recording (with_event past e) ≡ recording past
recording_same past e s n x t = recording_on past e s n ∙ continued_other e (recording past) x t

-- ---- the laws

-- one more event does to the recording what it says
pub recording_after : (past : Past) (e : Event)
    → recording (with_event past e) ≡ recording_by (last_number past + 1) e (recording past)
recording_after past (event.StartRecording target captured repeats) =
    let e : Event = event.StartRecording target captured repeats in
    λ i. continued (after_passing starts past.events e refl i) (unwrap_or (last_begun past e i) past.base.recording)
recording_after past (event.Record serve exchange) = recording_on past (event.Record serve exchange) refl refl
recording_after past (event.StopRecording mappings skipped) =
    recording_on past (event.StopRecording mappings skipped) refl refl
recording_after past (event.Serve request answer) = recording_same past (event.Serve request answer) refl refl refl refl
recording_after past (event.Add mapping) = recording_same past (event.Add mapping) refl refl refl refl
recording_after past (event.Edit id spec) = recording_same past (event.Edit id spec) refl refl refl refl
recording_after past (event.Delete id) = recording_same past (event.Delete id) refl refl refl refl
recording_after past event.DeleteAll = recording_same past event.DeleteAll refl refl refl refl
recording_after past event.ResetMappings = recording_same past event.ResetMappings refl refl refl refl
recording_after past event.ResetAll = recording_same past event.ResetAll refl refl refl refl
recording_after past event.ResetScenarios = recording_same past event.ResetScenarios refl refl refl refl
recording_after past (event.SetScenario name state) =
    recording_same past (event.SetScenario name state) refl refl refl refl
recording_after past event.ClearJournal = recording_same past event.ClearJournal refl refl refl refl

-- a checkpoint changes no recording
pub recording_at_checkpoint : (old new : Past) → IsCheckpoint old new → recording new ≡ recording old
recording_at_checkpoint old new c =
    (λ i. continued (after_last starts (c.no_events i))
    (unwrap_or (last_of begun (numbered (new.base.number + 1) (c.no_events i))) new.base.recording))
    ∙ continued_none new.base.recording ∙ c.same_recording
