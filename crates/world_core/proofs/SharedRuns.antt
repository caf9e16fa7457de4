-- The history of a shared book as a schedule.
use Rattle.std.proofs.Common.{◌≡◌, ℕ, List, [], ◌∷◌, ◌++◌, refl, sym, ap, subst}
use Rattle.std.specs.Prelude.{Some, None}
use Rattle.request_journal.specs.Choice.{IsChoice}
use Rattle.request_journal.specs.Past.{Past}
use Rattle.request_journal.specs.declared.event.Event.{Event}
use Rattle.request_journal.specs.declared.event.Event.TheVariants as event
use Rattle.request_journal.specs.declared.event.ServeAnswer.{ServeAnswer}
use Rattle.mock_request.specs.Request.{Request}
use Rattle.shared_book.specs.Reached.{IsPastOf, Lead, Log}
use Rattle.shared_history.proofs.Entries.{events_append}
use Rattle.shared_history.specs.Entries.{entry, events}
use Rattle.shared_history.specs.declared.entry.Deed.{Deed}
use Rattle.shared_history.specs.declared.entry.Deed.TheVariants.{Called, Left, Looked, Opened, Split}
use Rattle.stub_book.specs.Growth.{Grows}
use Rattle.world_core.proofs.ChosenRuns.{one_choice_after}
use Rattle.world_core.proofs.Grown.{state_grown}
use Rattle.world_core.specs.Laws.{IsOpened, events_of}
use Rattle.shared_book.specs.Script.{IsAskedBy}
use Rattle.world_core.specs.Schedule.{IsRun, Outcome, WorldState, held_after}
use Rattle.world_core.specs.Shared.{IsRightAfter, IsScheduled, call_of, calling}

asked_for : (e : Event) → IsAskedBy (call_of e) e
asked_for (event.Serve request answer) = refl
asked_for (event.Add mapping) = refl
asked_for (event.Edit id spec) = (refl, refl)
asked_for (event.Delete id) = refl
asked_for event.DeleteAll = tt
asked_for event.ResetMappings = tt
asked_for event.ResetAll = tt
asked_for event.ResetScenarios = tt
asked_for (event.SetScenario name state) = (refl, refl)
asked_for event.ClearJournal = tt
asked_for (event.StartRecording target captured repeats) = (refl, refl, refl)
asked_for (event.Record serve exchange) = (refl, refl)
asked_for (event.StopRecording mappings skipped) = tt

-- the calls of the log are a schedule from here, with its very events
abbrev AreRun : WorldState → Log → Past → Type 0
AreRun start log past =
    (outcomes : List Outcome) × (end : WorldState) × IsRun start (calling log) outcomes end × (end.past ≡ past)
    × (events_of outcomes ≡ events log)

-- one more entry before them
run_before : (log : Log) (past : Past) (seat : ℕ) (deed : Deed Past Event)
    → ((start : WorldState) → Lead start.past (events log) past → AreRun start log past)
    → (start : WorldState) → Lead start.past (events (entry seat deed ∷ log)) past
    → AreRun start (entry seat deed ∷ log) past
run_before log past seat (Opened origin) rest start lead = rest start lead
run_before log past seat (Called e) rest start (next, grows, lead) =
    let between : WorldState =
    record { past = next; held = held_after seat e start.held; limits = start.limits } in
    let outcome : Outcome = record { event = Some e; reply = None } in
    let more = rest between lead in (
      outcome ∷ more.0,
      more.1,
      (
        between,
        (record { asked_for = asked_for e; grows = grows; held = refl; same_limits = refl }, refl),
        more.2,
      ),
      more.3,
      ap (λ (l : List Event). e ∷ l) more.4,
    )
run_before log past seat Looked rest start lead = rest start lead
run_before log past seat Split rest start lead = rest start lead
run_before log past seat Left rest start lead = rest start lead

runs : (log : Log) (past : Past) (start : WorldState) → Lead start.past (events log) past → AreRun start log past
runs [] past start same = ([], start, (refl, refl), same, refl)
runs (e ∷ log) past start lead = run_before log past e.seat e.deed (λ s l. runs log past s l) start lead

pub scheduled : (start : WorldState) (log : Log) (past : Past) → IsPastOf start.past log past
    → IsScheduled start log past
scheduled start log past of =
    let run = runs log past start of in
    record { outcomes = run.0; end = run.1; run = run.2; same_past = run.3; same_events = run.4 }

pub one_choice_of : (origin past : Past) (log : Log) (request : Request) (one other : ServeAnswer) → IsOpened origin
    → IsPastOf origin log past → IsChoice past request one → IsChoice past request other → one ≡ other
one_choice_of origin past log request one other opened of first second =
    let start : WorldState = record { past = origin; held = []; limits = record { steps = 0; bytes = 0 } } in
    let s = scheduled start log past of in
    one_choice_after start s.end (calling log) s.outcomes request one other opened s.run
    (subst (λ p. IsChoice p request one) (sym s.same_past) first)
    (subst (λ p. IsChoice p request other) (sym s.same_past) second)

-- ---- one event

split_lead : (old new : Past) (early : List Event) (e : Event) (late : List Event) → Lead old (early ++ e ∷ late) new →
    (before : Past) × (after : Past) × Lead old early before × Grows before after e × Lead after late new
split_lead old new [] e late (next, grows, rest) = (old, next, refl, grows, rest)
split_lead old new (x ∷ early) e late (next, grows, rest) =
    let more = split_lead next new early e late rest in
    (more.0, more.1, (next, grows, more.2), more.3, more.4)

join_lead : (old between new : Past) (early : List Event) (e : Event) → Lead old early between → Grows between new e
    → Lead old (early ++ e ∷ []) new
join_lead old between new [] e same grows =
    (new, subst (λ p. Grows p new e) (sym same) grows, refl)
join_lead old between new (x ∷ early) e (next, first, rest) grows =
    (next, first, join_lead next between new early e rest grows)

pub right_after : (origin past : Past) (before after : Log) (seat : ℕ) (e : Event)
    → IsPastOf origin (before ++ entry seat (Called e) ∷ after) past
    → IsRightAfter origin before e (before ++ entry seat (Called e) ∷ [])
right_after origin past before after seat e of =
    let whole = events_append before (entry seat (Called e) ∷ after) in
    let parts = split_lead origin past (events before) e (events after)
    (subst (λ es. Lead origin es past) whole of) in
    let up_to = events_append before (entry seat (Called e) ∷ []) in
    record {
      old = parts.0;
      past_of = parts.2;
      next = parts.3.next;
      new = parts.1;
      then = subst (λ es. Lead origin es parts.1) (sym up_to)
          (join_lead origin parts.0 parts.1 (events before) e parts.2 parts.3);
      moves = λ name. state_grown parts.0 parts.1 e name parts.3;
    }
