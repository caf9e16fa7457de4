-- Schedules: steps of actors over one book. An actor acts, which adds one event to the history or is refused; where a
-- mapping was chosen for its request, it holds that version until it finishes, which gives the response.
use Rattle.std.specs.Prelude.{◌≡◌, ◌≢◌, ℕ, ◌==◌, Bool, true, false, not, List, [], ◌∷◌, ◌++◌, Option, Some, None}
use Rattle.std.specs.Prelude.{MatchOption, find, ◌<◌, length, map, take, if◌then◌else◌}
use Rattle.std.specs.List.{filter}
use Rattle.error_code.specs.declared.error_code.ErrorCode.{ErrorCode}
use Rattle.error_code.specs.declared.error_code.ErrorCode.TheVariants.{OutOfMemory}
use Rattle.mapping_model.specs.declared.reply.Reply.{Reply}
use Rattle.request_journal.specs.Past.{Past}
use Rattle.request_journal.specs.declared.event.Event.{Event}
use Rattle.request_journal.specs.declared.event.Event.TheVariants as event
use Rattle.request_journal.specs.declared.event.ServeAnswer.TheVariants.{Stub}
use Rattle.shared_book.specs.Script.{IsAskedBy}
use Rattle.stub_book.specs.Growth.{Grows}
use Rattle.stub_book.specs.Refusals.{IsFull, IsRefusal}
use Rattle.stub_response.specs.Response.{IsRendering, IsResponse}
use Rattle.stub_response.specs.declared.limits.Limits.{Limits}
use Rattle.world_core.specs.declared.held.Held.{Held}
use Rattle.shared_book.specs.declared.script.Call.{Call}
use Rattle.shared_book.specs.declared.script.Call.TheVariants.{Serve, Apply}
use Rattle.world_core.specs.declared.step.Step.{Step}
use Rattle.world_core.specs.declared.step.Step.TheVariants.{Act, Finish}

-- the past of the book, what actors hold, and the limits of responses
pub record WorldState : Type 0 where
  pub past : Past
  pub held : List Held
  pub limits : Limits

-- what the actor holds, and what the others hold
abbrev pub held_by : ℕ → List Held → Option Held
held_by actor held = find (λ h. h.actor == actor) held

abbrev pub held_by_others : ℕ → List Held → List Held
held_by_others actor held = filter (λ h. not (h.actor == actor)) held

-- ---- one step

-- the history refuses the call, and not because memory is out
abbrev pub IsRefusedBy : Past → Call → Type 0
IsRefusedBy past (Serve request) = IsFull past
IsRefusedBy past (Apply input) = (reason : ErrorCode) × (reason ≢ OutOfMemory) × IsRefusal past input reason

-- the event chose a mapping for a request
abbrev pub chooses : Event → Bool
chooses (event.Serve request (Stub captured)) = true
chooses other = false

-- what is held after an actor's event: an event that chose a mapping for its request, in place of what it held
abbrev pub held_after : ℕ → Event → List Held → List Held
held_after actor event held =
    if chooses event then held_by_others actor held ++ record { actor = actor; event = event } ∷ [] else held

-- the call made one event, which is its answer
pub record Happens (old : WorldState) (actor : ℕ) (call : Call) (event : Event) (new : WorldState) : Type 0 where
  pub asked_for : IsAskedBy call event
  pub grows : Grows old.past new.past event
  pub held : new.held ≡ held_after actor event old.held
  pub same_limits : new.limits ≡ old.limits

-- one event, or none where the call is refused
abbrev pub IsAct : WorldState → ℕ → Call → Option Event → WorldState → Type 0
IsAct old actor call event new =
    MatchOption event (IsRefusedBy old.past call × (new ≡ old)) (λ e. Happens old actor call e new)

-- the response of the mapping that an event chose, as it was then, with the runs that wrote its texts
abbrev pub IsResponseOf : Limits → Event → Option Reply → Type 0
IsResponseOf limits (event.Serve request (Stub captured)) reply =
    (given : Reply) × (reply ≡ Some given) × IsResponse limits captured.mapping.spec request given
    × IsRendering limits captured.mapping.spec request given
IsResponseOf limits other reply = reply ≡ None

-- the reply to what is held, if anything is
abbrev pub IsGiven : Limits → Option Held → Option Reply → Type 0
IsGiven limits None reply = reply ≡ None
IsGiven limits (Some held) reply = IsResponseOf limits held.event reply

-- no event, and the actor holds nothing after it
pub record IsFinish (old : WorldState) (actor : ℕ) (reply : Option Reply) (new : WorldState) : Type 0 where
  pub same_past : new.past ≡ old.past
  pub held : new.held ≡ held_by_others actor old.held
  pub same_limits : new.limits ≡ old.limits
  pub given : IsGiven old.limits (held_by actor old.held) reply

-- what came of a step: the event that was added, and the reply that was given
pub record Outcome : Type 0 where
  pub event : Option Event
  pub reply : Option Reply

abbrev pub IsStep : WorldState → Step → Outcome → WorldState → Type 0
IsStep old (Act actor call) outcome new = IsAct old actor call outcome.event new × (outcome.reply ≡ None)
IsStep old (Finish actor) outcome new = (outcome.event ≡ None) × IsFinish old actor outcome.reply new

-- ---- a whole schedule

-- one step after the other, each with its outcome
abbrev pub IsRun : WorldState → List Step → List Outcome → WorldState → Type 0
IsRun old [] outcomes new = (outcomes ≡ []) × (new ≡ old)
IsRun old (step ∷ steps) [] new = ⊥
IsRun old (step ∷ steps) (outcome ∷ outcomes) new =
    (between : WorldState) × IsStep old step outcome between × IsRun between steps outcomes new

-- and gave these replies, one or none for each step
abbrev pub Runs : WorldState → List Step → List (Option Reply) → WorldState → Type 0
Runs old steps replies new =
    (outcomes : List Outcome) × IsRun old steps outcomes new × (replies ≡ map (λ outcome. outcome.reply) outcomes)

-- the first steps were made, and the next was not
abbrev pub IsStopped : WorldState → List Step → ℕ → WorldState → Type 0
IsStopped old steps made new =
    (made < length steps) × ((outcomes : List Outcome) × IsRun old (take made steps) outcomes new)
