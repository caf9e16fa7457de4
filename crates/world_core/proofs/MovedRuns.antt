-- Serves move scenarios, each once, and finishes move none.
use Rattle.std.proofs.Common.{◌≡◌, ℕ, List, [], ◌∷◌, sym, ap, ◌∙◌, subst, Option, Some, None}
use Rattle.std.specs.Prelude.{unwrap_or}
use Rattle.mock_request.specs.Request.{Request}
use Rattle.request_journal.specs.Choice.{IsChoice}
use Rattle.request_journal.specs.Events.{last_of}
use Rattle.mapping_model.specs.declared.reply.Reply.{Reply}
use Rattle.request_journal.specs.Past.{Past}
use Rattle.request_journal.specs.State.{StatesFollow, state, touch}
use Rattle.request_journal.specs.declared.event.Event.{Event}
use Rattle.request_journal.specs.declared.event.Event.TheVariants as event
use Rattle.request_journal.proofs.LiveLemmas.{unwrap_or_more}
use Rattle.world_core.specs.Laws.{IsServedOnce, events_of}
use Rattle.world_core.specs.Schedule.{Happens, IsAct, IsRun, IsStep, Outcome, WorldState}
use Rattle.shared_book.specs.declared.script.Call.{Call}
use Rattle.shared_book.specs.declared.script.Call.TheVariants.{Serve}
use Rattle.world_core.specs.declared.step.Step.{Step}
use Rattle.world_core.specs.declared.step.Step.TheVariants.{Act, Finish}
use Rattle.world_core.proofs.Grown.{state_grown}

-- ---- one step

moved_by : (old new : WorldState) (actor : ℕ) (call : Call) (e : Event) → Happens old actor call e new
    → StatesFollow (state old.past) (state new.past) e
moved_by old new actor call e happens = λ name. state_grown old.past new.past e name happens.grows

is_served : (old new : WorldState) (actor : ℕ) (request : Request) (e : Event)
    → Happens old actor (Serve request) e new → IsServedOnce old request (Some e) new
is_served old new actor request (event.Serve served answer) happens = (
  answer,
  ap (λ r. event.Serve r answer) happens.asked_for,
  subst (λ r. IsChoice old.past r answer) happens.asked_for happens.grows.next.answer,
  moved_by old new actor (Serve request) (event.Serve served answer) happens,
)
is_served old new actor request other happens = absurd happens.asked_for

served_or_not : (old new : WorldState) (actor : ℕ) (request : Request) (event : Option Event)
    → IsAct old actor (Serve request) event new → IsServedOnce old request event new
served_or_not old new actor request None act = act
served_or_not old new actor request (Some e) act = is_served old new actor request e act

pub served_once : (old new : WorldState) (actor : ℕ) (request : Request) (outcome : Outcome)
    → IsStep old (Act actor (Serve request)) outcome new → IsServedOnce old request outcome.event new
served_once old new actor request outcome step = served_or_not old new actor request outcome.event step.0

pub no_move : (old new : WorldState) (actor : ℕ) (outcome : Outcome) → IsStep old (Finish actor) outcome new
    → (outcome.event ≡ None) × (new.past ≡ old.past)
no_move old new actor outcome step = (step.0, step.1.same_past)

-- ---- a whole schedule

-- where a step without an event, or with one, leaves a scenario that was there before
abbrev IsMoved : List ℕ → Option Event → List ℕ → List ℕ → Type 0
IsMoved name None before after = after ≡ before
IsMoved name (Some e) before after = after ≡ unwrap_or (touch name e) before

moved_act : (old new : WorldState) (actor : ℕ) (call : Call) (event : Option Event) (name : List ℕ)
    → IsAct old actor call event new → IsMoved name event (state old.past name) (state new.past name)
moved_act old new actor call None name act = ap (λ (w : WorldState). state w.past name) act.1
moved_act old new actor call (Some e) name act = moved_by old new actor call e act name

moved_step : (old new : WorldState) (step : Step) (outcome : Outcome) (name : List ℕ) → IsStep old step outcome new
    → IsMoved name outcome.event (state old.past name) (state new.past name)
moved_step old new (Act actor call) outcome name step = moved_act old new actor call outcome.event name step.0
moved_step old new (Finish actor) outcome name step =
    subst (λ (e : Option Event). IsMoved name e (state old.past name) (state new.past name)) (sym step.0)
    (ap (λ (p : Past). state p name) step.1.same_past)

then_moved : (name : List ℕ) (event : Option Event) (reply : Option Reply) (outcomes : List Outcome)
    (before between after : List ℕ)
    → IsMoved name event before between → after ≡ unwrap_or (last_of (touch name) (events_of outcomes)) between
    → after ≡ unwrap_or
    (last_of (touch name) (events_of (record { event = event; reply = reply } ∷ outcomes))) before
then_moved name None reply outcomes before between after first rest =
    rest ∙ ap (unwrap_or (last_of (touch name) (events_of outcomes))) first
then_moved name (Some e) reply outcomes before between after first rest =
    rest ∙ ap (unwrap_or (last_of (touch name) (events_of outcomes))) first
    ∙ sym (unwrap_or_more (last_of (touch name) (events_of outcomes)) (touch name e) before)

pub moved_run : (start end : WorldState) (steps : List Step) (outcomes : List Outcome) (name : List ℕ)
    → IsRun start steps outcomes end
    → state end.past name ≡ unwrap_or (last_of (touch name) (events_of outcomes)) (state start.past name)
moved_run start end [] outcomes name (none, same) =
    subst (λ (os : List Outcome).
    state end.past name ≡ unwrap_or (last_of (touch name) (events_of os)) (state start.past name))
    (sym none) (ap (λ (w : WorldState). state w.past name) same)
moved_run start end (step ∷ steps) [] name run = absurd run
moved_run start end (step ∷ steps) (outcome ∷ outcomes) name (between, first, rest) =
    then_moved name outcome.event outcome.reply outcomes (state start.past name) (state between.past name)
    (state end.past name) (moved_step start between step outcome name first)
    (moved_run between end steps outcomes name rest)
