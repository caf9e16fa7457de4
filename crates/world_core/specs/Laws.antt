-- What the laws over every schedule say.
use Rattle.std.specs.Prelude.{◌≡◌, ◌≢◌, ◌⊎◌, ℕ, List, [], ◌∷◌, ◌++◌, filter_map, Option, Some, None, MatchOption}
use Rattle.std.specs.List.{AllZip}
use Rattle.mapping_model.specs.declared.reply.Reply.{Reply}
use Rattle.mock_request.specs.Request.{Request}
use Rattle.request_journal.specs.Choice.{IsChoice}
use Rattle.request_journal.specs.Past.{Past, opening_base}
use Rattle.request_journal.specs.State.{StatesFollow, state}
use Rattle.request_journal.specs.declared.event.Captured.{Captured}
use Rattle.request_journal.specs.declared.event.Event.{Event}
use Rattle.request_journal.specs.declared.event.Event.TheVariants as event
use Rattle.request_journal.specs.declared.event.ServeAnswer.{ServeAnswer}
use Rattle.request_journal.specs.declared.event.ServeAnswer.TheVariants.{Stub}
use Rattle.stub_book.specs.Refusals.{IsFull}
use Rattle.stub_response.specs.Response.{IsRendering, IsResponse}
use Rattle.world_core.specs.Schedule.{Outcome, WorldState, IsRun}
use Rattle.shared_book.specs.declared.script.Call.TheVariants.{Serve}
use Rattle.world_core.specs.declared.step.Step.{Step}
use Rattle.world_core.specs.declared.step.Step.TheVariants.{Act, Finish}

-- ---- choices

-- nothing has happened to the book but its opening
abbrev pub IsOpened : Past → Type 0
IsOpened past = (past.base ≡ opening_base past.opening past.defaults) × (past.events ≡ [])

-- ---- responses

-- no mapping was chosen for a request
abbrev pub IsNoStub : Option Event → Type 0
IsNoStub (Some (event.Serve request (Stub captured))) = ⊥
IsNoStub other = Unit {0}

-- the step isn't the actor's finish, and chooses no mapping for it
abbrev pub PassesBy : ℕ → Step → Outcome → Type 0
PassesBy actor (Act other call) outcome = (other ≢ actor) ⊎ IsNoStub outcome.event
PassesBy actor (Finish other) outcome = other ≢ actor

-- what comes of a request that this mapping is chosen for, of a finish with this reply, and of one without a reply
abbrev pub choosing : Request → Captured → Outcome
choosing request captured = record { event = Some (event.Serve request (Stub captured)); reply = None }

abbrev pub giving : Reply → Outcome
giving reply = record { event = None; reply = Some reply }

abbrev pub silent : Outcome
silent = record { event = None; reply = None }

-- Of these steps this is the last act that chose a mapping for the actor's request: it chose what the past of that
-- moment demands, and the steps since pass the actor by.
pub record IsLastChoice (start : WorldState) (steps : List Step) (outcomes : List Outcome) (actor : ℕ)
    (request : Request) (captured : Captured) : Type 0 where
  pub earlier : List Step
  pub early : List Outcome
  pub later : List Step
  pub late : List Outcome
  pub acted : steps ≡ earlier ++ Act actor (Serve request) ∷ later
  pub chose : outcomes ≡ early ++ choosing request captured ∷ late
  pub then : WorldState
  pub reached : IsRun start earlier early then
  pub choice : IsChoice then.past request (Stub captured)
  pub passed : AllZip (PassesBy actor) later late

-- The reply is the response of the version that was chosen at the actor's last act, whatever came since; each templated
-- text was written by a run of safe code within its budget.
abbrev pub IsAnswered : WorldState → List Step → List Outcome → ℕ → Reply → Type 0
IsAnswered start steps outcomes actor reply =
    (request : Request) × (captured : Captured) × IsLastChoice start steps outcomes actor request captured
    × IsResponse start.limits captured.mapping.spec request reply
    × IsRendering start.limits captured.mapping.spec request reply

-- ---- scenarios

-- the events of a schedule, in the order of its steps
abbrev pub events_of : List Outcome → List Event
events_of outcomes = filter_map (λ outcome. outcome.event) outcomes

-- a request is served once, with the choice of the past, and moves what its answer moves; or it is refused, since there
-- is no number for it
abbrev pub IsServedOnce : WorldState → Request → Option Event → WorldState → Type 0
IsServedOnce old request served new =
    MatchOption served (IsFull old.past × (new ≡ old))
    (λ e. (answer : ServeAnswer) × (e ≡ event.Serve request answer) × IsChoice old.past request answer
    × StatesFollow (state old.past) (state new.past) e)
