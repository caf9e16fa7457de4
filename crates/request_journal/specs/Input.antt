-- What was asked for, and what is answered, by an event.
use Rattle.std.specs.Prelude.{◌≡◌}
use Rattle.request_journal.specs.declared.event.Event.{Event}
use Rattle.request_journal.specs.declared.event.Event.TheVariants as event
use Rattle.request_journal.specs.declared.input.BookAnswer.{BookAnswer}
use Rattle.request_journal.specs.declared.input.BookAnswer.TheVariants as answer
use Rattle.request_journal.specs.declared.input.BookInput.{BookInput}
use Rattle.request_journal.specs.declared.input.BookInput.TheVariants as input

-- the event is what was asked for, with whatever answer
abbrev pub IsAsked : BookInput → Event → Type 0
IsAsked (input.Add asked) (event.Add mapping) = mapping.spec ≡ asked
IsAsked (input.Edit asked_id asked) (event.Edit id spec) = (id ≡ asked_id) × (spec ≡ asked)
IsAsked (input.Delete asked_id) (event.Delete id) = id ≡ asked_id
IsAsked input.DeleteAll event.DeleteAll = Unit {0}
IsAsked input.ResetMappings event.ResetMappings = Unit {0}
IsAsked input.ResetAll event.ResetAll = Unit {0}
IsAsked input.ResetScenarios event.ResetScenarios = Unit {0}
IsAsked (input.SetScenario asked_name asked_state) (event.SetScenario name state) =
    (name ≡ asked_name) × (state ≡ asked_state)
IsAsked input.ClearJournal event.ClearJournal = Unit {0}
IsAsked (input.StartRecording asked_target asked_captured asked_repeats)
    (event.StartRecording target captured repeats) =
    (target ≡ asked_target) × (captured ≡ asked_captured) × (repeats ≡ asked_repeats)
IsAsked (input.Record asked_serve asked_exchange) (event.Record serve exchange) =
    (serve ≡ asked_serve) × (exchange ≡ asked_exchange)
IsAsked input.StopRecording (event.StopRecording mappings skipped) = Unit {0}
IsAsked asked other = ⊥

-- what is answered with an event that was asked for
abbrev pub answer_of : Event → BookAnswer
answer_of (event.Add mapping) = answer.Mapping mapping
answer_of (event.Edit id spec) = answer.Mapping (record { id = id; spec = spec })
answer_of (event.StopRecording mappings skipped) = answer.Recorded mappings skipped
answer_of other = answer.Done
