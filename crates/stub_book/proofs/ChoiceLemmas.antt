-- What a book answers to a request is what its past demands.
use Rattle.std.proofs.Common.{◌≡◌, subst}
use Rattle.mapping_store.proofs.PastLemmas.{missed_in_past, chosen_in_past}
use Rattle.mapping_store.specs.Stored.{Stored}
use Rattle.mock_request.specs.Request.{Request}
use Rattle.recorder.specs.Recording.{IsOn, IsOnAnd}
use Rattle.recorder.specs.declared.recording.Recording.{Recording}
use Rattle.request_journal.specs.Choice.{IsChoice, IsChosen, IsMissed}
use Rattle.request_journal.specs.Live.{live}
use Rattle.request_journal.specs.Past.{Past}
use Rattle.request_journal.specs.State.{state}
use Rattle.request_journal.specs.declared.event.ServeAnswer.{ServeAnswer}
use Rattle.request_journal.specs.declared.event.ServeAnswer.TheVariants.{Stub, Proxy, Unmatched}
use Rattle.request_journal.specs.declared.mapping.Mapping.{Mapping}
use Rattle.scenario_core.specs.Scenarios.{States, state_of}
use Rattle.stub_book.specs.Inner.Kept.{Agrees, IsUnchosen}

module _ (past : Past) (stored : Stored) (states : States) (kept : Recording) (fits : Agrees past stored states kept)
    (request : Request)
  where
    pub is_chosen : (mapping : Mapping) → IsChosen (state_of states) stored.live request mapping
        → IsChoice past request (Stub (record { mapping = mapping }))
    is_chosen mapping chosen =
        chosen_in_past past states stored.live request fits.same_live fits.same_states mapping chosen

    missed : IsMissed (state_of states) stored.live request → IsMissed (state past) (live past) request
    missed none = missed_in_past past states stored.live request fits.same_live fits.same_states none

    pub is_unchosen : (answer : ServeAnswer) → IsMissed (state_of states) stored.live request
        → IsUnchosen kept answer → IsChoice past request answer
    is_unchosen (Stub captured) none h = absurd h
    is_unchosen (Proxy target) none h =
        (missed none, subst (λ r. IsOnAnd r (λ session. session.target ≡ target)) fits.same_recording h)
    is_unchosen Unmatched none h = (missed none, subst (λ r. ¬ (IsOn r)) fits.same_recording h)
