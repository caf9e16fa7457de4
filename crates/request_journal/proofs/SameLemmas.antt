-- Two pasts that agree on the live mappings agree on them after the same events, whatever each has dropped; so
-- with states and the recording.
use Rattle.std.proofs.Common.{◌≡◌, ℕ, ◌+◌, List, [], ◌∷◌, ◌++◌, length, sym, ap, ◌∙◌, arith}
use Rattle.std.proofs.Common.{append-nil, append_assoc, length-append}
use Rattle.std.specs.Option.{unwrap_or}
use Rattle.request_journal.specs.Legal.{IsCheckpoint}
use Rattle.request_journal.specs.Live.{live, adds, left_by}
use Rattle.request_journal.specs.Past.{Past, with_event, with_events, last_number}
use Rattle.request_journal.specs.Recording.{recording}
use Rattle.request_journal.specs.State.{state, touch}
use Rattle.request_journal.specs.declared.event.Event.{Event}
use Rattle.request_journal.proofs.LiveLemmas.{live_after, state_after, live_at_checkpoint, state_at_checkpoint}
use Rattle.request_journal.proofs.CheckpointLemmas.{number_at_checkpoint}
use Rattle.request_journal.proofs.RecordingLemmas.{recording_by, recording_after, recording_at_checkpoint}

sum_with_one : (a b : ℕ) → a + (b + 1) ≡ a + b + 1
sum_with_one a b = omega arith

pub number_after : (past : Past) (e : Event) → last_number (with_event past e) ≡ last_number past + 1
number_after past e =
    ap (λ k. past.base.number + k) (length-append past.events (e ∷ []))
    ∙ sum_with_one past.base.number (length past.events)

-- the past after these events
abbrev pub then : Past → List Event → Past
then past events = with_events past (past.events ++ events)

pub live_from : (es : List Event) (old new : Past) → live new ≡ live old → new.defaults ≡ old.defaults
    → last_number new ≡ last_number old → live (then new es) ≡ live (then old es)
live_from [] old new l d n =
    ap (λ x. live (with_events new x)) (append-nil new.events) ∙ l
    ∙ sym (ap (λ x. live (with_events old x)) (append-nil old.events))
live_from (e ∷ es) old new l d n =
    ap (λ x. live (with_events new x)) (sym (append_assoc new.events (e ∷ []) es))
    ∙ live_from es (with_event old e) (with_event new e)
    (live_after new e ∙ (λ i. left_by (e ∷ []) (l i) ++ adds (d i) (n i + 1) e) ∙ sym (live_after old e))
    d
    (number_after new e ∙ ap (λ k. k + 1) n ∙ sym (number_after old e))
    ∙ ap (λ x. live (with_events old x)) (append_assoc old.events (e ∷ []) es)

pub state_from : (es : List Event) (name : List ℕ) (old new : Past) → state new name ≡ state old name
    → state (then new es) name ≡ state (then old es) name
state_from [] name old new s =
    ap (λ x. state (with_events new x) name) (append-nil new.events) ∙ s
    ∙ sym (ap (λ x. state (with_events old x) name) (append-nil old.events))
state_from (e ∷ es) name old new s =
    ap (λ x. state (with_events new x) name) (sym (append_assoc new.events (e ∷ []) es))
    ∙ state_from es name (with_event old e) (with_event new e)
    (state_after new e name ∙ ap (unwrap_or (touch name e)) s ∙ sym (state_after old e name))
    ∙ ap (λ x. state (with_events old x) name) (append_assoc old.events (e ∷ []) es)

pub recording_from : (es : List Event) (old new : Past) → recording new ≡ recording old
    → last_number new ≡ last_number old → recording (then new es) ≡ recording (then old es)
recording_from [] old new r n =
    ap (λ x. recording (with_events new x)) (append-nil new.events) ∙ r
    ∙ sym (ap (λ x. recording (with_events old x)) (append-nil old.events))
recording_from (e ∷ es) old new r n =
    ap (λ x. recording (with_events new x)) (sym (append_assoc new.events (e ∷ []) es))
    ∙ recording_from es (with_event old e) (with_event new e)
    (recording_after new e ∙ (λ i. recording_by (n i + 1) e (r i)) ∙ sym (recording_after old e))
    (number_after new e ∙ ap (λ k. k + 1) n ∙ sym (number_after old e))
    ∙ ap (λ x. recording (with_events old x)) (append_assoc old.events (e ∷ []) es)

-- what is dropped at a checkpoint changes nothing of what comes after
pub live_since_checkpoint : (es : List Event) (old new : Past) → IsCheckpoint old new
    → live (then new es) ≡ live (then old es)
live_since_checkpoint es old new c =
    live_from es old new (live_at_checkpoint old new c) c.same_defaults (number_at_checkpoint old new c)

pub state_since_checkpoint : (es : List Event) (name : List ℕ) (old new : Past) → IsCheckpoint old new
    → state (then new es) name ≡ state (then old es) name
state_since_checkpoint es name old new c = state_from es name old new (state_at_checkpoint old new c name)

pub recording_since_checkpoint : (es : List Event) (old new : Past) → IsCheckpoint old new
    → recording (then new es) ≡ recording (then old es)
recording_since_checkpoint es old new c =
    recording_from es old new (recording_at_checkpoint old new c) (number_at_checkpoint old new c)
