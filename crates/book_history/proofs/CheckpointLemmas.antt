-- The base that a checkpoint makes says what the events left.
use Rattle.std.proofs.Common.{◌≡◌, ℕ, ◌+◌, arith, append-nil, Bool, true, false, cond, List, [], ◌∷◌}
use Rattle.std.proofs.Common.{Option, None, Some, refl, sym, ap, subst, ◌∙◌}
use Rattle.std.proofs.lemmas.Map.Text.{is_eq-slice_cmp}
use Rattle.std.proofs.lemmas.Slice.Eq.{bytes_eq-Decides}
use Rattle.std.specs.FinMap as map
use Rattle.std.specs.FinMap.{get-insert, get-empty}
use Rattle.std.specs.Cmp.Lexicographic.{slice_cmp, nat_list_cmp_total}
use Rattle.std.specs.Option.{unwrap_or}
use Rattle.std.specs.Ordering.{nat_cmp, eq_by_cmp}
use Rattle.std.specs.Str.{bytes_eq}
use Rattle.mapping_model.specs.declared.scenario_spec.ScenarioSpec.{ScenarioSpec}
use Rattle.scenario_core.specs.Scenarios.{States, started, state_of}
use Rattle.request_journal.specs.Events.{last_of}
use Rattle.request_journal.specs.Legal.{IsCheckpoint}
use Rattle.request_journal.specs.Past.{Past, with_events}
use Rattle.request_journal.specs.State.{next_state, touch}
use Rattle.request_journal.specs.declared.event.Event.{Event}
use Rattle.request_journal.specs.declared.event.Event.TheVariants as event
use Rattle.request_journal.specs.declared.event.ServeAnswer.TheVariants.{Stub, Proxy, Unmatched}
use Rattle.request_journal.proofs.LiveLemmas.{left_by_none, unwrap_or_more}
use Rattle.request_journal.proofs.RecordingLemmas.{continued_none}
use Rattle.request_journal.specs.Live.{left_by}
use Rattle.book_history.specs.Inner.Checkpoint.{moved_to, moved_by, states_by, states_after, checkpointed}

same_back : (a b : List ℕ) → bytes_eq a b ≡ bytes_eq b a
same_back a b =
    elim (bytes_eq a b) as (λ x. bytes_eq a b ≡ x → x ≡ bytes_eq b a) [
      | true ↦ λ h. sym ((bytes_eq-Decides b a).1 (sym ((bytes_eq-Decides a b).0 h)))
      | false ↦ λ h. elim (bytes_eq b a) as (λ y. bytes_eq b a ≡ y → false ≡ y) [
        | true ↦ λ g. sym h ∙ (bytes_eq-Decides a b).1 (sym ((bytes_eq-Decides b a).0 g))
        | false ↦ λ g. refl
      ] refl
    ] refl

same_name : (name other : List ℕ) → eq_by_cmp (slice_cmp nat_cmp) name other ≡ bytes_eq other name
same_name name other = is_eq-slice_cmp name other ∙ same_back name other

set_leaves : (set state : List ℕ) (states : States) (name : List ℕ)
    → state_of (map.insert states set state) name
    ≡ unwrap_or (cond (bytes_eq set name) (Some state) None) (state_of states name)
set_leaves set state states name =
    ap (λ o. unwrap_or o started) (get-insert nat_list_cmp_total states set state name)
    ∙ ap (λ b. unwrap_or (cond b (Some state) (map.get states name)) started) (same_name name set)
    ∙ elim (bytes_eq set name)
    as (λ b. unwrap_or (cond b (Some state) (map.get states name)) started
    ≡ unwrap_or (cond b (Some state) None) (state_of states name)) [ true ↦ refl | false ↦ refl ]

none_leaves : (name : List ℕ) (b : Bool) (here : List ℕ) → here ≡ unwrap_or (cond b None None) here
none_leaves name true here = refl
none_leaves name false here = refl

moves_leave : (moved : List ℕ) (next : Option (List ℕ)) (states : States) (name : List ℕ)
    → state_of (moved_to moved next states) name
    ≡ unwrap_or (cond (bytes_eq moved name) next None) (state_of states name)
moves_leave moved None states name = none_leaves name (bytes_eq moved name) (state_of states name)
moves_leave moved (Some state) states name = set_leaves moved state states name

serve_leaves : (part : Option ScenarioSpec) (states : States) (name : List ℕ)
    → state_of (moved_by part states) name ≡ unwrap_or (next_state part name) (state_of states name)
serve_leaves None states name = refl
serve_leaves (Some scenario) states name = moves_leave scenario.name scenario.next states name

all_start : (name : List ℕ) → state_of map.empty name ≡ started
all_start name = ap (λ o. unwrap_or o started) (get-empty (slice_cmp nat_cmp) name)

event_leaves : (e : Event) (states : States) (name : List ℕ)
    → state_of (states_by e states) name ≡ unwrap_or (touch name e) (state_of states name)
event_leaves (event.Serve request (Stub captured)) states name =
    serve_leaves captured.mapping.spec.scenario states name
event_leaves (event.Serve request (Proxy target)) states name = refl
event_leaves (event.Serve request Unmatched) states name = refl
event_leaves (event.Add mapping) states name = refl
event_leaves (event.Edit id spec) states name = refl
event_leaves (event.Delete id) states name = refl
event_leaves event.DeleteAll states name = refl
event_leaves event.ResetMappings states name = refl
event_leaves event.ResetAll states name = all_start name
event_leaves event.ResetScenarios states name = all_start name
event_leaves (event.SetScenario set state) states name = set_leaves set state states name
event_leaves event.ClearJournal states name = refl
event_leaves (event.StartRecording target captured repeats) states name = refl
event_leaves (event.Record serve exchange) states name = refl
event_leaves (event.StopRecording mappings skipped) states name = refl

events_leave : (es : List Event) (states : States) (name : List ℕ)
    → state_of (states_after es states) name ≡ unwrap_or (last_of (touch name) es) (state_of states name)
unfolding states_after
events_leave [] states name = refl
events_leave (e ∷ es) states name =
    events_leave es (states_by e states) name
    ∙ ap (unwrap_or (last_of (touch name) es)) (event_leaves e states name)
    ∙ sym (unwrap_or_more (last_of (touch name) es) (touch name e) (state_of states name))

pub is_checkpoint : (past : Past) → IsCheckpoint past (checkpointed past)
unfolding checkpointed
is_checkpoint past = record {
  same_opening = refl;
  same_defaults = refl;
  same_number = refl;
  same_live = refl;
  same_states = λ name. events_leave past.events past.base.states name;
  same_recording = refl;
  no_events = refl;
}

-- a past with the base that a checkpoint makes, and with no events
pub is_checkpoint_of : (old past known : Past) (events : List Event) → past ≡ old
    → known ≡ checkpointed past → events ≡ [] → IsCheckpoint old (with_events known events)
unfolding checkpointed
is_checkpoint_of old past known events o k n =
    subst (λ (p : Past). IsCheckpoint p (with_events known events)) o
    (subst (λ (p : Past). IsCheckpoint past (with_events p events)) (sym k)
    (subst (λ (es : List Event). IsCheckpoint past (with_events (checkpointed past) es)) (sym n) (is_checkpoint past)))

no_more : (n : ℕ) → n + 0 ≡ n
no_more n = omega arith

no_states : (states : States) → states_after [] states ≡ states
unfolding states_after
no_states states = refl

-- a checkpoint without events leaves a past as it is
pub checkpoint_of_none : (known : Past) (events : List Event)
    → with_events (checkpointed (with_events known [])) events ≡ with_events known events
unfolding checkpointed
checkpoint_of_none known events = λ i. record {
  opening = known.opening;
  defaults = known.defaults;
  base = record {
    number = no_more known.base.number i;
    live = (append-nil (left_by [] known.base.live) ∙ left_by_none known.base.live) i;
    states = no_states known.base.states i;
    recording = continued_none known.base.recording i;
  };
  events = events;
}

-- so its number is the base's
pub number_of_copy : (known : Past) (base : ℕ) → known.base.number ≡ base
    → (checkpointed (with_events known [])).base.number ≡ base
number_of_copy known base is = ap (λ (past : Past). past.base.number) (checkpoint_of_none known []) ∙ is
