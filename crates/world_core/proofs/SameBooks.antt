-- What a book has is the same, whichever of its events were dropped at checkpoints.
use Rattle.std.proofs.Common.{◌≡◌, ◌⊎◌, ◌≤◌, ◌<◌, ◌+◌, ℕ, List, [], ◌∷◌, ◌++◌, length, refl, sym, ap, subst, ◌∙◌}
use Rattle.std.proofs.Common.{append-nil, append_assoc, inl, inr}
use Rattle.std.specs.Prelude.{Any, unwrap_or}
use Rattle.mapping_model.specs.MappingId.{event_id}
use Rattle.mock_request.specs.Request.{Request}
use Rattle.recorder.specs.Recording.{IsFull, IsOn, IsOnAnd, TakesFrom}
use Rattle.recorder.specs.Stubs.{recorded_mappings, recorded_skipped}
use Rattle.request_journal.specs.Choice.{IsChoice, IsChosen, IsMissed}
use Rattle.request_journal.specs.Legal.{IsAnswer, IsCheckpoint, IsLegal, IsNext, identified}
use Rattle.request_journal.specs.Live.{adds, left_by, live}
use Rattle.request_journal.specs.Past.{Past, Placed, last_number, with_event, with_events}
use Rattle.request_journal.specs.Recording.{recording}
use Rattle.request_journal.specs.State.{IsIn, Names, state, touch}
use Rattle.request_journal.specs.declared.event.Event.{Event}
use Rattle.request_journal.specs.declared.event.Event.TheVariants as event
use Rattle.request_journal.specs.declared.event.ServeAnswer.{ServeAnswer}
use Rattle.request_journal.specs.declared.event.ServeAnswer.TheVariants.{Proxy, Stub, Unmatched}
use Rattle.request_journal.specs.declared.limits.TheConstants.{LIVE_LIMIT, NUMBER_LIMIT}
use Rattle.request_journal.proofs.CheckpointLemmas.{number_at_checkpoint}
use Rattle.request_journal.proofs.LegalLemmas.{legal_after}
use Rattle.request_journal.proofs.LiveLemmas.{live_after, live_at_checkpoint, state_after, state_at_checkpoint}
use Rattle.request_journal.proofs.RecordingLemmas.{recording_after, recording_at_checkpoint, recording_by}
use Rattle.request_journal.proofs.SameLemmas.{number_after}
use Rattle.scenario_core.specs.Scenarios.{started}
use Rattle.shared_book.specs.Reached.{Lead}
use Rattle.stub_book.specs.Growth.{Grows}
use Rattle.world_core.proofs.Grown.{added}
use Rattle.world_core.specs.Shared.{IsSameBook, with_all}

-- the same live mappings, states and recording
record Same (a b : Past) : Type 0 where
  lives : live b ≡ live a
  states : state b ≡ state a
  recorded : recording b ≡ recording a

same_back : (a b : Past) → Same a b → Same b a
same_back a b g = record { lives = sym g.lives; states = sym g.states; recorded = sym g.recorded }

same_then : (a b c : Past) → Same a b → Same b c → Same a c
same_then a b c g h = record {
  lives = h.lives ∙ g.lives;
  states = h.states ∙ g.states;
  recorded = h.recorded ∙ g.recorded;
}

-- and the same defaults and number
record Agree (a b : Past) : Type 0 where
  same : Same a b
  defaults : b.defaults ≡ a.defaults
  number : last_number b ≡ last_number a

agree_itself : (a : Past) → Agree a a
agree_itself a = record {
  same = record { lives = refl; states = refl; recorded = refl };
  defaults = refl;
  number = refl;
}

agree_back : (a b : Past) → Agree a b → Agree b a
agree_back a b g = record { same = same_back a b g.same; defaults = sym g.defaults; number = sym g.number }

agree_then : (a b c : Past) → Agree a b → Agree b c → Agree a c
agree_then a b c g h = record {
  same = same_then a b c g.same h.same;
  defaults = h.defaults ∙ g.defaults;
  number = h.number ∙ g.number;
}

agree_checkpoint : (old new : Past) → IsCheckpoint old new → Agree old new
agree_checkpoint old new c = record {
  same = record {
    lives = live_at_checkpoint old new c;
    states = λ i name. state_at_checkpoint old new c name i;
    recorded = recording_at_checkpoint old new c;
  };
  defaults = c.same_defaults;
  number = number_at_checkpoint old new c;
}

agree_after : (a b : Past) (e : Event) → Agree a b → Agree (with_event a e) (with_event b e)
agree_after a b e g = record {
  same = record {
    lives = live_after b e
        ∙ (λ i. left_by (e ∷ []) (g.same.lives i) ++ adds (g.defaults i) (g.number i + 1) e) ∙ sym (live_after a e);
    states = λ i name.
        (state_after b e name ∙ ap (λ (s : List ℕ → List ℕ). unwrap_or (touch name e) (s name)) g.same.states
        ∙ sym (state_after a e name)) i;
    recorded = recording_after b e
        ∙ (λ i. recording_by (g.number i + 1) e (g.same.recorded i)) ∙ sym (recording_after a e);
  };
  defaults = g.defaults;
  number = number_after b e ∙ ap (λ n. n + 1) g.number ∙ sym (number_after a e);
}

agree_grown : (a old new : Past) (e : Event) → Agree a old → Grows old new e → Agree (with_event a e) new
agree_grown a old new e g grows = elim (added old new e grows.after) [
  | inl same ↦ subst (λ p. Agree (with_event a e) p) (sym same) (agree_after a old e g)
  | inr cleared ↦ subst (λ p. Agree (with_event a e) p) (sym cleared.3)
      (agree_after a cleared.0 e (agree_then a old cleared.0 g (agree_checkpoint old cleared.0 cleared.2)))
]

-- ---- the next event

-- a fact of the live mappings, the states, the recording and the number
moved : {X : Type 0} (P : X → Type 0) (x y : X) → y ≡ x → P x → P y
moved P x y same p = subst P (sym same) p

choice_moved : (a b : Past) (request : Request) (answer : ServeAnswer) → Same a b
    → IsChoice a request answer → IsChoice b request answer
choice_moved a b request (Stub c) g choice =
    moved (λ s. IsChosen s (live b) request c.mapping) (state a) (state b) g.states
    (moved (λ l. IsChosen (state a) l request c.mapping) (live a) (live b) g.lives choice)
choice_moved a b request (Proxy target) g choice = (
  moved (λ s. IsMissed s (live b) request) (state a) (state b) g.states
      (moved (λ l. IsMissed (state a) l request) (live a) (live b) g.lives choice.0),
  moved (λ r. IsOnAnd r (λ session. session.target ≡ target)) (recording a) (recording b) g.recorded choice.1,
)
choice_moved a b request Unmatched g choice = (
  moved (λ s. IsMissed s (live b) request) (state a) (state b) g.states
      (moved (λ l. IsMissed (state a) l request) (live a) (live b) g.lives choice.0),
  moved (λ r. ¬ (IsOn r)) (recording a) (recording b) g.recorded choice.1,
)

answer_moved : (a b : Past) (e : Event) → Agree a b → IsAnswer a e → IsAnswer b e
answer_moved a b (event.Serve request answer) g is = choice_moved a b request answer g.same is
answer_moved a b (event.Add mapping) g is =
    moved (λ n. mapping.id ≡ unwrap_or mapping.spec.id (event_id (n + 1))) (last_number a) (last_number b) g.number is
answer_moved a b (event.Edit id spec) g is =
    moved (λ l. Any (λ (p : Placed). p.mapping.id ≡ id) l) (live a) (live b) g.same.lives is
answer_moved a b (event.Delete id) g is =
    moved (λ l. Any (λ (p : Placed). p.mapping.id ≡ id) l) (live a) (live b) g.same.lives is
answer_moved a b (event.SetScenario name value) g is =
    moved (λ l. Any (λ (p : Placed). IsIn name p.mapping.spec.scenario) l
    × ((value ≡ started) ⊎ Any (λ (p : Placed). Names name value p.mapping.spec.scenario) l))
    (live a) (live b) g.same.lives is
answer_moved a b (event.StartRecording target captured repeats) g is =
    (moved (λ r. ¬ (IsOn r)) (recording a) (recording b) g.same.recorded is.0, is.1)
answer_moved a b (event.Record serve exchange) g is = record {
  takes = moved (λ r. TakesFrom r serve) (recording a) (recording b) g.same.recorded is.takes;
  known = moved (λ n. serve ≤ n) (last_number a) (last_number b) g.number is.known;
  room = moved (λ r. ¬ (IsFull r)) (recording a) (recording b) g.same.recorded is.room;
}
answer_moved a b (event.StopRecording mappings skipped) g is =
    moved (λ r. IsOnAnd r (λ session. (mappings ≡ identified (recorded_mappings session (last_number b + 1)))
    × (skipped ≡ recorded_skipped session))) (recording a) (recording b) g.same.recorded
    (moved (λ n. IsOnAnd (recording a) (λ session. (mappings ≡ identified (recorded_mappings session (n + 1)))
    × (skipped ≡ recorded_skipped session))) (last_number a) (last_number b) g.number is)
answer_moved a b event.DeleteAll g is = tt
answer_moved a b event.ResetMappings g is = tt
answer_moved a b event.ResetAll g is = tt
answer_moved a b event.ResetScenarios g is = tt
answer_moved a b event.ClearJournal g is = tt

next_moved : (a b : Past) (e : Event) → Agree a b → IsNext a e → IsNext b e
next_moved a b e g next = record {
  answer = answer_moved a b e g next.answer;
  few_live = moved (λ l. length l ≤ LIVE_LIMIT) (live (with_event a e)) (live (with_event b e))
      (agree_after a b e g).same.lives next.few_live;
  has_room = moved (λ n. n < NUMBER_LIMIT) (last_number a) (last_number b) g.number next.has_room;
}

-- ---- all events

-- one event before others
event_before : (a : Past) (e : Event) (es : List Event)
    → with_events (with_event a e) ((a.events ++ e ∷ []) ++ es) ≡ with_events a (a.events ++ e ∷ es)
event_before a e es = ap (λ l. with_events a l) (append_assoc a.events (e ∷ []) es)

all_agree : (a old new : Past) (es : List Event) → Agree a old → Lead old es new
    → Agree (with_events a (a.events ++ es)) new
all_agree a old new [] g same =
    subst (λ p. Agree p new) (sym (ap (λ l. with_events a l) (append-nil a.events))) (subst (Agree a) same g)
all_agree a old new (e ∷ es) g (next, grows, lead) =
    subst (λ p. Agree p new) (event_before a e es)
    (all_agree (with_event a e) next new es (agree_grown a old next e g grows) lead)

all_legal : (a old new : Past) (es : List Event) → IsLegal a → Agree a old → Lead old es new
    → IsLegal (with_events a (a.events ++ es))
all_legal a old new [] legal g same = subst IsLegal (sym (ap (λ l. with_events a l) (append-nil a.events))) legal
all_legal a old new (e ∷ es) legal g (next, grows, lead) =
    subst IsLegal (event_before a e es)
    (all_legal (with_event a e) next new es
    (legal_after a e legal (next_moved old a e (agree_back a old g) grows.next))
    (agree_grown a old next e g grows) lead)

-- ---- the laws

same_book : (a b : Past) → Same a b → IsSameBook a b
same_book a b g = record {
  same_live = g.lives;
  same_states = λ name i. g.states i name;
  same_recording = g.recorded;
  same_choice = λ request answer.
      (choice_moved a b request answer g, choice_moved b a request answer (same_back a b g));
}

pub same_as_all : (old new : Past) (es : List Event) → Lead old es new → IsSameBook (with_all old es) new
same_as_all old new es lead = same_book (with_all old es) new (all_agree old old new es (agree_itself old) lead).same

pub number_of_all : (old new : Past) (es : List Event) → Lead old es new
    → last_number new ≡ last_number (with_all old es)
number_of_all old new es lead = (all_agree old old new es (agree_itself old) lead).number

pub legal_with_all : (old new : Past) (es : List Event) → IsLegal old → Lead old es new → IsLegal (with_all old es)
legal_with_all old new es legal lead = all_legal old old new es legal (agree_itself old) lead

-- a clear touches nothing that the book has
left_by_clear : (ps : List Placed) → left_by (event.ClearJournal ∷ []) ps ≡ ps
left_by_clear [] = refl
left_by_clear (p ∷ ps) = ap (λ l. p ∷ l) (left_by_clear ps)

after_clear : (old : Past) → Same old (with_event old event.ClearJournal)
after_clear old = record {
  lives = live_after old event.ClearJournal ∙ append-nil (left_by (event.ClearJournal ∷ []) (live old))
      ∙ left_by_clear (live old);
  states = λ i name. state_after old event.ClearJournal name i;
  recorded = recording_after old event.ClearJournal;
}

pub same_after_clear : (old new : Past) → Grows old new event.ClearJournal → IsSameBook old new
same_after_clear old new grows =
    same_book old new
    (same_then old (with_event old event.ClearJournal) new (after_clear old)
    (agree_grown old old new event.ClearJournal (agree_itself old) grows).same)
