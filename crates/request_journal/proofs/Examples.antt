-- Small pasts that the definitions read as they should: ids are short texts, and the mappings are any.
use Rattle.std.proofs.Common.{◌≡◌, inl, inr, ℕ, zero, suc, ◌+◌, ◌<◌, ◌≤◌, ◌==◌, true, List, [], ◌∷◌, ◌++◌, Contains}
use Rattle.std.proofs.Common.{Some, None, option_map, refl, sym, ap, subst, ◌∙◌, codes, arith}
use Rattle.std.specs.Prelude.{◌<ℤ◌, find}
use Rattle.std.proofs.lemmas.Int.{ints}
use Rattle.mapping_model.specs.Priority.{priority_of}
use Rattle.mapping_model.specs.declared.mapping_spec.MappingSpec.{MappingSpec}
use Rattle.mock_request.specs.Request.{Request}
use Rattle.recorder.specs.declared.exchange.Exchange.{Exchange}
use Rattle.recorder.specs.declared.recording.Recording.TheVariants.{NeverStarted, On, Stopped}
use Rattle.recorder.specs.declared.recording.Session.{Session}
use Rattle.request_match.specs.Matching.{MeetsRequest}
use Rattle.scenario_core.specs.Scenarios.{States, started, state_of}
use Rattle.request_journal.specs.Choice.{IsChoice, IsReady, WinsOver}
use Rattle.request_journal.specs.Events.{numbered}
use Rattle.request_journal.specs.Journal.{requests, unmatched, event_at}
use Rattle.request_journal.specs.Legal.{IsCheckpoint, IsTaken}
use Rattle.request_journal.specs.Live.{live}
use Rattle.request_journal.specs.Past.{Past, Placed, opening_base, last_number, with_events}
use Rattle.request_journal.specs.Recording.{recording}
use Rattle.request_journal.specs.State.{state}
use Rattle.request_journal.specs.declared.event.Event.{Event}
use Rattle.request_journal.specs.declared.event.Event.TheVariants as event
use Rattle.request_journal.specs.declared.event.ServeAnswer.TheVariants.{Stub, Proxy, Unmatched}
use Rattle.request_journal.specs.declared.mapping.Mapping.{Mapping}
use Rattle.request_journal.proofs.SameLemmas.{then, live_since_checkpoint, state_since_checkpoint}

-- a book opened at 0
abbrev book : List Mapping → List Event → Past
book defaults events = record { opening = 0; defaults = defaults; base = opening_base 0 defaults; events = events }

abbrev named : List ℕ → MappingSpec → Mapping
named id spec = record { id = id; spec = spec }

abbrev at : ℕ → ℕ → List ℕ → MappingSpec → Placed
at number index id spec = record { place = record { event = number; index = index }; mapping = named id spec }

abbrev a : List ℕ
a = codes "a"

abbrev b : List ℕ
b = codes "b"

-- ---- live mappings

module _ (s t u : MappingSpec) where
  added_in_order : live (book [] (event.Add (named a s) ∷ event.Add (named b t) ∷ []))
      ≡ at 1 0 a s ∷ at 2 0 b t ∷ []
  added_in_order = refl

  edit_keeps_the_place
      : live (book [] (event.Add (named a s) ∷ event.Add (named b t) ∷ event.Edit a u ∷ []))
      ≡ at 1 0 a u ∷ at 2 0 b t ∷ []
  edit_keeps_the_place = refl

  held_id_gets_a_new_place
      : live (book [] (event.Add (named a s) ∷ event.Add (named b t) ∷ event.Add (named a u) ∷ []))
      ≡ at 2 0 b t ∷ at 3 0 a u ∷ []
  held_id_gets_a_new_place = refl

  -- an edit says nothing of a mapping that is added later with the same id
  edit_is_forgotten
      : live (book [] (event.Add (named a s) ∷ event.Edit a t ∷ event.Delete a ∷ event.Add (named a u) ∷ []))
      ≡ at 4 0 a u ∷ []
  edit_is_forgotten = refl

  default_is_deleted : live (book (named a s ∷ named b t ∷ []) (event.Delete a ∷ [])) ≡ at 0 1 b t ∷ []
  default_is_deleted = refl

  reset_brings_the_defaults_back
      : live (book (named a s ∷ [])
      (event.Edit a t ∷ event.Add (named b u) ∷ event.Delete a ∷ event.ResetMappings ∷ []))
      ≡ at 4 0 a s ∷ []
  reset_brings_the_defaults_back = refl

  all_are_deleted : live (book (named a s ∷ []) (event.Add (named b u) ∷ event.DeleteAll ∷ [])) ≡ []
  all_are_deleted = refl

  -- of two defaults with one id the later
  later_default : live (book (named a s ∷ named a t ∷ []) []) ≡ at 0 1 a t ∷ []
  later_default = refl

  stop_adds_in_order
      : live (book [] (event.Add (named a s) ∷ event.StopRecording (named b t ∷ named a u ∷ []) 0 ∷ []))
      ≡ at 2 0 b t ∷ at 2 1 a u ∷ []
  stop_adds_in_order = refl

-- ---- scenarios

-- a mapping that moves the scenario `a` to the state
abbrev moving : MappingSpec → List ℕ → MappingSpec
moving s next = record s { scenario = Some (record { name = a; required = None; next = Some next }) }

module _ (s : MappingSpec) (r : Request) where
  abbrev serve_moving : List ℕ → Event
  serve_moving next = event.Serve r (Stub (record { mapping = named b (moving s next) }))

  last_move : state (book [] (serve_moving (codes "2") ∷ serve_moving (codes "3") ∷ event.DeleteAll ∷ [])) a
      ≡ codes "3"
  last_move = refl

  set_after_move
      : state (book [] (serve_moving (codes "2") ∷ event.SetScenario a (codes "4")
      ∷ event.SetScenario b (codes "5") ∷ [])) a
      ≡ codes "4"
  set_after_move = refl

  reset_after_move : state (book [] (serve_moving (codes "2") ∷ event.ResetScenarios ∷ [])) a ≡ started
  reset_after_move = refl

  mappings_reset_alone : state (book [] (serve_moving (codes "2") ∷ event.ResetMappings ∷ [])) a ≡ codes "2"
  mappings_reset_alone = refl

-- ---- journal and checkpoints

-- add, serve, serve, clear, serve: the first three are dropped, and what they left stays
module _ (s : MappingSpec) (r : Request) (states : States) where
  abbrev cleared : Past
  cleared = record {
    opening = 0;
    defaults = [];
    base = record { number = 3; live = at 1 0 b s ∷ []; states = states; recording = NeverStarted };
    events = event.ClearJournal ∷ event.Serve r Unmatched ∷ [];
  }

  numbers_go_on : last_number cleared ≡ 5
  numbers_go_on = refl

  dropped : event_at cleared 3 ≡ None
  dropped = refl

  clear_is_kept : event_at cleared 4 ≡ Some event.ClearJournal
  clear_is_kept = refl

  mappings_stay : live cleared ≡ at 1 0 b s ∷ []
  mappings_stay = refl

  states_stay : (name : List ℕ) → state cleared name ≡ state_of states name
  states_stay name = refl

  one_request : requests cleared ≡ record { number = 5; request = r } ∷ []
  one_request = refl

-- the same, from the past before the clear: whatever the checkpoint made of it
module _ (s : MappingSpec) (q r : Request) (new : Past) where
  abbrev serve_moved : Request → List ℕ → Event
  serve_moved request next = event.Serve request (Stub (record { mapping = named b (moving s next) }))

  abbrev before_clear : Past
  before_clear = book [] (event.Add (named b s) ∷ serve_moved q (codes "2") ∷ serve_moved q (codes "3") ∷ [])

  abbrev after_clear : Past
  after_clear = with_events new (event.ClearJournal ∷ event.Serve r Unmatched ∷ [])

  module _ (c : IsCheckpoint before_clear new) where
    since_clear : then new (event.ClearJournal ∷ event.Serve r Unmatched ∷ []) ≡ after_clear
    since_clear = ap (λ es. with_events new (es ++ event.ClearJournal ∷ event.Serve r Unmatched ∷ [])) c.no_events

    five_events : last_number after_clear ≡ 5
    five_events = ap (λ n. n + 2) c.same_number

    third_is_dropped : event_at after_clear 3 ≡ None
    third_is_dropped =
        ap (λ n. option_map (λ x. x.event)
        (find (λ x. x.number == 3) (numbered (n + 1) after_clear.events))) c.same_number

    fourth_is_the_clear : event_at after_clear 4 ≡ Some event.ClearJournal
    fourth_is_the_clear =
        ap (λ n. option_map (λ x. x.event)
        (find (λ x. x.number == 4) (numbered (n + 1) after_clear.events))) c.same_number

    last_request_alone : requests after_clear ≡ record { number = 5; request = r } ∷ []
    last_request_alone = ap (λ n. record { number = n + 1 + 1; request = r } ∷ []) c.same_number

    mapping_stays : live after_clear ≡ at 1 0 b s ∷ []
    mapping_stays =
        sym (ap live since_clear)
        ∙ live_since_checkpoint (event.ClearJournal ∷ event.Serve r Unmatched ∷ []) before_clear new c

    state_stays : state after_clear a ≡ codes "3"
    state_stays =
        sym (ap (λ past. state past a) since_clear)
        ∙ state_since_checkpoint (event.ClearJournal ∷ event.Serve r Unmatched ∷ []) a before_clear new c

module _ (r q : Request) (target : List ℕ) where
  newest_first
      : requests (book [] (event.Serve q Unmatched ∷ event.ClearJournal ∷ event.Serve r Unmatched
      ∷ event.Serve q (Proxy target) ∷ []))
      ≡ record { number = 4; request = q } ∷ record { number = 3; request = r } ∷ []
  newest_first = refl

  proxied_is_not_unmatched
      : unmatched (book [] (event.Serve q Unmatched ∷ event.ClearJournal ∷ event.Serve r Unmatched
      ∷ event.Serve q (Proxy target) ∷ []))
      ≡ record { number = 3; request = r } ∷ []
  proxied_is_not_unmatched = refl

-- ---- recordings

one_below_two : 1 < 2
one_below_two = omega arith

two_to_three : 2 ≤ 3
two_to_three = omega arith

module _ (target : List ℕ) (captured : List (List ℕ)) (x y : Exchange) where
  abbrev start : Event
  start = event.StartRecording target captured true

  abbrev session : ℕ → List Exchange → Session
  session number exchanges =
      record { start = number; target = target; captured = captured; repeats = true; exchanges = exchanges }

  started_and_stopped
      : recording (book [] (event.ClearJournal ∷ start ∷ event.Record 3 x ∷ event.Record 4 y
      ∷ event.StopRecording [] 2 ∷ []))
      ≡ Stopped (session 2 (x ∷ y ∷ []))
  started_and_stopped = refl

  -- nothing is taken after a stop
  stopped_for_good
      : recording (book [] (start ∷ event.Record 1 x ∷ event.StopRecording [] 0 ∷ event.Record 1 y ∷ []))
      ≡ Stopped (session 1 (x ∷ []))
  stopped_for_good = refl

  -- a second start forgets the first recording's exchanges
  started_again
      : recording (book [] (start ∷ event.Record 1 x ∷ event.StopRecording [] 1 ∷ start
      ∷ event.Record 4 y ∷ []))
      ≡ On (session 4 (y ∷ []))
  started_again = refl

  -- a record whose serve was dropped with a checkpoint joins the base's recording
  recorded_after_a_clear : (states : States)
      → recording (record {
        opening = 0;
        defaults = [];
        base = record { number = 2; live = []; states = states; recording = On (session 1 (x ∷ [])) };
        events = event.ClearJournal ∷ event.Record 2 y ∷ [];
      })
      ≡ On (session 1 (x ∷ y ∷ []))
  recorded_after_a_clear states = refl

  -- and is a right answer, though its serve was dropped
  taken_after_a_clear : (states : States)
      → IsTaken (record {
        opening = 0;
        defaults = [];
        base = record { number = 2; live = []; states = states; recording = On (session 1 []) };
        events = event.ClearJournal ∷ [];
      }) 2
  taken_after_a_clear states = record {
    takes = one_below_two;
    known = two_to_three;
    room = λ full. let l : 10000 ≤ 0 = full in omega (arith, l);
  }

  -- one that was served before the recording was started is none
  served_too_early : IsTaken (book [] (event.ClearJournal ∷ start ∷ [])) 1 → ⊥
  served_too_early taken = let l : 2 < 1 = taken.takes in omega (arith, l)

-- ---- choice

-- two mappings that the request meets, of one priority and without a scenario: the newer is chosen
module _ (s t : MappingSpec) (r : Request) (equal : priority_of t.priority ≡ priority_of s.priority)
    (meets : MeetsRequest t.request r) (plain : t.scenario ≡ None)
  where
    abbrev two : Past
    two = book [] (event.Add (named a s) ∷ event.Add (named b t) ∷ [])

    older_loses : ¬ (WinsOver (at 1 0 a s) (at 2 0 b t))
    older_loses (inl less) =
        let l : priority_of s.priority <ℤ priority_of t.priority = less in omega (arith, ints, l, equal)
    older_loses (inr (same, inl newer)) = let l : 2 < 1 = newer in omega (arith, l)
    older_loses (inr (same, inr newer)) = let l : 0 < 0 = newer.1 in omega (arith, l)

    not_over_itself : ¬ (WinsOver (at 2 0 b t) (at 2 0 b t))
    not_over_itself (inl less) =
        let l : priority_of t.priority <ℤ priority_of t.priority = less in omega (arith, ints, l)
    not_over_itself (inr (same, inl newer)) = let l : 2 < 2 = newer in omega (arith, l)
    not_over_itself (inr (same, inr newer)) = let l : 0 < 0 = newer.1 in omega (arith, l)

    none_better : (other : Placed) → Contains (live two) other → ¬ (WinsOver other (at 2 0 b t))
    none_better other (zero, l, is) = subst (λ p. ¬ (WinsOver p (at 2 0 b t))) is older_loses
    none_better other (suc zero, l, is) = subst (λ p. ¬ (WinsOver p (at 2 0 b t))) is not_over_itself
    none_better other (suc (suc k), l, is) = absurd (omega (arith, l))

    newest_is_chosen : IsChoice two r (Stub (record { mapping = named b t }))
    newest_is_chosen = record {
      placed = at 2 0 b t;
      same = refl;
      is_live = (1, omega arith, refl);
      eligible = record { meets = meets; ready = subst (IsReady (state two)) (sym plain) tt };
      best = λ other among eligible. none_better other among;
    }

module _ (s t : MappingSpec) where
  newest_of_equals : priority_of t.priority ≡ priority_of s.priority → WinsOver (at 2 0 b t) (at 1 0 a s)
  newest_of_equals same = inr (same, inl (omega arith))

  later_of_one_event : priority_of t.priority ≡ priority_of s.priority → WinsOver (at 2 1 b t) (at 2 0 a s)
  later_of_one_event same = inr (same, inr (refl, omega arith))

  least_number : priority_of s.priority <ℤ priority_of t.priority → WinsOver (at 1 0 a s) (at 2 0 b t)
  least_number less = inl less
