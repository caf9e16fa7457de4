-- The mappings of a recording that is stopped, or of a book that is opened, are the live ones.
use Rattle.std.proofs.Common.{◌≡◌, ◌↔◌, ◌≤◌, ◌+◌, ℕ, zero, suc, Bool, true, false, cond, List, [], ◌∷◌, ◌++◌, length}
use Rattle.std.proofs.Common.{map, Option, Some, None, refl, sym, ap, subst, ◌∙◌, inl, inr, arith, append-nil}
use Rattle.std.specs.Cmp.Lexicographic.{slice_cmp}
use Rattle.std.specs.FinMap as fin_map
use Rattle.std.specs.FinMap.{get-empty}
use Rattle.std.specs.Ordering.{nat_cmp}
use Rattle.std.specs.Prelude.{Any, Contains, IfSome, slice_index_or, unwrap_or}
use Rattle.mapping_model.specs.declared.mapping_spec.MappingSpec.{MappingSpec}
use Rattle.mapping_model.specs.declared.scenario_spec.ScenarioSpec.{ScenarioSpec}
use Rattle.recorder.specs.Recording.{IsOnAnd}
use Rattle.recorder.specs.Stubs.{mapping_of, mappings_of, numbered, recorded_mappings, recorded_skipped}
use Rattle.recorder.specs.declared.exchange.Exchange.{Exchange}
use Rattle.recorder.specs.declared.recording.Recording.TheVariants.{On}
use Rattle.recorder.specs.declared.recording.Session.{Session}
use Rattle.request_journal.specs.Legal.{identified}
use Rattle.request_journal.specs.Live.{left_by, live}
use Rattle.request_journal.specs.Past.{Past, Placed, defaults_from, has_id, last_number, opened, placed_from}
use Rattle.request_journal.specs.Past.{with_event}
use Rattle.request_journal.specs.State.{state}
use Rattle.request_journal.specs.declared.event.Event.{Event}
use Rattle.request_journal.specs.declared.event.Event.TheVariants as event
use Rattle.request_journal.specs.declared.limits.TheConstants.{NUMBER_LIMIT}
use Rattle.request_journal.specs.declared.mapping.Mapping.{Mapping}
use Rattle.request_journal.proofs.LiveLemmas.{left_by_none, live_after, state_after}
use Rattle.scenario_core.specs.Scenarios.{started, state_of}
use Rattle.stub_book.specs.Growth.{repeated}
use Rattle.world_core.specs.Replay.{HasRecorded, IsStoppedAndReset}
use Rattle.world_core.proofs.ListFacts.{IsItem, contains_item, item_of}

abbrev specs_of : List Placed → List MappingSpec
specs_of placed = map (λ p. p.mapping.spec) placed

-- ---- mappings that are added, of which no two have one id

not_one_more : (n : ℕ) → n + 1 ≡ 0 → ⊥
not_one_more n is = omega (arith, is)

one_placed : (number index : ℕ) (m : Mapping) (ms : List Mapping) (b : Bool)
    → cond b (repeated ms + 1) (repeated ms) ≡ 0
    → (repeated ms ≡ 0 → specs_of (placed_from number (index + 1) ms) ≡ map (λ (n : Mapping). n.spec) ms)
    → specs_of (cond b (placed_from number (index + 1) ms)
    (record { place = record { event = number; index = index }; mapping = m } ∷ placed_from number (index + 1) ms))
    ≡ m.spec ∷ map (λ (n : Mapping). n.spec) ms
one_placed number index m ms true more rest = absurd (not_one_more (repeated ms) more)
one_placed number index m ms false none rest = ap (λ l. m.spec ∷ l) (rest none)

all_placed : (number index : ℕ) (mappings : List Mapping) → repeated mappings ≡ 0
    → specs_of (placed_from number index mappings) ≡ map (λ m. m.spec) mappings
all_placed number index [] distinct = refl
all_placed number index (m ∷ ms) distinct =
    one_placed number index m ms (has_id ms m.id) distinct (λ rest. all_placed number (index + 1) ms rest)

-- ---- the mappings of a recording have ids

all_identified : (captured : List (List ℕ)) (number index : ℕ) (parts : List (Exchange × Option ScenarioSpec))
    → map (λ (m : Mapping). m.spec) (identified (numbered captured number index parts))
    ≡ numbered captured number index parts
all_identified captured number index [] = refl
all_identified captured number index (part ∷ parts) =
    ap (λ l. mapping_of captured number index part.0 part.1 ∷ l) (all_identified captured number (suc index) parts)

all_defaults : (index : ℕ) (specs : List MappingSpec)
    → map (λ (m : Mapping). m.spec) (defaults_from index specs) ≡ specs
all_defaults index [] = refl
all_defaults index (s ∷ ss) = ap (λ l. s ∷ l) (all_defaults (index + 1) ss)

-- ---- which mappings are live

item_of_specs : (placed : List Placed) (spec : MappingSpec) → Any (λ (p : Placed). p.mapping.spec ≡ spec) placed
    → IsItem (specs_of placed) spec
item_of_specs [] spec (k, p, lt, at, is) = absurd (omega (arith, lt))
item_of_specs (q ∷ placed) spec (zero, p, lt, at, is) = inl (ap (λ (x : Placed). x.mapping.spec) at ∙ is)
item_of_specs (q ∷ placed) spec (suc k, p, lt, at, is) =
    inr (item_of_specs placed spec (k, p, omega (arith, lt), at, is))

any_of_specs : (placed : List Placed) (spec : MappingSpec) → IsItem (specs_of placed) spec
    → Any (λ (p : Placed). p.mapping.spec ≡ spec) placed
any_of_specs [] spec item = absurd item
any_of_specs (q ∷ placed) spec (inl is) = (0, q, omega arith, refl, is)
any_of_specs (q ∷ placed) spec (inr item) =
    let there = any_of_specs placed spec item in
    (suc there.0, there.1, omega (arith, there.2), there.3, there.4)

same_ones : (placed : List Placed) (specs : List MappingSpec) → specs_of placed ≡ specs → (spec : MappingSpec)
    → Any (λ (p : Placed). p.mapping.spec ≡ spec) placed ↔ Contains specs spec
same_ones placed specs are spec = (
  λ some. contains_item specs spec (subst (λ l. IsItem l spec) are (item_of_specs placed spec some)),
  λ has. any_of_specs placed spec (subst (λ l. IsItem l spec) (sym are) (item_of specs spec has)),
)

-- ---- a past in which every scenario has begun anew

begun : (past : Past) (scenario : Option ScenarioSpec) → ((name : List ℕ) → state past name ≡ started)
    → IfSome scenario (λ s. state past s.name ≡ started)
begun past None fresh = tt
begun past (Some s) fresh = fresh s.name

ready : (captured : List (List ℕ)) (number : ℕ) (exchanges : List Exchange) (past : Past)
    → specs_of (live past) ≡ mappings_of captured exchanges true number
    → ((name : List ℕ) → state past name ≡ started) → last_number past + length exchanges ≤ NUMBER_LIMIT
    → HasRecorded captured number exchanges past
ready captured number exchanges past are fresh room = record {
  same_mappings = same_ones (live past) (mappings_of captured exchanges true number) are;
  all_started = λ k d lt.
      begun past (slice_index_or (mappings_of captured exchanges true number) k d).scenario fresh;
  room = room;
}

-- ---- after a stop and a reset

left_by_reset : (ps : List Placed) → left_by (event.ResetScenarios ∷ []) ps ≡ ps
left_by_reset [] = refl
left_by_reset (p ∷ ps) = ap (λ l. p ∷ l) (left_by_reset ps)

stopped_by : (number : ℕ) (session : Session) (mappings : List Mapping) (skipped : ℕ)
    → IsOnAnd (On session) (λ s. (mappings ≡ identified (recorded_mappings s number)) × (skipped ≡ recorded_skipped s))
    → mappings ≡ identified (recorded_mappings session number)
stopped_by number session mappings skipped is = is.0

pub ready_after_stop : (old past : Past) (session : Session) → IsStoppedAndReset old session past
    → HasRecorded session.captured (last_number old + 1) session.exchanges past
ready_after_stop old past session h =
    let (stopped, stops, (reset, resets, same)) = h.leads in
    let number : ℕ = last_number old + 1 in
    let stop : Event = event.StopRecording h.mappings h.skipped in
    let ends : past ≡ with_event (with_event old stop) event.ResetScenarios =
    sym same ∙ resets.after ∙ ap (λ p. with_event p event.ResetScenarios) stops.after in
    let are : h.mappings ≡ identified (recorded_mappings session number) =
    stopped_by number session h.mappings h.skipped
    (subst (λ r. IsOnAnd r (λ s. (h.mappings ≡ identified (recorded_mappings s number))
    × (h.skipped ≡ recorded_skipped s))) h.on stops.next.answer) in
    let added : live (with_event old stop) ≡ placed_from number 0 h.mappings =
    live_after old stop ∙ ap (λ l. left_by (stop ∷ []) l ++ placed_from number 0 h.mappings) h.alone in
    let lives : live past ≡ placed_from number 0 h.mappings =
    ap live ends ∙ live_after (with_event old stop) event.ResetScenarios
    ∙ append-nil (left_by (event.ResetScenarios ∷ []) (live (with_event old stop)))
    ∙ left_by_reset (live (with_event old stop)) ∙ added in
    let recorded : specs_of (live past) ≡ mappings_of session.captured session.exchanges true number =
    ap specs_of lives ∙ all_placed number 0 h.mappings h.distinct ∙ ap (map (λ (m : Mapping). m.spec)) are
    ∙ all_identified session.captured number 0 _
    ∙ ap (λ b. mappings_of session.captured session.exchanges b number) h.repeats in
    let fresh : (name : List ℕ) → state past name ≡ started =
    λ name. ap (λ (p : Past). state p name) ends ∙ state_after (with_event old stop) event.ResetScenarios name in
    ready session.captured number session.exchanges past recorded fresh h.room

-- ---- in a book that was just opened

never_moved : (name : List ℕ) → state_of fin_map.empty name ≡ started
never_moved name = ap (λ o. unwrap_or o started) (get-empty (slice_cmp nat_cmp) name)

pub ready_when_opened : (captured : List (List ℕ)) (number opening : ℕ) (exchanges : List Exchange)
    → repeated (defaults_from 0 (mappings_of captured exchanges true number)) ≡ 0
    → opening + length exchanges ≤ NUMBER_LIMIT
    → HasRecorded captured number exchanges (opened opening (mappings_of captured exchanges true number))
ready_when_opened captured number opening exchanges distinct room =
    let specs : List MappingSpec = mappings_of captured exchanges true number in
    let past : Past = opened opening specs in
    let lives : live past ≡ placed_from opening 0 (defaults_from 0 specs) =
    append-nil (left_by [] (placed_from opening 0 (defaults_from 0 specs)))
    ∙ left_by_none (placed_from opening 0 (defaults_from 0 specs)) in
    let recorded : specs_of (live past) ≡ specs =
    ap specs_of lives ∙ all_placed opening 0 (defaults_from 0 specs) distinct ∙ all_defaults 0 specs in
    let last : last_number past + length exchanges ≤ NUMBER_LIMIT = omega (arith, room) in
    ready captured number exchanges past recorded never_moved last
