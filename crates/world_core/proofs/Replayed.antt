-- What is recorded is what is replayed.
use Rattle.std.proofs.Common.{◌≡◌, ◌≢◌, ◌↔◌, ◌<◌, ◌≤◌, ◌+◌, ◌^◌, ℕ, true, false}
use Rattle.std.proofs.Common.{cond, List, [], ◌∷◌, ◌++◌, length, All, Option, Some, None, refl, sym, ap}
use Rattle.std.proofs.Common.{ap₂, ◌∙◌, inl, inr, arith, subst, codes, append-nil, option_map}
use Rattle.std.specs.Prelude.{Any, Contains, IfSome, bytes_eq, decimal, nat_lt, if◌then◌else◌, unwrap_or}
use Rattle.std.proofs.lemmas.Bool.{cases_Bool, false_from_ne_true, lt-ltb}
use Rattle.std.proofs.lemmas.List.{length-append, length-map, map-append}
use Rattle.std.proofs.lemmas.List.Sums.{count_by-le-length}
use Rattle.std.proofs.lemmas.Slice.Eq.{bytes_eq-Decides}
use Rattle.key_groups.specs.Groups.{group_of, times}
use Rattle.mapping_model.specs.declared.mapping_spec.MappingSpec.{MappingSpec}
use Rattle.mapping_model.specs.declared.scenario_spec.ScenarioSpec.{ScenarioSpec}
use Rattle.mock_request.specs.Request.{Header, Request}
use Rattle.recorder.specs.Key.{KeyParts, key_of, same_key}
use Rattle.recorder.specs.Stubs.{is_kept, keys_of, mappings_of, scenario_name, scenario_part, state_name}
use Rattle.recorder.specs.declared.exchange.Exchange.{Exchange}
use Rattle.request_journal.specs.Choice.{IsChoice, IsEligible, IsMissed, IsReady}
use Rattle.request_journal.specs.Live.{left_by, live}
use Rattle.request_journal.specs.Past.{Past, Placed, last_number, with_event}
use Rattle.request_journal.specs.State.{next_state, state}
use Rattle.request_journal.specs.declared.event.Captured.{Captured}
use Rattle.request_journal.specs.declared.event.Event.{Event}
use Rattle.request_journal.specs.declared.event.Event.TheVariants as event
use Rattle.request_journal.specs.declared.event.ServeAnswer.{ServeAnswer}
use Rattle.request_journal.specs.declared.event.ServeAnswer.TheVariants.{Stub, Proxy, Unmatched}
use Rattle.request_journal.specs.declared.limits.TheConstants.{NUMBER_LIMIT}
use Rattle.request_journal.proofs.LiveLemmas.{live_after, state_after}
use Rattle.request_journal.proofs.SameLemmas.{number_after}
use Rattle.request_match.specs.Matching.{MeetsRequest}
use Rattle.scenario_core.specs.Scenarios.{started}
use Rattle.http_header.specs.FieldName.{IsHeaderName}
use Rattle.world_core.specs.Replay.{HasRecorded, IsReplayable}
use Rattle.world_core.proofs.GroupLemmas.{equal_in_group, few_groups, once_at_most, same_split, times_append}
use Rattle.world_core.proofs.GroupLemmas.{times_item, times_other, times_same, true_is_no}
use Rattle.world_core.proofs.ListFacts.{IsItem, all_item, contains_item, item_between, item_of, item_split, one_further}
use Rattle.world_core.proofs.NameLemmas.{number_at, same_scenario, same_state, started_at}
use Rattle.world_core.proofs.RequestLemmas.{IsLower, equal_key, itself_key, meets_its_key, meets_itself}
use Rattle.world_core.proofs.StubMembers.{mapping_after, mapping_is_one, own_mapping}

-- ---- events of served requests

-- such an event leaves the live mappings as they are
serve_leaves : (request : Request) (answer : ServeAnswer) (ps : List Placed)
    → left_by (event.Serve request answer ∷ []) ps ≡ ps
serve_leaves request answer [] = refl
serve_leaves request answer (p ∷ ps) = ap (λ l. p ∷ l) (serve_leaves request answer ps)

pub live_served : (past : Past) (request : Request) (answer : ServeAnswer)
    → live (with_event past (event.Serve request answer)) ≡ live past
live_served past request answer =
    live_after past (event.Serve request answer)
    ∙ append-nil (left_by (event.Serve request answer ∷ []) (live past)) ∙ serve_leaves request answer (live past)

-- ---- readiness of a mapping of a group

module _ (state_of : List ℕ → List ℕ) (number position size : ℕ) where
  abbrev part : Option ℕ → Option ScenarioSpec
  part group = option_map (λ g. scenario_part (scenario_name number g) position size) group

  ready_where : (group : Option ℕ)
      → ((g : ℕ) → group ≡ Some g → state_of (scenario_name number g) ≡ state_name position)
      → IsReady state_of (part group)
  ready_where None states = tt
  ready_where (Some g) states = states g refl

  where_ready : (group : Option ℕ) (g : ℕ) → group ≡ Some g → IsReady state_of (part group)
      → state_of (scenario_name number g) ≡ state_name position
  where_ready group g is ready = subst (λ (o : Option ℕ). IsReady state_of (part o)) is ready

module _ (captured : List (List ℕ)) (number : ℕ) (exchanges : List Exchange)
    (can : IsReplayable captured exchanges) where
  abbrev pub key : Exchange → KeyParts
  key e = key_of e.request captured

  abbrev pub keys : List KeyParts
  keys = keys_of captured exchanges

  abbrev pub recorded : List MappingSpec
  recorded = mappings_of captured exchanges true number

  abbrev pub own : List Exchange → Exchange → MappingSpec
  own before e = mapping_after captured number keys before e

  -- how many of these have the key
  abbrev pub many : KeyParts → List Exchange → ℕ
  many k es = times same_key k (keys_of captured es)

  -- ---- one of the exchanges

  lower : (e : Exchange) → IsItem exchanges e → All IsLower e.request.headers
  lower e item = λ k d lt.
      (all_item (λ x. All (λ (h : Header). IsHeaderName h.name) x.request.headers) exchanges e
      can.names item k d lt).1

  kept : (e : Exchange) → IsItem exchanges e → is_kept captured e ≡ true
  kept e item = all_item (λ x. is_kept captured x ≡ true) exchanges e can.kept item

  one_key : (x e : Exchange) → IsItem exchanges x → IsItem exchanges e
      → MeetsRequest (own [] x).request e.request → key x ≡ key e
  one_key x e item other meets =
      meets_its_key captured x e (kept x item) (kept e other) (lower x item) (lower e other)
      (all_item (λ y. y.request.method ≢ codes "ANY") exchanges x can.methods item)
      (can.bodies x e (contains_item exchanges x item) (contains_item exchanges e other)) meets

  -- ---- sizes

  few_keys : length keys ≤ 10000
  few_keys = let l = length-map exchanges key in let f = can.few in omega (arith, l, f)

  small_group : (k : KeyParts) (g : ℕ) → group_of same_key keys k ≡ Some g → g < 2 ^ 64
  small_group k g is =
      let few = few_groups same_key equal_key itself_key keys k g is in omega (arith, few, few_keys)

  few_times : (k : KeyParts) (before : List Exchange) (e : Exchange) (after : List Exchange)
      → exchanges ≡ before ++ e ∷ after → many k before + 1 < 2 ^ 64
  few_times k before e after is =
      let few : many k before ≤ length (keys_of captured before) =
      count_by-le-length (λ o. same_key o k) (keys_of captured before) in
      let l = length-map before key in
      let whole : length exchanges ≡ length before + length (e ∷ after) =
      ap length is ∙ length-append before (e ∷ after) in
      let f = can.few in omega (arith, few, l, whole, f)

  -- how many of all have the key of one of them
  many_of_all : (k : KeyParts) (before : List Exchange) (e : Exchange) (after : List Exchange)
      → exchanges ≡ before ++ e ∷ after → key e ≡ k
      → times same_key k keys ≡ many k before + 1 + many k after
  many_of_all k before e after is same =
      let split : keys ≡ keys_of captured before ++ keys_of captured (e ∷ after) =
      ap (keys_of captured) is ∙ map-append key before (e ∷ after) in
      let both = ap (times same_key k) split
      ∙ times_append same_key equal_key itself_key k (keys_of captured before) (keys_of captured (e ∷ after)) in
      let here : times same_key k (key e ∷ keys_of captured after) ≡ 1 + many k after =
      subst (λ j. times same_key k (j ∷ keys_of captured after) ≡ 1 + many k after) (sym same)
      (times_same same_key equal_key itself_key k (keys_of captured after)) in
      omega (arith, both, here)

  -- ---- between two of the requests

  -- some were served, and others not yet: each scenario is where the next of its requests wants it
  pub record IsBetween (all : List Placed) (done left : List Exchange) (past : Past) : Type 0 where
    pub whole : exchanges ≡ done ++ left
    pub same_live : live past ≡ all
    pub states : (x : Exchange) → IsItem left x → (g : ℕ) → group_of same_key keys (key x) ≡ Some g
        → state past (scenario_name number g) ≡ state_name (many (key x) done + 1)
    pub room : last_number past + length left ≤ NUMBER_LIMIT

  module _ (all : List Placed)
      (live_ones : (spec : MappingSpec) → Any (λ p. p.mapping.spec ≡ spec) all ↔ Contains recorded spec)
      (done : List Exchange) (e : Exchange) (left : List Exchange) (past : Past)
      (now : IsBetween all done (e ∷ left) past) where
    here : IsItem exchanges e
    here = subst (λ es. IsItem es e) (sym now.whole) (item_between done e left)

    -- its own mapping is live and ready
    own_eligible : IsEligible (state past) e.request (record { id = []; spec = own done e })
    own_eligible = record {
      meets = meets_itself captured e (kept e here) (lower e here);
      ready = ready_where (state past) number (many (key e) done + 1) (times same_key (key e) keys)
          (group_of same_key keys (key e)) (λ g is. now.states e (inl refl) g is);
    }

    own_live : Any (λ (p : Placed). p.mapping.spec ≡ own done e) all
    own_live = (live_ones (own done e)).1
        (contains_item recorded (own done e) (own_mapping captured number exchanges can.kept done e left now.whole))

    never_missed : ¬ (IsMissed (state past) (live past) e.request)
    never_missed missed =
        let (k, p, lt, at, is) =
        subst (λ ps. Any (λ (p : Placed). p.mapping.spec ≡ own done e) ps) (sym now.same_live) own_live in
        missed p (k, lt, at) (record {
          meets = subst (λ s. MeetsRequest s.request e.request) (sym is) own_eligible.meets;
          ready = subst (λ s. IsReady (state past) s.scenario) (sym is) own_eligible.ready;
        })

    -- a mapping of the same group that is ready is the same one
    same_one : (before : List Exchange) (x : Exchange) (after : List Exchange) (group : Option ℕ)
        → exchanges ≡ before ++ x ∷ after → key x ≡ key e → group_of same_key keys (key x) ≡ group
        → IsReady (state past) (own before x).scenario → (before ≡ done) × (x ≡ e)
    same_one before x after None whole same none ready =
        let once = once_at_most same_key equal_key itself_key keys (key x) none in
        let first = many_of_all (key x) before x after whole refl in
        let second = many_of_all (key x) done e left now.whole (sym same) in
        let as_often : many (key e) before ≡ many (key e) done =
        subst (λ k. many k before ≡ many k done) same (omega (arith, once, first, second)) in
        same_split same_key equal_key itself_key key before done x e after left (sym whole ∙ now.whole) same as_often
    same_one before x after (Some g) whole same is ready =
        let its : state past (scenario_name number g) ≡ state_name (many (key x) before + 1) =
        where_ready (state past) number (many (key x) before + 1) (times same_key (key x) keys)
        (group_of same_key keys (key x)) g is ready in
        let mine : state past (scenario_name number g) ≡ state_name (many (key e) done + 1) =
        now.states e (inl refl) g (sym (ap (group_of same_key keys) same) ∙ is) in
        let equal : many (key x) before + 1 ≡ many (key e) done + 1 =
        same_state (many (key x) before + 1) (many (key e) done + 1) (omega arith) (omega arith)
        (few_times (key x) before x after whole) (few_times (key e) done e left now.whole) (sym its ∙ mine) in
        let as_often : many (key e) before ≡ many (key e) done =
        let moved : many (key x) before ≡ many (key e) before = ap (λ k. many k before) same in
        omega (arith, equal, moved) in
        same_split same_key equal_key itself_key key before done x e after left (sym whole ∙ now.whole) same as_often

    own_chosen : (spec : MappingSpec) → Any (λ (p : Placed). p.mapping.spec ≡ spec) all
        → MeetsRequest spec.request e.request → IsReady (state past) spec.scenario → spec ≡ own done e
    own_chosen spec is_live meets ready =
        let (before, x, after, whole, is) = mapping_is_one captured number exchanges can.kept spec
        (item_of recorded spec ((live_ones spec).0 is_live)) in
        let item : IsItem exchanges x = subst (λ es. IsItem es x) (sym whole) (item_between before x after) in
        let same = one_key x e item here (subst (λ s. MeetsRequest s.request e.request) is meets) in
        let both = same_one before x after (group_of same_key keys (key x)) whole same refl
        (subst (λ s. IsReady (state past) s.scenario) is ready) in
        is ∙ ap₂ own both.0 both.1

    -- what is chosen is the mapping of this very exchange
    pub chosen : (answer : ServeAnswer) → IsChoice past e.request answer
        → (c : Captured) × (answer ≡ Stub c) × (c.mapping.spec ≡ own done e)
    chosen (Stub c) choice =
        let (k, lt, at) = choice.is_live in (
          c,
          refl,
          own_chosen c.mapping.spec
              (subst (λ ps. Any (λ (p : Placed). p.mapping.spec ≡ c.mapping.spec) ps) now.same_live
              (k, choice.placed, lt, at, ap (λ m. m.spec) choice.same))
              choice.eligible.meets choice.eligible.ready,
        )
    chosen (Proxy target) choice = absurd (never_missed choice.0)
    chosen Unmatched choice = absurd (never_missed choice.0)

    -- ---- after it

    module _ (c : Captured) (is : c.mapping.spec ≡ own done e) where
      abbrev pub served : Event
      served = event.Serve e.request (Stub c)

      abbrev position : ℕ
      position = many (key e) done + 1

      abbrev size : ℕ
      size = times same_key (key e) keys

      next_of : (group : Option ℕ) → group_of same_key keys (key e) ≡ group → (name : List ℕ)
          → state (with_event past served) name
          ≡ unwrap_or (next_state (part (state past) number position size group) name) (state past name)
      next_of group which name =
          state_after past served name
          ∙ ap (λ s. unwrap_or (next_state s.scenario name) (state past name)) is
          ∙ ap (λ o. unwrap_or (next_state (part (state past) number position size o) name) (state past name)) which

      more_done : (k : KeyParts) → many k (done ++ e ∷ []) ≡ many k done + times same_key k (key e ∷ [])
      more_done k =
          ap (times same_key k) (map-append key done (e ∷ []))
          ∙ times_append same_key equal_key itself_key k (keys_of captured done) (key e ∷ [])

      -- the next of the same group
      moved_on : (x : Exchange) → IsItem left x → (g : ℕ) → group_of same_key keys (key x) ≡ Some g
          → key e ≡ key x
          → state (with_event past served) (scenario_name number g)
          ≡ state_name (many (key x) (done ++ e ∷ []) + 1)
      moved_on x item g which same =
          let name = scenario_name number g in
          let mine : group_of same_key keys (key e) ≡ Some g = ap (group_of same_key keys) same ∙ which in
          let (before, after, whole) = item_split left x item in
          let all_of = many_of_all (key e) done e left now.whole refl in
          let later : 1 ≤ many (key e) left =
          subst (λ es. 1 ≤ many (key e) es) (sym whole)
          (subst (λ ks. 1 ≤ times same_key (key e) ks) (sym (map-append key before (x ∷ after)))
          (subst (λ k. 1 ≤ times same_key (key e) (keys_of captured before ++ k ∷ keys_of captured after)) same
          (times_item same_key equal_key itself_key (key e) (keys_of captured before) (keys_of captured after)))) in
          let below : position < size = omega (arith, all_of, later) in
          let same_name : bytes_eq name name ≡ true = (bytes_eq-Decides name name).1 refl in
          let once_more : many (key x) (done ++ e ∷ []) ≡ position =
          let m = more_done (key x) in
          let one : times same_key (key x) (key e ∷ []) ≡ 1 + times same_key (key x) [] =
          subst (λ k. times same_key (key x) (k ∷ []) ≡ 1 + times same_key (key x) []) (sym same)
          (times_same same_key equal_key itself_key (key x) []) in
          let moved : many (key x) done ≡ many (key e) done = ap (λ k. many k done) (sym same) in
          omega (arith, m, one, moved) in
          next_of (Some g) mine name
          ∙ ap (λ b. unwrap_or (cond b (if nat_lt position size then Some (decimal (position + 1)) else None) None)
          (state past name)) same_name
          ∙ ap (λ b. unwrap_or (if b then Some (decimal (position + 1)) else None) (state past name))
          (lt-ltb position size below)
          ∙ sym (number_at (position + 1) (omega arith))
          ∙ ap (λ n. state_name (n + 1)) (sym once_more)

      -- a scenario of another group
      stays_there : (x : Exchange) → IsItem left x → (g : ℕ) (group : Option ℕ)
          → group_of same_key keys (key x) ≡ Some g
          → group_of same_key keys (key e) ≡ group → same_key (key e) (key x) ≡ false
          → state (with_event past served) (scenario_name number g) ≡ state past (scenario_name number g)
      stays_there x item g None which none other = next_of None none (scenario_name number g)
      stays_there x item g (Some h) which mine other =
          let differ : bytes_eq (scenario_name number h) (scenario_name number g) ≡ false =
          false_from_ne_true (bytes_eq (scenario_name number h) (scenario_name number g)) (λ t.
          let same_name = (bytes_eq-Decides (scenario_name number h) (scenario_name number g)).0 t in
          let equal = same_scenario number h g (small_group (key e) h mine) (small_group (key x) g which) same_name in
          let one = equal_in_group same_key equal_key itself_key keys (key e) (key x) g
          (mine ∙ ap (λ n. Some n) equal) which in
          true_is_no (same_key (key e) (key x))
          (subst (λ k. same_key (key e) k ≡ true) one (itself_key (key e))) other) in
          next_of (Some h) mine (scenario_name number g)
          ∙ ap (λ b. unwrap_or (cond b (if nat_lt position size then Some (decimal (position + 1)) else None) None)
          (state past (scenario_name number g))) differ

      states_after : (x : Exchange) → IsItem left x → (g : ℕ) → group_of same_key keys (key x) ≡ Some g
          → state (with_event past served) (scenario_name number g)
          ≡ state_name (many (key x) (done ++ e ∷ []) + 1)
      states_after x item g which = elim (cases_Bool (same_key (key e) (key x))) [
        | inl hit ↦ moved_on x item g which (equal_key (key e) (key x) hit)
        | inr miss ↦
            let as_often : many (key x) (done ++ e ∷ []) ≡ many (key x) done =
            let m = more_done (key x) in
            let none = times_other same_key equal_key itself_key (key x) (key e) [] miss in omega (arith, m, none) in
            stays_there x item g (group_of same_key keys (key e)) which refl miss
            ∙ now.states x (inr item) g which ∙ ap (λ n. state_name (n + 1)) (sym as_often)
      ]

      pub after_one : IsBetween all (done ++ e ∷ []) left (with_event past served)
      after_one = record {
        whole = now.whole ∙ sym (one_further done e left);
        same_live = live_served past e.request (Stub c) ∙ now.same_live;
        states = states_after;
        room = let n = number_after past served in let r = now.room in omega (arith, n, r);
      }

  -- ---- before the first

  pub at_first : (past : Past) → HasRecorded captured number exchanges past
      → IsBetween (live past) [] exchanges past
  at_first past has = record {
    whole = refl;
    same_live = refl;
    states = λ x item g which.
        let (before, after, whole) = item_split exchanges x item in
        let its = all_item (λ spec. IfSome spec.scenario (λ s. state past s.name ≡ started)) recorded (own before x)
        has.all_started (own_mapping captured number exchanges can.kept before x after whole) in
        let begun : state past (scenario_name number g) ≡ started =
        subst (λ (o : Option ℕ).
        IfSome (part (state past) number (many (key x) before + 1) (times same_key (key x) keys) o)
        (λ s. state past s.name ≡ started)) which its in
        begun ∙ sym (started_at (many (key x) [] + 1) (omega arith));
    room = has.room;
  }
