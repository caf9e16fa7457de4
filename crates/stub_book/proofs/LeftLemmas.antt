-- What single events leave of the live mappings.
use Rattle.std.proofs.Common.{◌≡◌, ◌≤◌, ◌<◌, ◌+◌, ◌-◌, ◌↔◌, ℕ, zero, suc, Bool, true, false, not, ◌||◌, cond}
use Rattle.std.proofs.Common.{List, [], ◌∷◌, length, get_or, map, refl, sym, ap, ◌∙◌, arith, length-append}
use Rattle.std.specs.List.{Any, Contains, filter}
use Rattle.std.specs.List.Sorted.{IsPermutation}
use Rattle.std.specs.Str.{bytes_eq}
use Rattle.std.proofs.lemmas.Bool.{false_from_ne_true}
use Rattle.std.proofs.lemmas.List.Elements.{filter_agree}
use Rattle.std.proofs.lemmas.List.Sorted.{Contains-permutation}
use Rattle.std.proofs.lemmas.Slice.Eq.{bytes_eq-Decides}
use Rattle.request_journal.specs.Live.{live, adds, left_by, edited, removes, is_removed}
use Rattle.request_journal.specs.Past.{Past, Placed, has_id, placed_from, with_event, last_number}
use Rattle.request_journal.specs.declared.event.Event.{Event}
use Rattle.request_journal.specs.declared.event.Event.TheVariants as event
use Rattle.request_journal.specs.declared.mapping.Mapping.{Mapping}
use Rattle.request_journal.proofs.LiveLemmas.{live_after, gone, kept}
use Rattle.stub_book.specs.Growth.{named_by, repeated, replaced}
use Rattle.stub_book.specs.Inner.Counted.{fewer}

-- a fact that holds of some element holds of some element of the list in another order
pub Any-permutation : {X : Type 0} (P : X → Type 0) (xs ys : List X) → IsPermutation xs ys → Any P xs → Any P ys
Any-permutation P xs ys same a =
    let there : Contains ys a.1 = Contains-permutation xs ys a.1 same (a.0, a.2, a.3) in
    (there.0, a.1, there.1, there.2, a.4)

-- an event that removes and edits nothing leaves all mappings as they are
pub left_all :
    (event : Event) → ((id : List ℕ) → removes event id ≡ false)
    → ((placed : Placed) → edited (event ∷ []) placed ≡ placed)
    → (placed : List Placed) → left_by (event ∷ []) placed ≡ placed
left_all event keeps same [] = refl
left_all event keeps same (p ∷ ps) =
    kept (event ∷ []) p ps (ap (λ b. b || false) (keeps p.mapping.id))
    ∙ (λ i. same p i ∷ left_all event keeps same ps i)

-- an event that removes every id leaves none
pub left_none :
    (event : Event) → ((id : List ℕ) → removes event id ≡ true)
    → (placed : List Placed) → left_by (event ∷ []) placed ≡ []
left_none event takes [] = refl
left_none event takes (p ∷ ps) =
    gone (event ∷ []) p ps (ap (λ b. b || false) (takes p.mapping.id)) ∙ left_none event takes ps

-- what an event leaves is no more than there was
pub left_few : (event : Event) (placed : List Placed) → length (left_by (event ∷ []) placed) ≤ length placed
left_few event [] = omega arith
left_few event (p ∷ ps) =
    let rest : List Placed = filter (λ q. not (is_removed (event ∷ []) q.mapping.id)) ps in
    let few : length (left_by (event ∷ []) ps) ≤ length ps = left_few event ps in
    elim (is_removed (event ∷ []) p.mapping.id)
    as (λ b. length (map (edited (event ∷ [])) (cond (not b) (p ∷ rest) rest)) ≤ length (p ∷ ps)) [
      | true ↦ omega (arith, few)
      | false ↦ omega (arith, few)
    ]

-- an add of an id that is held leaves fewer
less_at :
    (m : Mapping) (placed : List Placed) (k : ℕ) (x : Placed) → k < length placed → get_or placed k x ≡ x
    → x.mapping.id ≡ m.id → length (left_by (event.Add m ∷ []) placed) < length placed
less_at m [] k x lt read is = absurd (omega arith)
less_at m (p ∷ ps) zero x lt read is =
    let same : bytes_eq m.id p.mapping.id ≡ true =
    (bytes_eq-Decides m.id p.mapping.id).1 (sym is ∙ ap (λ (q : Placed). q.mapping.id) (sym read)) in
    let less : length (left_by (event.Add m ∷ []) (p ∷ ps)) ≡ length (left_by (event.Add m ∷ []) ps) =
    ap length (gone (event.Add m ∷ []) p ps (ap (λ b. b || false) same)) in
    let few : length (left_by (event.Add m ∷ []) ps) ≤ length ps = left_few (event.Add m) ps in
    omega (arith, less, few)
less_at m (p ∷ ps) (suc k) x lt read is =
    let rest : List Placed = filter (λ q. not (is_removed (event.Add m ∷ []) q.mapping.id)) ps in
    let few : length (left_by (event.Add m ∷ []) ps) < length ps = less_at m ps k x (omega arith) read is in
    elim (is_removed (event.Add m ∷ []) p.mapping.id)
    as (λ b. length (map (edited (event.Add m ∷ [])) (cond (not b) (p ∷ rest) rest)) < length (p ∷ ps)) [
      | true ↦ omega (arith, few)
      | false ↦ omega (arith, few)
    ]

-- an add of another id leaves as many
same_many :
    (m : Mapping) (placed : List Placed) → ¬ (Any (λ p. p.mapping.id ≡ m.id) placed)
    → length (left_by (event.Add m ∷ []) placed) ≡ length placed
same_many m [] none = refl
same_many m (p ∷ ps) none =
    let differ : bytes_eq m.id p.mapping.id ≡ false =
    false_from_ne_true (bytes_eq m.id p.mapping.id)
    (λ e. none (0, p, omega arith, refl, sym ((bytes_eq-Decides m.id p.mapping.id).0 e))) in
    ap length (kept (event.Add m ∷ []) p ps (ap (λ b. b || false) differ))
    ∙ ap suc (same_many m ps (λ a. none (suc a.0, a.1, omega (arith, a.2), a.3, a.4)))

-- how many mappings are live after an add
pub length-added :
    (past : Past) (m : Mapping)
    → length (live (with_event past (event.Add m))) ≡ length (left_by (event.Add m ∷ []) (live past)) + 1
length-added past m =
    ap length (live_after past (event.Add m))
    ∙ length-append (left_by (event.Add m ∷ []) (live past))
    (adds past.defaults (last_number past + 1) (event.Add m))

pub held_few :
    (past : Past) (m : Mapping) → Any (λ p. p.mapping.id ≡ m.id) (live past)
    → length (live (with_event past (event.Add m))) ≤ length (live past)
held_few past m a =
    let less : length (left_by (event.Add m ∷ []) (live past)) < length (live past) =
    less_at m (live past) a.0 a.1 a.2 a.3 a.4 in
    omega (arith, length-added past m, less)

pub other_few : (past : Past) (m : Mapping) → length (live (with_event past (event.Add m))) ≤ length (live past) + 1
other_few past m =
    let few : length (left_by (event.Add m ∷ []) (live past)) ≤ length (live past) =
    left_few (event.Add m) (live past) in
    omega (arith, length-added past m, few)

pub other_more :
    (past : Past) (m : Mapping) → ¬ (Any (λ p. p.mapping.id ≡ m.id) (live past))
    → length (live (with_event past (event.Add m))) ≡ length (live past) + 1
other_more past m none = length-added past m ∙ ap (λ n. n + 1) (same_many m (live past) none)

-- where an add leaves fewer, one of them has the id
some_at :
    (m : Mapping) (p : Placed) (ps : List Placed) (b : Bool)
    → (length (left_by (event.Add m ∷ []) ps) < length ps → Any (λ q. q.mapping.id ≡ m.id) ps)
    → bytes_eq m.id p.mapping.id ≡ b
    → length (left_by (event.Add m ∷ []) (p ∷ ps)) < length (p ∷ ps) → Any (λ q. q.mapping.id ≡ m.id) (p ∷ ps)
some_at m p ps true later same less = (0, p, omega arith, refl, sym ((bytes_eq-Decides m.id p.mapping.id).0 same))
some_at m p ps false later same less =
    let stays : length (left_by (event.Add m ∷ []) (p ∷ ps)) ≡ suc (length (left_by (event.Add m ∷ []) ps)) =
    ap length (kept (event.Add m ∷ []) p ps (ap (λ b. b || false) same)) in
    let a = later (omega (arith, stays, less)) in
    (suc a.0, a.1, omega (arith, a.2), a.3, a.4)

less_some :
    (m : Mapping) (placed : List Placed) → length (left_by (event.Add m ∷ []) placed) < length placed
    → Any (λ q. q.mapping.id ≡ m.id) placed
less_some m [] less = absurd (omega (arith, less))
less_some m (p ∷ ps) less = some_at m p ps (bytes_eq m.id p.mapping.id) (less_some m ps) refl less

-- an event takes those that it removes, and leaves the others
left_or_gone :
    (e : Event) (placed : List Placed)
    → length (left_by (e ∷ []) placed) + length (filter (λ p. removes e p.mapping.id) placed) ≡ length placed
left_or_gone e [] = refl
left_or_gone e (p ∷ ps) =
    let rest : List Placed = filter (λ q. not (is_removed (e ∷ []) q.mapping.id)) ps in
    let taken : List Placed = filter (λ q. removes e q.mapping.id) ps in
    let as_many : length (left_by (e ∷ []) ps) + length taken ≡ length ps = left_or_gone e ps in
    elim (removes e p.mapping.id)
    as (λ b. length (map (edited (e ∷ [])) (cond (not (b || false)) (p ∷ rest) rest))
    + length (cond b (p ∷ taken) taken) ≡ length (p ∷ ps)) [
      | true ↦ omega (arith, as_many)
      | false ↦ omega (arith, as_many)
    ]

-- mappings of one event are added but for those that a later one has the id of
placed_or_repeated :
    (number index : ℕ) (mappings : List Mapping)
    → length (placed_from number index mappings) + repeated mappings ≡ length mappings
placed_or_repeated number index [] = refl
placed_or_repeated number index (m ∷ ms) =
    let here : Placed = record { place = record { event = number; index = index }; mapping = m } in
    let more : List Placed = placed_from number (index + 1) ms in
    let as_many : length more + repeated ms ≡ length ms = placed_or_repeated number (index + 1) ms in
    elim (has_id ms m.id)
    as (λ b. length (cond b more (here ∷ more)) + cond b (repeated ms + 1) (repeated ms) ≡ length (m ∷ ms)) [
      | true ↦ omega (arith, as_many)
      | false ↦ omega (arith, as_many)
    ]

-- how many mappings are live after a stop
length-stopped :
    (past : Past) (mappings : List Mapping) (skipped : ℕ)
    → length (live (with_event past (event.StopRecording mappings skipped)))
    ≡ length (left_by (event.StopRecording mappings skipped ∷ []) (live past))
    + length (placed_from (last_number past + 1) 0 mappings)
length-stopped past mappings skipped =
    let e : Event = event.StopRecording mappings skipped in
    ap length (live_after past e)
    ∙ length-append (left_by (e ∷ []) (live past)) (adds past.defaults (last_number past + 1) e)

or_false : (b : Bool) → (b || false) ≡ b
or_false true = refl
or_false false = refl

-- one mapping names those that an add of it removes
one_id : (m : Mapping) (placed : List Placed)
    → named_by (m ∷ []) placed ≡ length (filter (λ p. removes (event.Add m) p.mapping.id) placed)
one_id m placed =
    ap length
    (filter_agree (λ p. has_id (m ∷ []) p.mapping.id) (λ p. removes (event.Add m) p.mapping.id)
    (λ p. or_false (bytes_eq m.id p.mapping.id)) placed)

-- the mappings that are fewer are those that gave way
pub fewer_replaced :
    (past : Past) (added : Event)
    → fewer added (length (live past)) (length (live (with_event past added))) ≡ replaced past added
fewer_replaced past (event.Serve request answer) = refl
fewer_replaced past (event.Add m) =
    let split = left_or_gone (event.Add m) (live past) in
    omega (arith, length-added past m, split, one_id m (live past))
fewer_replaced past (event.Edit id spec) = refl
fewer_replaced past (event.Delete id) = refl
fewer_replaced past event.DeleteAll = refl
fewer_replaced past event.ResetMappings = refl
fewer_replaced past event.ResetAll = refl
fewer_replaced past event.ResetScenarios = refl
fewer_replaced past (event.SetScenario name state) = refl
fewer_replaced past event.ClearJournal = refl
fewer_replaced past (event.StartRecording target captured repeats) = refl
fewer_replaced past (event.Record serve exchange) = refl
fewer_replaced past (event.StopRecording ms skipped) =
    let split = left_or_gone (event.StopRecording ms skipped) (live past) in
    let placed = placed_or_repeated (last_number past + 1) 0 ms in
    omega (arith, length-stopped past ms skipped, split, placed)

-- a mapping gives way exactly where the id is live
pub gives_way :
    (past : Past) (m : Mapping) → (0 < replaced past (event.Add m)) ↔ Any (λ q. q.mapping.id ≡ m.id) (live past)
gives_way past m =
    let split = left_or_gone (event.Add m) (live past) in
    let many = one_id m (live past) in (
      λ (some : 0 < replaced past (event.Add m)). less_some m (live past) (omega (arith, split, many, some)),
      λ a. omega (arith, split, many, less_at m (live past) a.0 a.1 a.2 a.3 a.4),
    )

-- those that are live after a stop and those that gave way are together those before and those that it adds
pub stop_counts :
    (past : Past) (mappings : List Mapping) (skipped : ℕ)
    → length (live (with_event past (event.StopRecording mappings skipped)))
    + replaced past (event.StopRecording mappings skipped)
    ≡ length (live past) + length mappings
stop_counts past mappings skipped =
    let split = left_or_gone (event.StopRecording mappings skipped) (live past) in
    let placed = placed_or_repeated (last_number past + 1) 0 mappings in
    omega (arith, length-stopped past mappings skipped, split, placed)
