-- Outside of the loops of well-formed code no bound and no cost depends on an item.
use Rattle.std.proofs.Common.{◌≡◌, ℕ, zero, suc, ◌≤◌, Bool, true, false, true≢false, List, [], ◌∷◌, ◌++◌, length, take}
use Rattle.std.proofs.Common.{drop, Option, Some, None, refl, sym, ap, ◌∙◌, subst, ⊎_elim, arith, length-append}
use Rattle.std.specs.Prelude.{slice_get, not}
use Rattle.std.specs.Option.{option_map_or}
use Rattle.std.proofs.lemmas.Option.{slice_get_cases}
use Rattle.code_rules.specs.Inner.Course as course
use Rattle.code_rules.proofs.Courses.Nests.{opened-from, opener-before}
use Rattle.helper_set.specs.Helpers.{argument_kinds, result_kind, signature_of}
use Rattle.helper_set.specs.declared.kind.Kind.{Kind}
use Rattle.helper_set.specs.declared.signature.Growth.{Growth}
use Rattle.template_code.specs.Code.{StackCode}
use Rattle.template_code.specs.Instructions.{flow, loop_named, pops, pushes, slots_kept, slots_after}
use Rattle.template_code.specs.Instructions.{requires_empty_stack}
use Rattle.template_code.specs.declared.flow.Flow.{Flow}
use Rattle.template_code.specs.declared.instr.Instr.{Instr}
use Rattle.template_code.specs.declared.instr.Instr.TheVariants.{Emit, Root, Item, Index, Key, First, Last, Text}
use Rattle.template_code.specs.declared.instr.Instr.TheVariants.{Number, Truth, Show, Test, Call, Escape, Print, Jump}
use Rattle.template_code.specs.declared.instr.Instr.TheVariants.{Branch, Each, Next, Halt}
use Rattle.code_rules.specs.Polynomial.{times}
use Rattle.code_rules.specs.Bounds.{Bound, plus_bound, times_bound, sum_of, at_most, of_turns}
use Rattle.code_rules.specs.Costs.{is_empty, top, bound_by, pushed_bounds, bounds_after, bounds_at, written_bound}
use Rattle.code_rules.specs.Costs.{goes_over_part, Cost, no_cost, cost_of_turns, cost, cost_at}
use Rattle.code_rules.specs.Table.{TableEntry, nest_after, IsTable, entry_at}
use Rattle.code_rules.specs.Rules.{lacks_loop}
use Rattle.code_rules.specs.Regions.{share, region}
use Rattle.code_rules.specs.Verdict.{IsWellFormed}
use Rattle.code_rules.proofs.TableFacts.{IsTable-entry_at, entry-same}
use Rattle.code_rules.proofs.FormFacts.{formed-keeps, formed-empty_rest}
use Rattle.code_rules.proofs.RegionFacts.{bounds_at-next}
use Rattle.code_rules.proofs.NestFacts.{course_of, same-nests}

abbrev Flat : Bound → Type 0
Flat b = b.per ≡ []

abbrev AllFlat : List Bound → Type 0
AllFlat [] = Unit {0}
AllFlat (b ∷ bs) = Flat b × AllFlat bs

flat-plus : (b c : Bound) → Flat b → Flat c → Flat (plus_bound b c)
flat-plus b c h k = rw (h, k) refl

times-nothing : (k : ℕ) → times k [] ≡ []
times-nothing zero = refl
times-nothing (suc k) = times-nothing k

flat-times : (k : ℕ) (b : Bound) → Flat b → Flat (times_bound k b)
flat-times k b h = ap (times k) h ∙ times-nothing k

flat-below : (n : ℕ) (bounds : List Bound) → AllFlat bounds → AllFlat (drop n bounds)
flat-below zero bounds h = h
flat-below (suc n) [] h = tt
flat-below (suc n) (b ∷ bs) h = flat-below n bs h.1

flat-first : (n : ℕ) (bounds : List Bound) → AllFlat bounds → AllFlat (take n bounds)
flat-first zero bounds h = tt
flat-first (suc n) [] h = tt
flat-first (suc n) (b ∷ bs) h = (h.0, flat-first n bs h.1)

flat-sum_of : (bounds : List Bound) → AllFlat bounds → Flat (sum_of bounds)
flat-sum_of [] h = refl
flat-sum_of (b ∷ bs) h = flat-plus b (sum_of bs) h.0 (flat-sum_of bs h.1)

flat-top : (bounds : List Bound) → AllFlat bounds → Flat (top bounds)
flat-top [] h = refl
flat-top (b ∷ bs) h = h.0

flat-grown : (g : Growth) (bounds : List Bound) → AllFlat bounds →
    Flat (plus_bound (times_bound g.times (sum_of bounds)) (at_most g.plus))
flat-grown g bounds h =
    flat-plus (times_bound g.times (sum_of bounds)) (at_most g.plus)
    (flat-times g.times (sum_of bounds) (flat-sum_of bounds h)) refl

flat-bound_by : (kind : Kind) (g : Growth) (bounds : List Bound) → AllFlat bounds → Flat (bound_by kind g bounds)
flat-bound_by Kind.Data g bounds h = refl
flat-bound_by Kind.Text g bounds h = flat-grown g bounds h
flat-bound_by Kind.Number g bounds h = flat-grown g bounds h
flat-bound_by Kind.Truth g bounds h = flat-grown g bounds h

-- outside of loops no instruction reads an item
flat-after : (code : StackCode) (i : Instr) (bounds : List Bound) → lacks_loop (loop_named i) 0 ≡ false →
    AllFlat bounds → AllFlat (bounds_after code i bounds)
flat-after code (Emit t) bounds out h = h
flat-after code (Root p) bounds out h = (refl, h)
flat-after code (Item zero p) bounds out h = absurd (true≢false out)
flat-after code (Item (suc k) p) bounds out h = (refl, h)
flat-after code (Index k) bounds out h = (refl, h)
flat-after code (Key k) bounds out h = (refl, h)
flat-after code (First k) bounds out h = (refl, h)
flat-after code (Last k) bounds out h = (refl, h)
flat-after code (Text t) bounds out h = (refl, h)
flat-after code (Number n) bounds out h = (refl, h)
flat-after code (Truth b) bounds out h = (refl, h)
flat-after code Show bounds out h = (flat-top bounds h, flat-below 1 bounds h)
flat-after code Test bounds out h = (refl, flat-below 1 bounds h)
flat-after code (Call f) bounds out h = (
  flat-bound_by (result_kind f) (signature_of f).growth (take (length (argument_kinds f)) bounds)
      (flat-first (length (argument_kinds f)) bounds h),
  flat-below (length (pops (Call f))) bounds h,
)
flat-after code Escape bounds out h = (flat-times 6 (top bounds) (flat-top bounds h), flat-below 1 bounds h)
flat-after code Print bounds out h = flat-below 1 bounds h
flat-after code (Jump a) bounds out h = tt
flat-after code (Branch a) bounds out h = flat-below 1 bounds h
flat-after code (Each a) bounds out h = flat-below 1 bounds h
flat-after code (Next a) bounds out h = h
flat-after code Halt bounds out h = tt

-- each slot has a bound

length-pushed : (code : StackCode) (i : Instr) (bounds : List Bound) →
    length (pushed_bounds code i bounds) ≡ length (pushes i)
length-pushed code (Item zero p) bounds = refl
length-pushed code (Item (suc k) p) bounds = refl
length-pushed code i bounds = refl

length-drop-same : {A B : Type 0} (n : ℕ) (xs : List A) (ys : List B) → length xs ≡ length ys →
    length (drop n xs) ≡ length (drop n ys)
length-drop-same zero xs ys e = e
length-drop-same (suc n) [] [] e = refl
length-drop-same (suc n) [] (y ∷ ys) e = absurd (omega (arith, e))
length-drop-same (suc n) (x ∷ xs) [] e = absurd (omega (arith, e))
length-drop-same (suc n) (x ∷ xs) (y ∷ ys) e = length-drop-same n xs ys (omega (arith, e))

length-by : {A B : Type 0} (w : Flow) (xs : List A) (ys : List B) → length xs ≡ length ys →
    length (slots_kept w xs) ≡ length (slots_kept w ys)
length-by Flow.Straight xs ys e = e
length-by (Flow.Jump a) xs ys e = refl
length-by (Flow.Branch a) xs ys e = e
length-by (Flow.Open a) xs ys e = e
length-by (Flow.Close a) xs ys e = e
length-by Flow.End xs ys e = refl

length-slots_after : (code : StackCode) (i : Instr) (bounds : List Bound) (kinds : List Kind) →
    length bounds ≡ length kinds → length (bounds_after code i bounds) ≡ length (slots_after i (pushes i) kinds)
length-slots_after code i bounds kinds e =
    let n = length (pops i) in
    length-by (flow i) (pushed_bounds code i bounds ++ drop n bounds) (pushes i ++ drop n kinds)
    (length-append (pushed_bounds code i bounds) (drop n bounds)
    ∙ (rw (length-pushed code i bounds, length-drop-same n bounds kinds e)
    (sym (length-append (pushes i) (drop n kinds)))))

pub length-bounds_at : (code : StackCode) (table : ℕ → TableEntry) (index : ℕ) → IsTable code table →
    index ≤ length code.instrs → length (bounds_at code index) ≡ length (table index).kinds
length-bounds_at code table zero t le = ap (λ (e : TableEntry). length e.kinds) (sym t.start)
length-bounds_at code table (suc index) t le =
    ⊎_elim
    (λ w.
    ap length (bounds_at-next code index w.0 w.2)
    ∙ (length-slots_after code w.0 (bounds_at code index) (table index).kinds
    (length-bounds_at code table index t (omega (arith, le)))
    ∙ ap (λ (e : TableEntry). length e.kinds) (sym (t.next index w.0 w.2))))
    (λ w. absurd (omega (arith, le, w.0)))
    ((slice_get_cases code.instrs index).1)

no_bounds : (bounds : List Bound) → length bounds ≡ 0 → AllFlat bounds
no_bounds [] e = tt
no_bounds (b ∷ bs) e = absurd (omega (arith, e))

-- at `Next` there is no slot
closes-empty : (i : Instr) (a : ℕ) (kinds : List Kind) → flow i ≡ Flow.Close a →
    drop (length (pops i)) kinds ≡ [] → slots_after i (pushes i) kinds ≡ []
closes-empty (Next b) a kinds f h = h
closes-empty (Jump b) a kinds f h = refl
closes-empty (Branch b) a kinds f h = h
closes-empty (Each b) a kinds f h = h
closes-empty Halt a kinds f h = refl
closes-empty i a kinds f h = absurd (true≢false (ap is_close (sym f)))
  where
    is_close : Flow → Bool
    is_close (Flow.Close a) = true
    is_close f = false

module _ (code : StackCode) (well : IsWellFormed code) where
  flat-next : (index : ℕ) (i : Instr) (f : Flow) → slice_get code.instrs index ≡ Some i → flow i ≡ f →
      nest_after f index (well.table index).nest ≡ [] →
      ((well.table index).nest ≡ [] → AllFlat (bounds_at code index)) →
      index ≤ length code.instrs → AllFlat (bounds_after code i (bounds_at code index))
  flat-next index i (Flow.Open a) is f out earlier le = absurd (omega (arith, ap length out))
  flat-next index i (Flow.Close a) is f out earlier le =
      let rest = formed-empty_rest code well index i is (ap requires_empty_stack f) in
      let none = closes-empty i a (well.table index).kinds f rest in
      let same = length-slots_after code i (bounds_at code index) (well.table index).kinds
      (length-bounds_at code well.table index well.follows le) in
      no_bounds (bounds_after code i (bounds_at code index)) (same ∙ ap length none)
  flat-next index i g is f out earlier le =
      flat-after code i (bounds_at code index)
      (sym (ap (λ (ns : List ℕ). lacks_loop (loop_named i) (length ns)) out)
      ∙ (formed-keeps code well index i is).open_loop)
      (earlier out)

  flat-at : (index : ℕ) → index ≤ length code.instrs → (well.table index).nest ≡ []
      → AllFlat (bounds_at code index)
  flat-at zero le out = tt
  flat-at (suc index) le out =
      ⊎_elim
      (λ w.
      subst (λ bounds. AllFlat bounds) (sym (bounds_at-next code index w.0 w.2))
      (flat-next index w.0 (flow w.0) w.2 refl
      (sym (ap (λ (e : TableEntry). e.nest) (well.follows.next index w.0 w.2)) ∙ out)
      (λ k. flat-at index (omega (arith, le)) k) (omega (arith, le))))
      (λ w. absurd (omega (arith, le, w.0)))
      ((slice_get_cases code.instrs index).1)

  -- the code's nests as those of a course
  abbrev shape : course.Course
  shape = course_of code 0 (λ index. course.nothing)

  nest-shape : (index : ℕ) → course.nest shape index ≡ (entry_at code index).nest
  nest-shape index = same-nests code 0 (λ i. course.nothing) index

  flat-bounds : (index : ℕ) → index ≤ length code.instrs → (entry_at code index).nest ≡ [] →
      AllFlat (bounds_at code index)
  flat-bounds index le out =
      flat-at index le
      (ap (λ (e : TableEntry). e.nest)
      (entry-same code well.table (entry_at code) well.follows (IsTable-entry_at code) index le)
      ∙ out)

  -- the outermost of these loops goes over no part of an item
  abbrev Whole : List ℕ → Type 0
  Whole [] = Unit {0}
  Whole (o ∷ []) = goes_over_part code o ≡ false
  Whole (o ∷ p ∷ ns) = Whole (p ∷ ns)

  whole : (index : ℕ) (ns : List ℕ) → index ≤ length code.instrs
      → (entry_at code index).nest ≡ ns → Whole ns
  whole index [] le at = tt
  whole index (o ∷ []) le at =
      let here = nest-shape index ∙ at in
      let before = opener-before shape index o [] here in
      let out = sym (nest-shape o) ∙ opened-from shape index o [] here in
      ap (λ ps. not (is_empty ps))
      (flat-top (bounds_at code o) (flat-bounds o (omega (arith, before, le)) out))
  whole index (o ∷ p ∷ ns) le at =
      let here = nest-shape index ∙ at in
      let before = opener-before shape index o (p ∷ ns) here in
      whole o (p ∷ ns) (omega (arith, before, le)) (sym (nest-shape o) ∙ opened-from shape index o (p ∷ ns) here)

  abbrev FlatCost : Cost → Type 0
  FlatCost c = Flat c.steps × Flat c.bytes

  flat-turned : (o : ℕ) (ns : List ℕ) (c : Cost) → Whole (o ∷ ns) → FlatCost (share code [] (o ∷ ns) c)
  flat-turned o [] c h =
      (ap (λ b. (of_turns b c.steps).per) h, ap (λ b. (of_turns b c.bytes).per) h)
  flat-turned o (p ∷ ns) c h = flat-turned p ns (cost_of_turns (goes_over_part code o) c) h

  flat-share : (ns : List ℕ) (c : Cost) → (ns ≡ [] → FlatCost c) → Whole ns → FlatCost (share code [] ns c)
  flat-share [] c h w = h refl
  flat-share (o ∷ ns) c h w = flat-turned o ns c w

  flat-written : (i : Instr) (bounds : List Bound) → AllFlat bounds → Flat (written_bound code i bounds)
  flat-written (Emit t) bounds h = refl
  flat-written Print bounds h = flat-top bounds h
  flat-written i bounds h = refl

  flat-cost : (bounds : List Bound) (o : Option Instr) → AllFlat bounds →
      FlatCost (option_map_or (λ i. cost code i bounds) o no_cost)
  flat-cost bounds None h = (refl, refl)
  flat-cost bounds (Some i) h = (refl, flat-written i bounds h)

  flat-region : (n : ℕ) → n ≤ length code.instrs → FlatCost (region code (entry_at code) [] n)
  flat-region zero le = (refl, refl)
  flat-region (suc n) le =
      let before = region code (entry_at code) [] n in
      let ns = (entry_at code n).nest in
      let own = share code [] ns (cost_at code n) in
      let h = flat-region n (omega (arith, le)) in
      let k = flat-share ns (cost_at code n)
      (λ out. flat-cost (bounds_at code n) (slice_get code.instrs n) (flat-bounds n (omega (arith, le)) out))
      (whole n ns (omega (arith, le)) refl) in
      (flat-plus before.steps own.steps h.0 k.0, flat-plus before.bytes own.bytes h.1 k.1)

pub whole-flat : (code : StackCode) → IsWellFormed code →
    ((region code (entry_at code) [] (length code.instrs)).steps.per ≡ [])
    × ((region code (entry_at code) [] (length code.instrs)).bytes.per ≡ [])
whole-flat code well = flat-region code well (length code.instrs) (omega arith)
