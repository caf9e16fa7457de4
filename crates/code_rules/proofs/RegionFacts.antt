-- The cost of regions, as one pass over the instructions adds it up.
use Rattle.std.proofs.Common.{◌≡◌, ℕ, zero, suc, ◌+◌, ◌-◌, ◌<◌, ◌≤◌, Bool, true, false, true≢false, List, [], ◌∷◌, ◌++◌}
use Rattle.std.proofs.Common.{length, take, drop, Some, refl, sym, ap, ◌∙◌, subst, arith}
use Rattle.std.specs.Prelude.{◌||◌, if◌then◌else◌, slice_get}
use Rattle.std.proofs.lemmas.Option.{none-some, same_Some}
use Rattle.code_rules.specs.Inner.Course as course
use Rattle.code_rules.proofs.Courses.Nests.{same-refl, same-true, differ-length, first_or, or-false, inside}
use Rattle.code_rules.proofs.Courses.Nests.{inside-self, inside-length, inside-before, opener-before, below-outside}
use Rattle.template_code.specs.Code.{StackCode}
use Rattle.template_code.specs.declared.instr.Instr.{Instr}
use Rattle.code_rules.specs.Bounds.{Bound}
use Rattle.code_rules.specs.Costs.{bounds_after, bounds_along, bounds_at, goes_over_part, Cost, no_cost, plus_cost}
use Rattle.code_rules.specs.Costs.{cost_of_turns, cost_at}
use Rattle.code_rules.specs.Table.{entry_at}
use Rattle.code_rules.specs.Rules.{same_nest}
use Rattle.code_rules.specs.Regions.{share, region}
use Rattle.code_rules.proofs.CostFacts.{plus_cost-no_cost, plus_cost-assoc, turns-no_cost, turns-plus}
use Rattle.code_rules.proofs.NestFacts.{course_of, same-nests}

bounds_along-append : (code : StackCode) (is js : List Instr) (bounds : List Bound) →
    bounds_along code (is ++ js) bounds ≡ bounds_along code js (bounds_along code is bounds)
bounds_along-append code [] js bounds = refl
bounds_along-append code (i ∷ is) js bounds = bounds_along-append code is js (bounds_after code i bounds)

take-next : (is : List Instr) (index : ℕ) (i : Instr) → slice_get is index ≡ Some i →
    take (suc index) is ≡ take index is ++ (i ∷ [])
take-next [] index i h = absurd (none-some i h)
take-next (j ∷ is) zero i h = ap (λ x. x ∷ []) (same_Some j i h)
take-next (j ∷ is) (suc index) i h = ap (λ rest. j ∷ rest) (take-next is index i h)

pub bounds_at-next : (code : StackCode) (index : ℕ) (i : Instr) → slice_get code.instrs index ≡ Some i →
    bounds_at code (suc index) ≡ bounds_after code i (bounds_at code index)
bounds_at-next code index i h =
    ap (λ is. bounds_along code is []) (take-next code.instrs index i h)
    ∙ bounds_along-append code (take index code.instrs) (i ∷ []) []

share-self : (code : StackCode) (ns : List ℕ) (k : Cost) → share code ns ns k ≡ k
share-self code [] k = refl
share-self code (n ∷ ns) k =
    ap (λ b. if b then k else share code (n ∷ ns) ns (cost_of_turns (goes_over_part code n) k))
    (same-refl (n ∷ ns))

neither-left : (b c : Bool) → (b || c) ≡ false → b ≡ false
neither-left true c h = h
neither-left false c h = refl

neither-right : (b c : Bool) → (b || c) ≡ false → c ≡ false
neither-right true c h = absurd (true≢false h)
neither-right false c h = h

share-outside : (code : StackCode) (outer ns : List ℕ) (k : Cost) → inside outer ns ≡ false →
    share code outer ns k ≡ no_cost
share-outside code outer [] k h = ap (λ b. if b then k else no_cost) h
share-outside code outer (n ∷ ns) k h =
    ap (λ b. if b then k else share code outer ns (cost_of_turns (goes_over_part code n) k))
    (neither-left (same_nest outer (n ∷ ns)) (inside outer ns) h)
    ∙ share-outside code outer ns (cost_of_turns (goes_over_part code n) k)
    (neither-right (same_nest outer (n ∷ ns)) (inside outer ns) h)

share-inside : (code : StackCode) (opener : ℕ) (outer ns : List ℕ) (k : Cost) →
    inside (opener ∷ outer) ns ≡ true →
    share code outer ns k ≡ cost_of_turns (goes_over_part code opener) (share code (opener ∷ outer) ns k)
share-inside code opener outer [] k h = absurd (true≢false (sym h))
share-inside code opener outer (n ∷ ns) k h =
    by (λ j. share-inside code opener outer ns (cost_of_turns (goes_over_part code n) k) j)
    (same_nest (opener ∷ outer) (n ∷ ns)) refl
  where
    turned : Cost
    turned = cost_of_turns (goes_over_part code n) k

    turns : Cost → Cost
    turns c = cost_of_turns (goes_over_part code opener) c

    by : (inside (opener ∷ outer) ns ≡ true →
        share code outer ns turned ≡ turns (share code (opener ∷ outer) ns turned)) →
        (b : Bool) → same_nest (opener ∷ outer) (n ∷ ns) ≡ b →
        share code outer (n ∷ ns) k ≡ turns (share code (opener ∷ outer) (n ∷ ns) k)
    by further true e =
        let same = same-true (opener ∷ outer) (n ∷ ns) e in
        let opens : opener ≡ n = ap (first_or 0) same in
        let rest : outer ≡ ns = ap (drop 1) same in
        let apart = differ-length outer (n ∷ ns) (λ l. omega (arith, l, ap length rest)) in
        ap (λ b. if b then k else share code outer ns turned) apart
        ∙ (ap (λ o. share code o ns turned) rest
        ∙ (share-self code ns turned
        ∙ (sym (ap (λ o. cost_of_turns (goes_over_part code o) k) opens)
        ∙ sym (ap (λ b. turns (if b then k else share code (opener ∷ outer) ns turned)) e))))
    by further false e =
        let inner = or-false (same_nest (opener ∷ outer) (n ∷ ns)) (inside (opener ∷ outer) ns) e h in
        let long = inside-length (opener ∷ outer) ns inner in
        let apart = differ-length outer (n ∷ ns) (λ l. omega (arith, l, long)) in
        ap (λ b. if b then k else share code outer ns turned) apart
        ∙ (further inner ∙ sym (ap (λ b. turns (if b then k else share code (opener ∷ outer) ns turned)) e))

pub own-grows : (code : StackCode) (index : ℕ) →
    region code (entry_at code) (entry_at code index).nest (suc index)
    ≡ plus_cost (region code (entry_at code) (entry_at code index).nest index) (cost_at code index)
own-grows code index =
    ap (plus_cost (region code (entry_at code) (entry_at code index).nest index))
    (share-self code (entry_at code index).nest (cost_at code index))

-- the code's nests as those of a course, in which each instruction costs nothing
abbrev shape : StackCode → course.Course
shape code = course_of code 0 (λ index. course.nothing)

nest-shape : (code : StackCode) (index : ℕ) → course.nest (shape code) index ≡ (entry_at code index).nest
nest-shape code index = same-nests code 0 (λ i. course.nothing) index

-- an index isn't in the nests of the indices up to it
not-yet : (code : StackCode) (index y : ℕ) (ns : List ℕ) → y ≤ index →
    inside (index ∷ ns) (entry_at code y).nest ≡ false
not-yet code index y ns le =
    subst (λ ms. inside (index ∷ ns) ms ≡ false) (nest-shape code y) (below-outside (shape code) index y ns le)

-- so a region costs nothing before it opens
before-open : (code : StackCode) (index n : ℕ) (ns : List ℕ) → n ≤ suc index →
    region code (entry_at code) (index ∷ ns) n ≡ no_cost
before-open code index zero ns le = refl
before-open code index (suc n) ns le =
    ap (λ c. plus_cost c (share code (index ∷ ns) (entry_at code n).nest (cost_at code n)))
    (before-open code index n ns (omega (arith, le)))
    ∙ ap (plus_cost no_cost)
    (share-outside code (index ∷ ns) (entry_at code n).nest (cost_at code n)
    (not-yet code index n ns (omega (arith, le))))

pub region-opens : (code : StackCode) (index : ℕ) →
    region code (entry_at code) (index ∷ (entry_at code index).nest) (suc index) ≡ no_cost
region-opens code index = before-open code index (suc index) (entry_at code index).nest (omega arith)

module _ (code : StackCode) (index opener : ℕ) (outer : List ℕ)
    (at : (entry_at code index).nest ≡ opener ∷ outer) where
  abbrev own : ℕ → Cost
  own n = region code (entry_at code) (opener ∷ outer) n

  abbrev round : ℕ → Cost
  round n = region code (entry_at code) outer n

  abbrev turns : Cost → Cost
  turns c = cost_of_turns (goes_over_part code opener) c

  in-loop : (y : ℕ) → opener < y → y ≤ index → inside (opener ∷ outer) (entry_at code y).nest ≡ true
  in-loop y lt le =
      let here = subst (λ ms. inside (opener ∷ outer) ms ≡ true) (sym (nest-shape code index ∙ at))
      (inside-self (opener ∷ outer)) in
      subst (λ ms. inside (opener ∷ outer) ms ≡ true) (nest-shape code y)
      (inside-before (shape code) opener y index outer lt le here)

  -- what has been added since the loop opened
  since : (n d : ℕ) → suc opener + d ≡ n → n ≤ suc index
      → round n ≡ plus_cost (round (suc opener)) (turns (own n))
  since n zero e le =
      let same : n ≡ suc opener = omega (arith, e) in
      let none = before-open code opener n outer (omega (arith, same)) in
      ap round same
      ∙ (sym (plus_cost-no_cost (round (suc opener)))
      ∙ ap (plus_cost (round (suc opener)))
      (sym (turns-no_cost (goes_over_part code opener)) ∙ ap turns (sym none)))
  since zero (suc d) e le = absurd (omega (arith, e))
  since (suc n) (suc d) e le =
      let s = share code (opener ∷ outer) (entry_at code n).nest (cost_at code n) in
      let earlier = since n d (omega (arith, e)) (omega (arith, le)) in
      let inner = in-loop n (omega (arith, e)) (omega (arith, le)) in
      ap (λ c. plus_cost c (share code outer (entry_at code n).nest (cost_at code n))) earlier
      ∙ (ap (plus_cost (plus_cost (round (suc opener)) (turns (own n))))
      (share-inside code opener outer (entry_at code n).nest (cost_at code n) inner)
      ∙ (plus_cost-assoc (round (suc opener)) (turns (own n)) (turns s)
      ∙ ap (plus_cost (round (suc opener))) (sym (turns-plus (goes_over_part code opener) (own n) s))))

  pub region-closes : round (suc index) ≡ plus_cost (round (suc opener)) (turns (own (suc index)))
  region-closes =
      let before = opener-before (shape code) index opener outer (nest-shape code index ∙ at) in
      since (suc index) (index - opener) (omega (arith, before)) (omega arith)
