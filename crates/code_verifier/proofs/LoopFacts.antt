-- The open loops and the costs of their regions, before an instruction and after it.
use Rattle.std.proofs.Common.{◌≡◌, ℕ, suc, Bool, true, false, List, [], ◌∷◌, drop, Some, refl, sym, ap, ◌∙◌}
use Rattle.std.specs.Prelude.{◌&&◌, slice_get}
use Rattle.std.specs.List.{list_all}
use Rattle.std.specs.Option.{option_map_or}
use Rattle.template_code.specs.Code.{StackCode}
use Rattle.template_code.specs.declared.flow.Flow.{Flow}
use Rattle.template_code.specs.declared.instr.Instr.{Instr}
use Rattle.code_rules.specs.Bounds.{Bound}
use Rattle.code_rules.specs.Costs.{bounds_at, goes_over_part, Cost, no_cost, plus_cost, cost_fits, cost_of_turns, cost}
use Rattle.code_rules.specs.Regions.{region}
use Rattle.code_rules.specs.Table.{nest_after, entry_at}
use Rattle.code_rules.specs.Verdict.{judged_nests}
use Rattle.code_rules.proofs.RegionFacts.{own-grows, region-opens, region-closes}
use Rattle.code_verifier.specs.Inner.Pass.{nest_of, loops_after, cost_after}
use Rattle.code_verifier.specs.declared.loops.OpenLoop.{OpenLoop}

abbrev region_at : StackCode → List ℕ → ℕ → Cost
region_at code nest index = region code (entry_at code) nest index

-- the loops are those of a nest
abbrev pub AreOpen : StackCode → List ℕ → List OpenLoop → Type 0
AreOpen code [] [] = Unit {0}
AreOpen code (opener ∷ nest) (l ∷ loops) =
    (l.opener ≡ opener) × (l.is_part ≡ goes_over_part code opener)
    × (l.before ≡ region code (entry_at code) nest (suc opener)) × AreOpen code nest loops
AreOpen code nest loops = ⊥

pub open-nest : (code : StackCode) (nest : List ℕ) (loops : List OpenLoop) → AreOpen code nest loops →
    nest_of loops ≡ nest
open-nest code [] [] h = refl
open-nest code [] (l ∷ loops) h = absurd h
open-nest code (opener ∷ nest) [] h = absurd h
open-nest code (opener ∷ nest) (l ∷ loops) h =
    ap (λ o. o ∷ nest_of loops) h.0 ∙ ap (λ ns. opener ∷ ns) (open-nest code nest loops h.3)

pub own-is : (code : StackCode) (index : ℕ) (i : Instr) (bounds : List Bound) (spent : Cost) →
    slice_get code.instrs index ≡ Some i → bounds ≡ bounds_at code index →
    spent ≡ region code (entry_at code) (entry_at code index).nest index →
    plus_cost spent (cost code i bounds) ≡ region code (entry_at code) (entry_at code index).nest (suc index)
own-is code index i bounds spent at b s =
    let nest = (entry_at code index).nest in
    ap (λ c. plus_cost c (cost code i bounds)) s
    ∙ (ap (λ bs. plus_cost (region_at code nest index) (cost code i bs)) b
    ∙ (ap (λ o. plus_cost (region_at code nest index)
    (option_map_or (λ j. cost code j (bounds_at code index)) o no_cost))
    (sym at)
    ∙ sym (own-grows code index)))

module _ (code : StackCode) (index : ℕ) (own : Cost) (is_part : Bool) where
  open-after : (f : Flow) (nest : List ℕ) (loops : List OpenLoop) → AreOpen code nest loops →
      own ≡ region_at code nest (suc index) → is_part ≡ goes_over_part code index →
      AreOpen code (nest_after f index nest) (loops_after f index is_part own loops)
  open-after Flow.Straight nest loops h o p = h
  open-after (Flow.Jump a) nest loops h o p = h
  open-after (Flow.Branch a) nest loops h o p = h
  open-after (Flow.Open a) nest loops h o p = (refl, p, o, h)
  open-after (Flow.Close a) [] [] h o p = tt
  open-after (Flow.Close a) [] (l ∷ loops) h o p = absurd h
  open-after (Flow.Close a) (opener ∷ nest) [] h o p = absurd h
  open-after (Flow.Close a) (opener ∷ nest) (l ∷ loops) h o p = h.3
  open-after Flow.End nest loops h o p = h

  cost-next : (f : Flow) (nest : List ℕ) (loops : List OpenLoop) → AreOpen code nest loops →
      (entry_at code index).nest ≡ nest → own ≡ region_at code nest (suc index) →
      cost_after f loops own ≡ region_at code (nest_after f index nest) (suc index)
  cost-next Flow.Straight nest loops h at o = o
  cost-next (Flow.Jump a) nest loops h at o = o
  cost-next (Flow.Branch a) nest loops h at o = o
  cost-next (Flow.Open a) nest loops h at o =
      sym (region-opens code index) ∙ ap (λ ns. region_at code (index ∷ ns) (suc index)) at
  cost-next (Flow.Close a) [] [] h at o = o
  cost-next (Flow.Close a) [] (l ∷ loops) h at o = absurd h
  cost-next (Flow.Close a) (opener ∷ nest) [] h at o = absurd h
  cost-next (Flow.Close a) (opener ∷ nest) (l ∷ loops) h at o =
      ap (λ c. plus_cost c (cost_of_turns l.is_part own)) h.2
      ∙ (ap (λ b. plus_cost (region_at code nest (suc opener)) (cost_of_turns b own)) h.1
      ∙ (ap (λ c. plus_cost (region_at code nest (suc opener)) (cost_of_turns (goes_over_part code opener) c)) o
      ∙ sym (region-closes code index opener nest at)))
  cost-next Flow.End nest loops h at o = o

  and_true : (b : Bool) → (b && true) ≡ b
  and_true true = refl
  and_true false = refl

  twice : (b : Bool) → (b && true) ≡ (b && b)
  twice true = refl
  twice false = refl

  -- the regions that are judged at the instruction are its own and the one in which the run goes on
  abbrev regions_fit : Flow → List ℕ → Bool
  regions_fit f nest = list_all (λ ns. cost_fits (region_at code ns (suc index))) (judged_nests f nest)

  abbrev both_fit : Flow → List ℕ → Bool
  both_fit f nest =
      cost_fits (region_at code nest (suc index)) && cost_fits (region_at code (nest_after f index nest) (suc index))

  regions-fit : (f : Flow) (nest : List ℕ) → (entry_at code index).nest ≡ nest
      → regions_fit f nest ≡ both_fit f nest
  regions-fit Flow.Straight nest at = twice (cost_fits (region_at code nest (suc index)))
  regions-fit (Flow.Jump a) nest at = twice (cost_fits (region_at code nest (suc index)))
  regions-fit (Flow.Branch a) nest at = twice (cost_fits (region_at code nest (suc index)))
  regions-fit (Flow.Open a) nest at =
      let none : cost_fits (region_at code (index ∷ nest) (suc index)) ≡ true =
      ap (λ ns. cost_fits (region_at code (index ∷ ns) (suc index))) (sym at)
      ∙ ap cost_fits (region-opens code index) in
      ap (λ b. cost_fits (region_at code nest (suc index)) && b) (sym none)
  regions-fit (Flow.Close a) nest at =
      ap (λ b. cost_fits (region_at code nest (suc index)) && b)
      (and_true (cost_fits (region_at code (drop 1 nest) (suc index))))
  regions-fit Flow.End nest at = twice (cost_fits (region_at code nest (suc index)))

  pub loops-next : (f : Flow) (loops : List OpenLoop) → AreOpen code (entry_at code index).nest loops →
      own ≡ region_at code (entry_at code index).nest (suc index) → is_part ≡ goes_over_part code index →
      AreOpen code (nest_after f index (entry_at code index).nest) (loops_after f index is_part own loops)
  loops-next f loops h o p = open-after f (entry_at code index).nest loops h o p

  pub cost-after : (f : Flow) (loops : List OpenLoop) → AreOpen code (entry_at code index).nest loops →
      own ≡ region_at code (entry_at code index).nest (suc index) →
      cost_after f loops own ≡ region code (entry_at code) (nest_after f index (entry_at code index).nest) (suc index)
  cost-after f loops h o = cost-next f (entry_at code index).nest loops h refl o

  pub fits-after : (f : Flow) (loops : List OpenLoop) → AreOpen code (entry_at code index).nest loops →
      own ≡ region_at code (entry_at code index).nest (suc index) →
      (cost_fits own && cost_fits (cost_after f loops own))
      ≡ list_all (λ ns. cost_fits (region code (entry_at code) ns (suc index)))
      (judged_nests f (entry_at code index).nest)
  fits-after f loops h o =
      ap (λ c. cost_fits c && cost_fits (cost_after f loops own)) o
      ∙ (ap (λ c. cost_fits (region_at code (entry_at code index).nest (suc index)) && cost_fits c)
      (cost-after f loops h o)
      ∙ sym (regions-fit f (entry_at code index).nest refl))
