-- Code is well formed where each instruction keeps the rules on its own and each jump lands: what V3, V4 and V8 ask of
-- all jumps to a target is shown where each jump comes from. It is the converse of what the laws say of jumps.
use Rattle.std.proofs.Common.{◌≡◌, ℕ, zero, suc, ◌<◌, ◌≤◌, ◌⊎◌, Bool, true, false, true≢false, List, [], ◌∷◌, length}
use Rattle.std.proofs.Common.{map, Option, Some, None, nat_eq, refl, sym, ap, ◌∙◌, ⊎_elim, inl, inr, arith}
use Rattle.std.specs.Prelude.{◌&&◌, not, if◌then◌else◌, slice_get}
use Rattle.std.specs.List.{list_all}
use Rattle.std.proofs.lemmas.Bool.{lt-ltb, le-ltb, ne_eqb}
use Rattle.std.proofs.lemmas.Bool.Decides.{nat_tests}
use Rattle.std.proofs.lemmas.Option.{slice_get_cases, slice_get_within}
use Rattle.code_rules.proofs.Courses.Nests.{same-refl}
use Rattle.helper_set.specs.declared.kind.Kind.{Kind}
use Rattle.template_code.specs.Code.{StackCode}
use Rattle.template_code.specs.Instructions.{flow, target_of, is_misplaced, names_entries, loop_named, pops, pushes}
use Rattle.template_code.specs.Instructions.{slots_after}
use Rattle.template_code.specs.declared.instr.Instr.{Instr}
use Rattle.template_code.specs.declared.limits.TheConstants.{MAX_INSTRUCTIONS, MAX_SLOTS, MAX_LOOPS}
use Rattle.code_rules.specs.Costs.{is_empty}
use Rattle.code_rules.specs.Table.{TableEntry, nest_after, entry_at}
use Rattle.code_rules.specs.Rules.{has_invalid_target, is_target, jumps, jumps_among, nests_to, same_nest, lacks_slots}
use Rattle.code_rules.specs.Rules.{kinds_fit, target_has_slots, leaves_slots, closes_wrongly, lacks_loop, broken_by}
use Rattle.code_rules.specs.Rules.{broken_beyond, broken_where, broken}
use Rattle.code_rules.specs.Verdict.{IsWellFormed}
use Rattle.code_rules.proofs.MachineFacts.{Keeps}
use Rattle.code_rules.proofs.TableFacts.{IsTable-entry_at}

-- what the rules up to V12 ask of an instruction on its own, in code that isn't too long: all but what they say of its
-- target and of the jumps to it
pub record KeepsAlone (code : StackCode) (index : ℕ) (i : Instr) (e : TableEntry) : Type 0 where
  pub names : names_entries code i ≡ true
  pub enough : lacks_slots (pops i) e.kinds ≡ false
  pub fit : kinds_fit (pops i) e.kinds ≡ true
  pub room : length (slots_after i (pushes i) e.kinds) ≤ MAX_SLOTS
  pub empty_rest : leaves_slots i e.kinds ≡ false
  pub depth : length (nest_after (flow i) index e.nest) ≤ MAX_LOOPS
  pub closes : closes_wrongly (flow i) e.nest ≡ false
  pub open_loop : lacks_loop (loop_named i) (length e.nest) ≡ false
  pub well_placed : is_misplaced (flow i) (nat_eq (suc index) (length code.instrs)) ≡ false

-- a jump from the one index to the other goes to a later instruction, in the same loops, where there is no slot; an
-- `Each` itself is outside of its loop
pub record Lands (code : StackCode) (index target : ℕ) : Type 0 where
  pub later : index < target
  pub inside : target < length code.instrs
  pub nest : (entry_at code target).nest ≡ (entry_at code index).nest
  pub kinds : (entry_at code target).kinds ≡ []

abbrev pub EachKeepsAlone : StackCode → Type 0
EachKeepsAlone code =
    (index : ℕ) (i : Instr) → slice_get code.instrs index ≡ Some i
    → KeepsAlone code index i (entry_at code index)

abbrev pub EachJumpLands : StackCode → Type 0
EachJumpLands code =
    (index target : ℕ) (i : Instr) → slice_get code.instrs index ≡ Some i →
    target_of (flow i) ≡ Some target → Lands code index target

-- what keeps the rules breaks none
unbroken : (code : StackCode) (index : ℕ) (sources : List (List ℕ)) (i : Instr) (e : TableEntry) →
    Keeps code index sources i e → broken_by code index sources i e ≡ None
unbroken code index sources i e k =
    rw (
      k.early,
      k.names,
      k.valid_target,
      k.same_loops,
      k.enough,
      k.fit,
      k.room,
      k.empty_target,
      k.empty_rest,
      k.depth,
      k.closes,
      k.open_loop,
      k.well_placed,
    ) refl

none_beyond : (is : List Instr) (index : ℕ) → 0 < length is → broken_beyond is index ≡ None
none_beyond [] index some = absurd (omega (arith, some))
none_beyond (i ∷ is) zero some = refl
none_beyond (i ∷ is) (suc index) some = refl

target-is : (o : Option ℕ) (target : ℕ) → is_target o target ≡ true → o ≡ Some target
target-is None target h = absurd (true≢false (sym h))
target-is (Some t) target h = let e : t ≡ target = grind (arith, nat_tests, h) in ap Some e

no_slots_at : (b : Bool) (kinds : List Kind) → kinds ≡ [] → (b && not (is_empty kinds)) ≡ false
no_slots_at true kinds e = ap (λ ks. not (is_empty ks)) e
no_slots_at false kinds e = refl

module _ (code : StackCode) (lands : EachJumpLands code) where
  abbrev nests_among : ℕ → ℕ → List (List ℕ)
  nests_among target n = map (λ source. (entry_at code source).nest) (jumps_among code n target)

  -- the loops that are open at a target are those of a nest
  abbrev same_as : ℕ → List ℕ → Bool
  same_as target ns = same_nest (entry_at code target).nest ns

  -- what holds of the target of jumps from these nests
  abbrev IsLanding : ℕ → List (List ℕ) → Type 0
  IsLanding target sources =
      (list_all (same_as target) sources ≡ true) × ((sources ≡ []) ⊎ ((entry_at code target).kinds ≡ []))

  source-lands : (target n : ℕ) (o : Option Instr) → slice_get code.instrs n ≡ o → jumps o target ≡ true →
      Lands code n target
  source-lands target n None at h = absurd (true≢false (sym h))
  source-lands target n (Some i) at h = lands n target i at (target-is (target_of (flow i)) target h)

  is-target : (target n : ℕ) → IsLanding target (nests_among target n)
  is-target target zero = (refl, inl refl)
  is-target target (suc n) =
      by (is-target target n) (jumps (slice_get code.instrs n) target) refl
    where
      earlier : List ℕ
      earlier = jumps_among code n target

      nests : List ℕ → List (List ℕ)
      nests sources = map (λ source. (entry_at code source).nest) sources

      by : IsLanding target (nests earlier) → (b : Bool) → jumps (slice_get code.instrs n) target ≡ b →
          IsLanding target (nests (if b then n ∷ earlier else earlier))
      by rest true is =
          let l = source-lands target n (slice_get code.instrs n) refl is in
          let others = list_all (same_as target) (nests earlier) in
          let same : same_as target (entry_at code n).nest ≡ true =
          ap (same_as target) (sym l.nest) ∙ same-refl (entry_at code target).nest in
          (ap (λ b. b && others) same ∙ rest.0, inr l.kinds)
      by rest false is = rest

  no_slots : (target : ℕ) (sources : List (List ℕ)) → IsLanding target sources →
      target_has_slots sources (entry_at code target).kinds ≡ false
  no_slots target sources h =
      ⊎_elim (λ none. ap (λ ns. not (is_empty ns) && not (is_empty (entry_at code target).kinds)) none)
      (λ e. no_slots_at (not (is_empty sources)) (entry_at code target).kinds e) h.1

  leads : (index : ℕ) (o : Option ℕ) → ((target : ℕ) → o ≡ Some target → Lands code index target) →
      has_invalid_target code index o ≡ false
  leads index None all = refl
  leads index (Some target) all =
      let l = all target refl in
      rw (lt-ltb index target l.later, lt-ltb target (length code.instrs) l.inside) refl

  keeps-landing : (index : ℕ) (i : Instr) → length code.instrs ≤ MAX_INSTRUCTIONS →
      slice_get code.instrs index ≡ Some i → KeepsAlone code index i (entry_at code index) →
      Keeps code index (nests_to code (entry_at code) index) i (entry_at code index)
  keeps-landing index i short at alone =
      let t = is-target index index in
      let within = slice_get_within code.instrs index i at in
      record {
        early = ne_eqb index MAX_INSTRUCTIONS (λ e. omega (arith, e, within, short));
        names = alone.names;
        valid_target = leads index (target_of (flow i)) (λ target jump. lands index target i at jump);
        same_loops = t.0;
        enough = alone.enough;
        fit = alone.fit;
        room = le-ltb MAX_SLOTS (length (slots_after i (pushes i) (entry_at code index).kinds)) alone.room;
        empty_target = no_slots index (nests_to code (entry_at code) index) t;
        empty_rest = alone.empty_rest;
        depth = le-ltb MAX_LOOPS (length (nest_after (flow i) index (entry_at code index).nest)) alone.depth;
        closes = alone.closes;
        open_loop = alone.open_loop;
        well_placed = alone.well_placed;
      }

-- code that isn't empty nor too long, whose instructions keep the rules on their own and whose jumps land, is well
-- formed
pub formed-from : (code : StackCode) → 0 < length code.instrs → length code.instrs ≤ MAX_INSTRUCTIONS →
    EachKeepsAlone code → EachJumpLands code → IsWellFormed code
formed-from code some short alone lands =
    record { table = entry_at code; follows = IsTable-entry_at code; unbroken = at }
  where
    at : (index : ℕ) → broken code (entry_at code) index ≡ None
    at index =
        let e = entry_at code index in
        let sources = nests_to code (entry_at code) index in
        ⊎_elim
        (λ w. ap (λ o. broken_where code index sources o e) w.2
        ∙ unbroken code index sources w.0 e (keeps-landing code lands index w.0 short w.2 (alone index w.0 w.2)))
        (λ n. ap (λ o. broken_where code index sources o e) n.1 ∙ none_beyond code.instrs index some)
        ((slice_get_cases code.instrs index).1)
