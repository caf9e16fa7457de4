-- What is added instruction by instruction is all that the code finds.
use Rattle.std.proofs.Common.{◌≡◌, ℕ, ◌+◌, ◌<◌, ◌≤◌, ◌⊎◌, inl, inr, List, ◌∷◌, length, ap, sym}
use Rattle.std.proofs.Common.{◌∙◌, Some, subst, arith, get_or}
use Rattle.std.specs.Prelude.{slice_get, codes}
use Rattle.std.specs.Option.{option_map_or}
use Rattle.std.proofs.lemmas.Bool.{cases_lt}
use Rattle.std.proofs.lemmas.Option.{slice_get_within, get_or_from_slice_get}
use Rattle.data_tree.specs.Tree.{Tree, nothing}
use Rattle.data_tree.specs.LookUp.{at}
use Rattle.data_tree.specs.RootPaths.{json_path}
use Rattle.data_tree.specs.declared.step.Step.{Step}
use Rattle.data_tree.specs.declared.step.Step.TheVariants.{Name}
use Rattle.helper_set.specs.declared.helper.Helper.TheVariants.{JsonPath}
use Rattle.json_bridge.specs.Path.{SpellsPath}
use Rattle.json_bridge.proofs.Found.{found_path}
use Rattle.needed_data.specs.Needed.{NeededData, Includes, Covers}
use Rattle.template_code.specs.Code.{StackCode}
use Rattle.template_code.specs.Finds.{IsPushedBefore}
use Rattle.template_code.specs.Machine.{found_by}
use Rattle.template_code.specs.declared.instr.Instr.{Instr}
use Rattle.template_code.specs.declared.instr.Instr.TheVariants.{Emit, Call}
use Rattle.template_machine.specs.Inner.Needs.{CoversInstr, CoversCode}

-- in what that many instructions at the start find
abbrev pub CoversFirst : ℕ → NeededData → StackCode → Type 0
CoversFirst count needed code =
    (index : ℕ) (i : Instr) → index < count → slice_get code.instrs index ≡ Some i → CoversInstr needed code index i

pub covers_next : (count : ℕ) (old new : NeededData) (code : StackCode) (instrs : List Instr)
    → instrs ≡ code.instrs
    → CoversFirst count old code → Includes new old → CoversInstr new code count (get_or instrs count (Emit 0))
    → CoversFirst (count + 1) new code
covers_next count old new code instrs same before more covers index i below found = by (cases_lt index count)
  where
    by : (index < count) ⊎ (count ≤ index) → CoversInstr new code index i
    by (inl earlier) = λ r r' alike. before index i earlier found r r' (more r r' alike)
    by (inr later) =
        let is : count ≡ index = omega (arith, below, later) in
        let here : get_or instrs index (Emit 0) ≡ i =
        get_or_from_slice_get instrs index i (Emit 0) (ap (λ is. slice_get is index) same ∙ found) in
        subst (λ k. CoversInstr new code k i) is
        (subst (CoversInstr new code count) (ap (λ k. get_or instrs k (Emit 0)) is ∙ here) covers)

pub covers_all : (count : ℕ) (needed : NeededData) (code : StackCode) (instrs : List Instr) → instrs ≡ code.instrs
    → length instrs ≤ count → CoversFirst count needed code → CoversCode needed code
covers_all count needed code instrs same all covers r r' alike index i found =
    let within = slice_get_within code.instrs index i found in
    covers index i (omega (arith, within, all, ap (λ (is : List Instr). length is) same)) found r r' alike

-- what a path finds in the body's data is what its steps find after the name of that data
pub covers_path : (needed : NeededData) (code : StackCode) (index : ℕ) (text : List ℕ) (path : List Step)
    → IsPushedBefore code index text → SpellsPath text path → Covers needed (Name (codes "json") ∷ path)
    → CoversInstr needed code index (Call JsonPath)
covers_path needed code index text path pushed spelled covers r r' alike =
    inr (λ is. inr (text, pushed, found r ∙ covers r r' alike ∙ sym (found r')))
  where
    found : (root : Tree) → found_by root text ≡ at (Name (codes "json") ∷ path) root
    found root = ap (λ o. option_map_or (λ p. at p (at json_path root)) o nothing) (found_path text path spelled)
