-- Runs of some number of steps, and what each flow makes of a state.
use Rattle.std.proofs.Common.{◌≡◌, ℕ, suc, ◌+◌, ◌<◌, ◌≤◌, List, [], ◌∷◌, ◌++◌, length}
use Rattle.std.proofs.Common.{Some, refl, ap, ◌∙◌, Bool, arith, subst, append-nil}
use Rattle.std.specs.Prelude.{slice_get, option_map, option_and_then, if◌then◌else◌}
use Rattle.std.proofs.lemmas.Bool.{lt-ltb, le-ltb}
use Rattle.data_tree.specs.Tree.{Tree}
use Rattle.data_tree.specs.Parts.{items}
use Rattle.helper_set.specs.Values.{Value, a_datum, a_truth}
use Rattle.template_code.specs.Code.{StackCode}
use Rattle.template_code.specs.Instructions.{flow}
use Rattle.template_code.specs.Machine.{Loop, State, first, Effect, with_stack, effect, Way, opened, way}
use Rattle.template_code.specs.Machine.{state_after, next_state, act, advance, Reaches, IsAtHalt, Runs}
use Rattle.template_code.specs.declared.flow.Flow.{Flow}
use Rattle.template_code.specs.declared.instr.Instr.{Instr}
use Rattle.template_code.specs.declared.instr.Instr.TheVariants.{Jump, Branch, Each, Next}
use Rattle.template_code.proofs.RunFacts.{comes-add}

-- some number of steps leads from the one state to the other
pub record Comes (code : StackCode) (root : Tree) (s t : State) : Type 0 where
  pub steps : ℕ
  pub leads : Reaches code root steps s t

abbrev pub state : ℕ → List Value → List Loop → List ℕ → State
state index stack loops output = record { index = index; stack = stack; loops = loops; output = output }

abbrev pub at_turn : Tree → ℕ → Loop
at_turn over turn = record { over = over; turn = turn }

module _ (code : StackCode) (root : Tree) where
  pub comes-nowhere : (s : State) → Comes code root s s
  comes-nowhere s = record { steps = 0; leads = refl }

  pub comes-join : (s t u : State) → Comes code root s t → Comes code root t u → Comes code root s u
  comes-join s t u h k =
      record { steps = h.steps + k.steps; leads = comes-add code root h.steps k.steps s t u h.leads k.leads }

  -- the same state, by other names of its index and its output
  pub comes-to :
      (s : State) (index index' : ℕ) (stack : List Value) (loops : List Loop) (output output' : List ℕ)
      → index ≡ index' → output ≡ output' → Comes code root s (state index stack loops output)
      → Comes code root s (state index' stack loops output')
  comes-to s index index' stack loops output output' e f h =
      subst (λ o. Comes code root s (state index' stack loops o)) f
      (subst (λ n. Comes code root s (state n stack loops output)) e h)

  -- what comes from the first state to `Halt` is a whole run
  pub comes-runs : (t : State) → Comes code root first t → IsAtHalt code t
      → (steps : ℕ) × Runs code root steps t.output
  comes-runs t h halt = (suc h.steps, (t, (h.steps, refl, h.leads, halt), refl))

  comes-acting : (i : Instr) (s t : State) → slice_get code.instrs s.index ≡ Some i → act code root i s ≡ Some t
      → Comes code root s t
  comes-acting i s t h a = record {
    steps = 1;
    leads = ap (option_and_then (advance code root 0)) (ap (option_and_then (λ j. act code root j s)) h ∙ a);
  }

  -- one instruction, by its effect and its way
  comes-by : (i : Instr) (s : State) (e : Effect) (w : Way) → slice_get code.instrs s.index ≡ Some i
      → effect code root i s.loops s.stack ≡ Some e → way (flow i) s.index s.loops s.stack ≡ Some w
      → Comes code root s (state_after s e w)
  comes-by i s e w h does goes =
      comes-acting i s (state_after s e w) h
      (ap (option_and_then (next_state (flow i) s)) does ∙ ap (option_map (state_after s e)) goes)

  -- one that writes nothing
  comes-quietly : (i : Instr) (index : ℕ) (stack rest : List Value) (loops : List Loop) (output : List ℕ) (w : Way)
      → slice_get code.instrs index ≡ Some i → effect code root i loops stack ≡ Some (with_stack rest)
      → way (flow i) index loops stack ≡ Some w
      → Comes code root (state index stack loops output) (state w.index rest w.loops output)
  comes-quietly i index stack rest loops output w h does goes =
      comes-to (state index stack loops output) w.index w.index rest w.loops (output ++ []) output refl
      (append-nil output) (comes-by i (state index stack loops output) (with_stack rest) w h does goes)

  -- an instruction that goes straight on has its effect, and the next one is the one after it
  pub comes-straight : (i : Instr) (index : ℕ) (stack : List Value) (loops : List Loop)
      (output : List ℕ) (e : Effect)
      → slice_get code.instrs index ≡ Some i → flow i ≡ Flow.Straight
      → effect code root i loops stack ≡ Some e
      → Comes code root (state index stack loops output) (state (suc index) e.stack loops (output ++ e.written))
  comes-straight i index stack loops output e h f does =
      comes-by i (state index stack loops output) e (record { index = suc index; loops = loops }) h does
      (ap (λ w. way w index loops stack) f)

  -- so with one that writes nothing
  pub comes-pushing : (i : Instr) (index : ℕ) (stack rest : List Value) (loops : List Loop) (output : List ℕ)
      → slice_get code.instrs index ≡ Some i → flow i ≡ Flow.Straight
      → effect code root i loops stack ≡ Some (with_stack rest)
      → Comes code root (state index stack loops output) (state (suc index) rest loops output)
  comes-pushing i index stack rest loops output h f does =
      comes-quietly i index stack rest loops output (record { index = suc index; loops = loops }) h does
      (ap (λ w. way w index loops stack) f)

  pub comes-jumping : (target index : ℕ) (stack : List Value) (loops : List Loop) (output : List ℕ)
      → slice_get code.instrs index ≡ Some (Jump target)
      → Comes code root (state index stack loops output) (state target stack loops output)
  comes-jumping target index stack loops output h =
      comes-quietly (Jump target) index stack stack loops output (record { index = target; loops = loops }) h refl refl

  -- a branch goes on at the next instruction where the truth is so, else at its target
  pub comes-branching : (truth : Bool) (target index : ℕ) (stack : List Value) (loops : List Loop) (output : List ℕ)
      → slice_get code.instrs index ≡ Some (Branch target)
      → Comes code root (state index (a_truth truth ∷ stack) loops output)
      (state (if truth then suc index else target) stack loops output)
  comes-branching truth target index stack loops output h =
      comes-quietly (Branch target) index (a_truth truth ∷ stack) stack loops output
      (record { index = if truth then suc index else target; loops = loops }) h refl refl

  opening : (over : Tree) (target index : ℕ) (stack : List Value) (loops : List Loop) (output : List ℕ)
      (found : List Tree) → items over ≡ found → slice_get code.instrs index ≡ Some (Each target)
      → Comes code root (state index (a_datum over ∷ stack) loops output)
      (state (opened target (suc index) over found loops).index stack (opened target (suc index) over found loops).loops
      output)
  opening over target index stack loops output found e h =
      comes-quietly (Each target) index (a_datum over ∷ stack) stack loops output
      (opened target (suc index) over found loops) h refl
      (ap (λ o. Some (opened target (suc index) over o loops)) e)

  -- over a value without items, a loop is passed
  pub comes-passing : (over : Tree) (target index : ℕ) (stack : List Value) (loops : List Loop) (output : List ℕ)
      → slice_get code.instrs index ≡ Some (Each target) → items over ≡ []
      → Comes code root (state index (a_datum over ∷ stack) loops output) (state target stack loops output)
  comes-passing over target index stack loops output h none = opening over target index stack loops output [] none h

  -- over one with items, it is opened at the first
  pub comes-opening : (over : Tree) (target index : ℕ) (stack : List Value) (loops : List Loop) (output : List ℕ)
      → slice_get code.instrs index ≡ Some (Each target) → 0 < length (items over)
      → Comes code root (state index (a_datum over ∷ stack) loops output)
      (state (suc index) stack (at_turn over 0 ∷ loops) output)
  comes-opening over target index stack loops output h some = by (items over) refl
    where
      by : (found : List Tree) → items over ≡ found
          → Comes code root (state index (a_datum over ∷ stack) loops output)
          (state (suc index) stack (at_turn over 0 ∷ loops) output)
      by [] e = absurd (omega (arith, some, ap length e))
      by (item ∷ later) e = opening over target index stack loops output (item ∷ later) e h

  -- where there is a next item, `Next` goes back to the start with it
  pub comes-again : (over : Tree) (turn start index : ℕ) (stack : List Value) (loops : List Loop) (output : List ℕ)
      → slice_get code.instrs index ≡ Some (Next start) → suc turn < length (items over)
      → Comes code root (state index stack (at_turn over turn ∷ loops) output)
      (state start stack (at_turn over (suc turn) ∷ loops) output)
  comes-again over turn start index stack loops output h more =
      comes-quietly (Next start) index stack stack (at_turn over turn ∷ loops) output
      (record { index = start; loops = at_turn over (suc turn) ∷ loops }) h refl
      (ap (λ b. Some (if b then record { index = start; loops = at_turn over (suc turn) ∷ loops }
      else record { index = suc index; loops = loops })) (lt-ltb (suc turn) (length (items over)) more))

  -- after the last it goes on, out of the loop
  pub comes-out : (over : Tree) (turn start index : ℕ) (stack : List Value) (loops : List Loop) (output : List ℕ)
      → slice_get code.instrs index ≡ Some (Next start) → length (items over) ≤ suc turn
      → Comes code root (state index stack (at_turn over turn ∷ loops) output)
      (state (suc index) stack loops output)
  comes-out over turn start index stack loops output h last =
      comes-quietly (Next start) index stack stack (at_turn over turn ∷ loops) output
      (record { index = suc index; loops = loops }) h refl
      (ap (λ b. Some (if b then record { index = start; loops = at_turn over (suc turn) ∷ loops }
      else record { index = suc index; loops = loops })) (le-ltb (suc turn) (length (items over)) last))
