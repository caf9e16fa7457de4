-- The nests and the slots of a table, where code is well formed: those of the code's course, and none where a jump
-- goes,
-- where a loop starts, and where one ends.
use Rattle.std.proofs.Common.{◌≡◌, ℕ, suc, ◌<◌, ◌≤◌, Bool, true, false, true≢false, List, []}
use Rattle.std.proofs.Common.{◌∷◌, ◌++◌, length, drop, map, Some, refl, sym, ap, ◌∙◌, subst, arith}
use Rattle.std.specs.Prelude.{slice_get, if◌then◌else◌}
use Rattle.std.proofs.lemmas.Option.{none-some}
use Rattle.code_rules.specs.Inner.Course as course
use Rattle.code_rules.proofs.Courses.Nests.{first-place}
use Rattle.data_tree.specs.Tree.{Tree}
use Rattle.helper_set.specs.Values.{Value, kind_of}
use Rattle.template_code.specs.Code.{StackCode}
use Rattle.template_code.specs.Instructions.{flow, target_of, goes_on, requires_empty_stack, pops, pushes, slots_kept}
use Rattle.template_code.specs.Machine.{Loop, Effect, effect}
use Rattle.template_code.specs.declared.flow.Flow.{Flow}
use Rattle.template_code.specs.declared.instr.Instr.{Instr}
use Rattle.template_code.specs.declared.instr.Instr.TheVariants.{Jump, Branch, Each, Next, Halt}
use Rattle.code_rules.specs.Table.{TableEntry, entry_at}
use Rattle.code_rules.specs.Verdict.{IsWellFormed}
use Rattle.code_rules.proofs.FormFacts.{formed-inside, formed-empty_rest}
use Rattle.code_rules.proofs.MachineFacts.{effect-kinds}
use Rattle.code_rules.proofs.NestFacts.{course_of, same-nests}
use Rattle.code_rules.proofs.TableFacts.{IsTable-entry_at, entry-same}
use Rattle.safe_code.proofs.Courses.{Opens, AllOpen, all-open}

-- an instruction that requires an empty stack pushes nothing
pushes-none : (i : Instr) → requires_empty_stack (flow i) ≡ true → pushes i ≡ []
pushes-none (Jump a) h = refl
pushes-none (Branch a) h = refl
pushes-none (Each a) h = refl
pushes-none (Next a) h = refl
pushes-none Halt h = refl
pushes-none i h = absurd (true≢false (sym h))

pub all-slots : {A : Type 0} (f : Flow) (slots : List A) → goes_on f ≡ true → slots_kept f slots ≡ slots
all-slots f slots h = rw h refl

no-slots : {A : Type 0} (b : Bool) (slots : List A) → slots ≡ [] → (if b then slots else []) ≡ []
no-slots true slots h = h
no-slots false slots h = refl

pub target-clears : (f : Flow) (a : ℕ) → target_of f ≡ Some a → requires_empty_stack f ≡ true
target-clears Flow.Straight a h = absurd (none-some a h)
target-clears (Flow.Jump b) a h = refl
target-clears (Flow.Branch b) a h = refl
target-clears (Flow.Open b) a h = refl
target-clears (Flow.Close b) a h = absurd (none-some a h)
target-clears Flow.End a h = absurd (none-some a h)

module _ (code : StackCode) (well : IsWellFormed code) where
  -- after an instruction that requires an empty stack there is no slot
  pub none-after : (index : ℕ) (i : Instr) → slice_get code.instrs index ≡ Some i →
      requires_empty_stack (flow i) ≡ true → (well.table (suc index)).kinds ≡ []
  none-after index i is clear =
      ap (λ (e : TableEntry). e.kinds) (well.follows.next index i is)
      ∙ no-slots (goes_on (flow i)) (pushes i ++ drop (length (pops i)) (well.table index).kinds)
      (rw (pushes-none i clear) (formed-empty_rest code well index i is clear))

  pub nest-at : (n : ℕ) (cost : ℕ → course.Cost) (index : ℕ) → index ≤ length code.instrs →
      course.nest (course_of code n cost) index ≡ (well.table index).nest
  nest-at n cost index le =
      same-nests code n cost index
      ∙ ap (λ (e : TableEntry). e.nest)
      (sym (entry-same code well.table (entry_at code) well.follows (IsTable-entry_at code) index le))

  -- the loop opens there
  pub opener-opens : (index opener : ℕ) (outer : List ℕ) → index ≤ length code.instrs →
      (well.table index).nest ≡ opener ∷ outer → Opens code opener
  opener-opens index opener outer le at =
      let same = ap (λ (e : TableEntry). e.nest)
      (entry-same code well.table (entry_at code) well.follows (IsTable-entry_at code) index le) in
      (subst (λ ns. AllOpen code ns) (sym same ∙ at) (all-open code index)).0

  -- at the start of a loop: the instruction is in the code, the loop is open, there is no slot
  pub record Starts (opener : ℕ) (outer : List ℕ) : Type 0 where
    pub inside : suc opener < length code.instrs
    pub nest : (well.table (suc opener)).nest ≡ opener ∷ outer
    pub kinds : (well.table (suc opener)).kinds ≡ []

  pub starts : (index opener : ℕ) (outer : List ℕ) → index ≤ length code.instrs →
      (well.table index).nest ≡ opener ∷ outer → Starts opener outer
  starts index opener outer le at =
      let cost : ℕ → course.Cost = λ k. course.nothing in
      let o = opener-opens index opener outer le at in
      let within = formed-inside code opener o.instr well o.here (ap goes_on o.opens) in
      record {
        inside = within;
        nest = sym (nest-at 0 cost (suc opener) (omega (arith, within)))
            ∙ first-place (course_of code 0 cost) index opener outer (nest-at 0 cost index le ∙ at);
        kinds = none-after opener o.instr o.here (ap requires_empty_stack o.opens);
      }

  module _ (root : Tree) (index : ℕ) (stack : List Value) (loops : List Loop) (i : Instr) (e : Effect)
      (is : slice_get code.instrs index ≡ Some i) (same : map kind_of stack ≡ (well.table index).kinds)
      (does : effect code root i loops stack ≡ Some e) where
    kinds_left : map kind_of e.stack ≡ pushes i ++ drop (length (pops i)) (well.table index).kinds
    kinds_left = effect-kinds code root i loops stack e does ∙ ap (λ ks. pushes i ++ drop (length (pops i)) ks) same

    -- the run goes on at the next instruction
    pub kinds-next : goes_on (flow i) ≡ true → map kind_of e.stack ≡ (well.table (suc index)).kinds
    kinds-next on =
        kinds_left
        ∙ (sym (all-slots (flow i) (pushes i ++ drop (length (pops i)) (well.table index).kinds) on)
        ∙ ap (λ (x : TableEntry). x.kinds) (sym (well.follows.next index i is)))

    -- no slot is left
    pub kinds-none : requires_empty_stack (flow i) ≡ true → map kind_of e.stack ≡ []
    kinds-none clear = kinds_left ∙ rw (pushes-none i clear) (formed-empty_rest code well index i is clear)
