-- What code reads of a root: what its paths find, but where nobody reads that, and, where a helper looks a path up, what
-- a literal that is the path finds in the body's data, or else that data.
use Rattle.std.specs.Prelude.{◌≡◌, ◌⊎◌, ℕ, suc, true, List, Some, slice_get}
use Rattle.data_tree.specs.Tree.{Tree}
use Rattle.data_tree.specs.LookUp.{at}
use Rattle.data_tree.specs.RootPaths.{json_path}
use Rattle.data_tree.specs.declared.step.Step.{Step}
use Rattle.helper_set.specs.Helpers.{is_looked_up}
use Rattle.helper_set.specs.declared.helper.Helper.{Helper}
use Rattle.helper_set.specs.declared.helper.Helper.TheVariants.{JsonPath}
use Rattle.template_code.specs.Code.{StackCode}
use Rattle.template_code.specs.Machine.{found_by}
use Rattle.template_code.specs.declared.instr.Instr.{Instr}
use Rattle.template_code.specs.declared.instr.Instr.TheVariants.{Root, Text, Call, Jump, Branch, Each, Next}

-- the body's data is the same
abbrev pub HaveSameJson : Tree → Tree → Type 0
HaveSameJson r r' = at json_path r ≡ at json_path r'

-- the instruction before that index pushes that text of the code
pub record IsPushedBefore (code : StackCode) (index : ℕ) (text : List ℕ) : Type 0 where
  pub before : ℕ
  pub entry : ℕ
  pub next : index ≡ suc before
  pub pushes : slice_get code.instrs before ≡ Some (Text entry)
  pub literal : slice_get code.texts entry ≡ Some text

-- such a text finds the same as a path into the body's data
abbrev pub LiteralFindsSame : StackCode → Tree → Tree → ℕ → Type 0
LiteralFindsSame code r r' index =
    (text : List ℕ) × IsPushedBefore code index text × (found_by r text ≡ found_by r' text)

-- a jump to that index comes to no helper that looks a path up, or the body's data is the same: before a jump may stand
-- another text than the one before the target
abbrev pub JumpFindsSame : StackCode → Tree → Tree → ℕ → Type 0
JumpFindsSame code r r' target =
    (h : Helper) → slice_get code.instrs target ≡ Some (Call h) → is_looked_up h ≡ true → HaveSameJson r r'

-- what the instruction at that index reads of a root is the same in both
abbrev pub FindsSameBy : StackCode → Tree → Tree → ℕ → Instr → Type 0
FindsSameBy code r r' index (Root p) =
    (path : List Step) → slice_get code.paths p ≡ Some path → at path r ≡ at path r'
FindsSameBy code r r' index (Call h) =
    is_looked_up h ≡ true → HaveSameJson r r' ⊎ LiteralFindsSame code r r' index
FindsSameBy code r r' index (Jump target) = JumpFindsSame code r r' target
FindsSameBy code r r' index (Branch target) = JumpFindsSame code r r' target
FindsSameBy code r r' index (Each target) = JumpFindsSame code r r' target
FindsSameBy code r r' index (Next start) = JumpFindsSame code r r' start
FindsSameBy code r r' index i = Unit {0}

-- The instruction pushes what nobody reads: a text comes on top, and then `jsonPath` takes both and reads the text alone.
pub record IsUnread (code : StackCode) (index : ℕ) (i : Instr) : Type 0 where
  pub path : ℕ
  pub entry : ℕ
  pub pushes : i ≡ Root path
  pub next : slice_get code.instrs (suc index) ≡ Some (Text entry)
  pub taken : slice_get code.instrs (suc (suc index)) ≡ Some (Call JsonPath)

-- it pushes what nobody reads, or what it reads of a root is the same in both
abbrev pub FindsSameAt : StackCode → Tree → Tree → ℕ → Instr → Type 0
FindsSameAt code r r' index i = IsUnread code index i ⊎ FindsSameBy code r r' index i

-- and so for each instruction of the code
abbrev pub FindSame : StackCode → Tree → Tree → Type 0
FindSame code r r' =
    (index : ℕ) (i : Instr) → slice_get code.instrs index ≡ Some i → FindsSameAt code r r' index i
