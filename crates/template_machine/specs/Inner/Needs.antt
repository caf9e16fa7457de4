-- When roots that are alike in the needed data are so in all that code finds.
use Rattle.std.specs.Prelude.{ℕ}
use Rattle.data_tree.specs.Tree.{Tree}
use Rattle.needed_data.specs.Needed.{NeededData, AreAlike}
use Rattle.template_code.specs.Code.{StackCode}
use Rattle.template_code.specs.Finds.{JumpFindsSame, FindsSameAt, FindSame}
use Rattle.template_code.specs.declared.instr.Instr.{Instr}

-- in what the instruction at that index finds
abbrev pub CoversInstr : NeededData → StackCode → ℕ → Instr → Type 0
CoversInstr needed code index i = (r r' : Tree) → AreAlike needed r r' → FindsSameAt code r r' index i

-- in what a jump to that index finds
abbrev pub CoversJump : NeededData → StackCode → ℕ → Type 0
CoversJump needed code target = (r r' : Tree) → AreAlike needed r r' → JumpFindsSame code r r' target

-- in what all instructions find
abbrev pub CoversCode : NeededData → StackCode → Type 0
CoversCode needed code = (r r' : Tree) → AreAlike needed r r' → FindSame code r r'
