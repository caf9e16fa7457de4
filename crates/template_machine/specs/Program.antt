-- Which text is a program's, what a program keeps, and what rendering it gives.
use Rattle.std.specs.Prelude.{◌≡◌, ℕ, ◌<◌, ◌≤◌, List, [], length}
use Rattle.data_tree.specs.Tree.{Tree}
use Rattle.template_tree.specs.Tree.{Nodes}
use Rattle.template_tree.specs.Source.{Source}
use Rattle.template_tree.specs.Grammar.{Spells}
use Rattle.template_tree.specs.Meaning.{template_text}
use Rattle.template_code.specs.Code.{StackCode}
use Rattle.template_code.specs.Finds.{FindSame}
use Rattle.template_code.specs.declared.limits.TheConstants.{MAX_INSTRUCTIONS}
use Rattle.template_compile.specs.Compiled.{stack_code}
use Rattle.template_compile.specs.Correct.{WritesTextOf}

-- a program as contracts see it
pub record ProgramParts : Type 0 where
  pub source : Source
  pub code : StackCode

-- it spells a tree whose code isn't too long
abbrev pub IsProgramText : Source → Type 0
IsProgramText source =
    (tree : Nodes) × Spells source tree × (length (stack_code tree).instrs ≤ MAX_INSTRUCTIONS)

-- it spells a tree whose code is too long
abbrev pub IsTooLong : Source → Type 0
IsTooLong source = (tree : Nodes) × Spells source tree × (MAX_INSTRUCTIONS < length (stack_code tree).instrs)

-- the code is that of the tree that the source spells, and its runs write the tree's text
pub record IsProgram (p : ProgramParts) : Type 0 where
  pub tree : Nodes
  pub spelled : Spells p.source tree
  pub translated : p.code ≡ stack_code tree
  pub runs : WritesTextOf p.code tree

-- the code of the source's program, if it is one, finds the same in both roots
abbrev pub FindsSame : Source → Tree → Tree → Type 0
FindsSame source r r' = (p : ProgramParts) → IsProgram p → p.source ≡ source → FindSame p.code r r'

-- the text is the one that the source means over a root
pub record IsMeant (source : Source) (root : Tree) (text : List ℕ) : Type 0 where
  pub tree : Nodes
  pub spelled : Spells source tree
  pub same : text ≡ template_text tree root []
