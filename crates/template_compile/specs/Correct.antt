-- When code is correct for a template: its runs write what the template means.
use Rattle.std.specs.Prelude.{ℕ, []}
use Rattle.data_tree.specs.Tree.{Tree}
use Rattle.data_tree.specs.LookUp.{EmptyNameFindsNothing}
use Rattle.template_tree.specs.Tree.{Nodes}
use Rattle.template_code.specs.Code.{StackCode}
use Rattle.template_code.specs.Machine.{Runs}
use Rattle.template_tree.specs.Meaning.{template_text}

-- over each root in which the empty name finds nothing, the run of the code ends, and it writes the template's text; no
-- loop is open outside of the template
abbrev pub WritesTextOf : StackCode → Nodes → Type 0
WritesTextOf code nodes =
    (root : Tree) → EmptyNameFindsNothing root → (steps : ℕ) × Runs code root steps (template_text nodes root [])
