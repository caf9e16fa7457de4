-- For private clauses: which test a matcher keeps.
use Rattle.std.specs.Prelude.{◌≡◌, Some}
use Rattle.data_tree.specs.Tree.{view}
use Rattle.data_tree.specs.WellFormed.{IsWellFormed}
use Rattle.json_bridge.specs.Path.{SpellsPath}
use Rattle.json_bridge.specs.Reading.{tree_of_text}
use Rattle.json_match.specs.declared.json_matcher.Test.{Test}
use Rattle.json_match.specs.declared.json_matcher.Test.TheVariants as test
use Rattle.json_match.specs.declared.json_spec.JsonSpec.{JsonSpec}
use Rattle.json_match.specs.declared.json_spec.JsonSpec.TheVariants.{EqualTo, Path}

-- it keeps the tree of the expected text and the flags, or the steps of the path
abbrev pub IsTestOf : JsonSpec → Test → Type 0
IsTestOf (EqualTo expected any_order more) (test.EqualTo tree flags) =
    (tree_of_text expected ≡ Some (view tree)) × IsWellFormed (view tree)
    × (flags ≡ record { ignore_array_order = any_order; ignore_extra_elements = more })
IsTestOf (Path path) (test.Path steps) = SpellsPath path steps
IsTestOf spec kept = ⊥
