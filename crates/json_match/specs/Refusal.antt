-- Which matchers can't be built, and why.
use Rattle.std.specs.Prelude.{◌≡◌, None, IsSome}
use Rattle.json_bridge.specs.Path.{IsPath}
use Rattle.json_bridge.specs.Reading.{IsJson, tree_of_text}
use Rattle.json_match.specs.declared.json_spec.JsonSpec.{JsonSpec}
use Rattle.json_match.specs.declared.json_spec.JsonSpec.TheVariants.{EqualTo, Path}

-- its expected text isn't JSON
abbrev pub IsNotJson : JsonSpec → Type 0
IsNotJson (EqualTo expected any_order more) = ¬ (IsJson expected)
IsNotJson (Path path) = ⊥

-- its expected text is JSON, but a number in it isn't written as a whole number, or doesn't fit 64 bits
abbrev pub HasNumberNotWhole : JsonSpec → Type 0
HasNumberNotWhole (EqualTo expected any_order more) = IsJson expected × (tree_of_text expected ≡ None)
HasNumberNotWhole (Path path) = ⊥

-- its path isn't one
abbrev pub HasBadPath : JsonSpec → Type 0
HasBadPath (EqualTo expected any_order more) = ⊥
HasBadPath (Path path) = ¬ (IsPath path)

-- none of these
abbrev pub CanBeBuilt : JsonSpec → Type 0
CanBeBuilt (EqualTo expected any_order more) = IsSome (tree_of_text expected)
CanBeBuilt (Path path) = IsPath path
