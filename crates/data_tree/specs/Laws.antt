-- Words of the laws that hold of every value.
use Rattle.std.specs.Prelude.{◌≡◌, ℕ, ◌≤◌, Bool, true, false, ◌⊎◌}
use Rattle.data_tree.specs.Tree.{Tree, nothing, named}
use Rattle.data_tree.specs.Json.{size}

-- no value, or one of at most that size. The size of no value is 5, which may be more than the size of the value that
-- it isn't found in, so a bound on what a step finds has both cases.
abbrev pub IsNothingOrWithin : ℕ → Tree → Type 0
IsNothingOrWithin limit t = (t ≡ nothing) ⊎ (size t ≤ limit)

abbrev pub is_named : Tree → Bool
is_named (named s ts ms) = true
is_named t = false
