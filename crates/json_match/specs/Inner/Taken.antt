-- For private clauses: items of which some are taken.
use Rattle.std.specs.Prelude.{ℕ, ◌+◌, Bool, true, false, List, [], ◌∷◌, Option, Some, None}
use Rattle.std.specs.Prelude.{if◌then◌else◌}
use Rattle.data_tree.specs.Tree.{Tree, Items, no_items, item}

-- the index of the first that isn't taken and passes the test, where the first of all has that index
abbrev pub first_left : (Tree → Bool) → ℕ → List Bool → Items → Option ℕ
first_left passes i [] ts = None
first_left passes i (b ∷ taken) no_items = None
first_left passes i (true ∷ taken) (item t ts) = first_left passes (i + 1) taken ts
first_left passes i (false ∷ taken) (item t ts) =
    if passes t then Some i else first_left passes (i + 1) taken ts
