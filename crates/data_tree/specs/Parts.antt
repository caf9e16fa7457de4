-- The items of a value, as a loop goes over them, and the names that they have.
use Rattle.std.specs.Prelude.{ℕ, List, [], ◌∷◌}
use Rattle.data_tree.specs.Tree.{Tree, list, fields, named, Items, no_items, item, Members, no_members, member}

abbrev pub trees_of : Items → List Tree
trees_of no_items = []
trees_of (item t ts) = t ∷ trees_of ts

abbrev pub values_of : Members → List Tree
values_of no_members = []
values_of (member k t ms) = t ∷ values_of ms

abbrev pub names_of : Members → List (List ℕ)
names_of no_members = []
names_of (member k t ms) = k ∷ names_of ms

-- a list's elements, an object's values, a named text's items
abbrev pub items : Tree → List Tree
items (list ts) = trees_of ts
items (fields ms) = values_of ms
items (named s ts ms) = trees_of ts
items t = []

-- the names of the items: an object's alone have some
abbrev pub keys : Tree → List (List ℕ)
keys (fields ms) = names_of ms
keys t = []
