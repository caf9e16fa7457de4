-- Names with values, grouped by name: what a template sees of a query, of headers, of cookies, and of what a path
-- template binds.
use Rattle.std.specs.Prelude.{ℕ, List, [], ◌∷◌}
use Rattle.std.specs.Ordering.{nat_cmp, match_ordering}
use Rattle.std.specs.Cmp.Lexicographic.{slice_cmp}
use Rattle.data_tree.specs.Tree.{Tree, text, fields, named, Items, no_items, item, Members, no_members, member}
use Rattle.mock_request.specs.Values.{values_of, first_of}

abbrev pub texts : List (List ℕ) → Items
texts [] = no_items
texts (t ∷ ts) = item (text t) (texts ts)

-- one more name among names in byte order, unless it is there
abbrev pub with_name : List ℕ → List (List ℕ) → List (List ℕ)
with_name name [] = name ∷ []
with_name name (n ∷ ns) =
    match_ordering (slice_cmp nat_cmp name n) (name ∷ n ∷ ns) (n ∷ ns) (n ∷ with_name name ns)

-- the names of the pairs, each once, in byte order
abbrev pub names_in : List (List ℕ × List ℕ) → List (List ℕ)
names_in [] = []
names_in (pair ∷ pairs) = with_name pair.0 (names_in pairs)

-- each name with the tree of its values
abbrev pub members_under : (List (List ℕ) → Tree) → List (List ℕ) → List (List ℕ × List ℕ) → Members
members_under tree_of [] pairs = no_members
members_under tree_of (name ∷ names) pairs =
    member name (tree_of (values_of name pairs)) (members_under tree_of names pairs)

-- the first value, all values, and no fields
abbrev pub values_tree : List (List ℕ) → Tree
values_tree values = named (first_of values) (texts values) no_members

-- the names in byte order, each with its first value and all its values
abbrev pub grouped : List (List ℕ × List ℕ) → Tree
grouped pairs = fields (members_under values_tree (names_in pairs) pairs)

abbrev pub first_text : List (List ℕ) → Tree
first_text values = text (first_of values)

-- the names in byte order, each with its first value
abbrev pub firsts : List (List ℕ × List ℕ) → Members
firsts pairs = members_under first_text (names_in pairs) pairs
