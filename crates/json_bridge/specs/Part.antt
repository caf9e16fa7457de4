-- The part of a JSON value that paths look at whose first step is one of some names.
use Rattle.std.specs.Prelude.{ℕ, Bool, List, cond}
use Rattle.std.specs.List.{list_any}
use Rattle.std.specs.Str.{bytes_eq}
use Rattle.data_tree.specs.Tree.{Tree, nothing, truth, number, text, list, fields, named, no_items, Members, no_members}
use Rattle.data_tree.specs.Tree.{member}

-- the name is one of them
abbrev pub is_kept : List (List ℕ) → List ℕ → Bool
is_kept names name = list_any (λ own. bytes_eq own name) names

-- the members whose names are so
abbrev pub kept : (List ℕ → Bool) → Members → Members
kept is_so no_members = no_members
kept is_so (member k t ms) = cond (is_so k) (member k t (kept is_so ms)) (kept is_so ms)

-- A name finds nothing in a list, so that of a list no item is kept.
abbrev pub part : List (List ℕ) → Tree → Tree
part names nothing = nothing
part names (truth b) = truth b
part names (number n) = number n
part names (text s) = text s
part names (list ts) = list no_items
part names (fields ms) = fields (kept (is_kept names) ms)
part names (named s ts ms) = named s ts ms
