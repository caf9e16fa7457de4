-- The rules that whoever makes a value keeps: an object's names in byte order, each once, and numbers from -2^63 to
-- 2^64 - 1.
use Rattle.std.specs.Prelude.{◌≡◌, ℕ, ◌-◌, ◌^◌, pos, negsuc, ◌≤ℤ◌, List, [], ◌∷◌}
use Rattle.std.specs.Ordering.{nat_cmp}
use Rattle.std.specs.declared.cmp.Ordering.TheVariants.{Less}
use Rattle.std.specs.Cmp.Lexicographic.{slice_cmp}
use Rattle.data_tree.specs.Tree.{Tree, nothing, truth, number, text, list, fields, named, Items, no_items, item}
use Rattle.data_tree.specs.Tree.{Members, no_members, member}
use Rattle.data_tree.specs.Parts.{names_of}

abbrev pub IsAscending : List (List ℕ) → Type 0
IsAscending [] = Unit {0}
IsAscending (name ∷ []) = Unit {0}
IsAscending (name ∷ next ∷ names) = (slice_cmp nat_cmp name next ≡ Less) × IsAscending (next ∷ names)

abbrev mutual
  pub IsWellFormed : Tree → Type 0
  IsWellFormed nothing = Unit {0}
  IsWellFormed (truth b) = Unit {0}
  IsWellFormed (number n) = (negsuc (2 ^ 63 - 1) ≤ℤ n) × (n ≤ℤ pos (2 ^ 64 - 1))
  IsWellFormed (text s) = Unit {0}
  IsWellFormed (list ts) = AreWellFormed ts
  IsWellFormed (fields ms) = IsAscending (names_of ms) × HaveWellFormedValues ms
  IsWellFormed (named s ts ms) = AreWellFormed ts × IsAscending (names_of ms) × HaveWellFormedValues ms

  -- so are the items
  pub AreWellFormed : Items → Type 0
  AreWellFormed no_items = Unit {0}
  AreWellFormed (item t ts) = IsWellFormed t × AreWellFormed ts

  -- so are the values
  pub HaveWellFormedValues : Members → Type 0
  HaveWellFormedValues no_members = Unit {0}
  HaveWellFormedValues (member name t ms) = IsWellFormed t × HaveWellFormedValues ms
