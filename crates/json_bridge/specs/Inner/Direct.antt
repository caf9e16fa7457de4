-- For private clauses: the tree of a JSON value, made straight from what its tokens spell. Each number in it is whole,
-- also in values that a repeated name gives up.
use Rattle.std.specs.Prelude.{◌≡◌, ◌≤◌, length, ℕ, zero, suc, ℤ, List, [], ◌∷◌, Option, Some, option_map, option_and_then}
use Rattle.std.specs.Cmp.Lexicographic.{slice_cmp}
use Rattle.std.specs.Ordering.{nat_cmp, match_ordering}
use Rattle.std.specs.declared.cmp.Ordering.TheVariants.{Less, Equal, Greater}
use Rattle.json.specs.Json as json
use Rattle.json.specs.Token.{Token}
use Rattle.serde_json.specs.Read.{number_of, converted}
use Rattle.data_tree.specs.Tree.{Tree, nothing, truth, number, text, list, fields, Items, no_items, item, Members}
use Rattle.data_tree.specs.Tree.{no_members, member, members_view, view}
use Rattle.data_tree.specs.declared.data.Data.{Data}
use Rattle.data_tree.specs.Parts.{names_of}
use Rattle.data_tree.specs.WellFormed.{IsAscending}
use Rattle.json_bridge.specs.Reading.{whole_number}
use Rattle.json_bridge.specs.declared.direct.TheConstants.{FEW}

-- the number that a text spells, where it is whole and fits
abbrev pub whole_of : List ℕ → Option ℤ
whole_of s = option_and_then whole_number (number_of s)

-- the members, with t at k
abbrev pub put : List ℕ → Tree → Members → Members
put k t no_members = member k t no_members
put k t (member l u ms) =
    match_ordering (slice_cmp nat_cmp k l) (member k t (member l u ms)) (member l t ms) (member l u (put k t ms))

-- the same of each of these, one after the other
abbrev pub put_all : List (List ℕ × Data) → Members → Members
put_all [] ms = ms
put_all (m ∷ more) ms = put_all more (put m.0 (view m.1) ms)

abbrev mutual
  pub tree_of_json : json.Json → Option Tree
  tree_of_json json.null = Some nothing
  tree_of_json (json.boolean b) = Some (truth b)
  tree_of_json (json.number s) = option_map number (whole_of s)
  tree_of_json (json.string s) = Some (text s)
  tree_of_json (json.array js) = option_map list (items_of_json js)
  tree_of_json (json.object ms) = option_map fields (members_of_json ms no_members)

  pub items_of_json : json.Items → Option Items
  items_of_json json.no_items = Some no_items
  items_of_json (json.item j js) = option_and_then (λ t. option_map (item t) (items_of_json js)) (tree_of_json j)

  -- the last value of a name stays
  pub members_of_json : json.Members → Members → Option Members
  members_of_json json.no_members found = Some found
  members_of_json (json.member k j ms) found =
      option_and_then (λ t. members_of_json ms (put k t found)) (tree_of_json j)

-- what the grammar reads has a tree
abbrev pub HasTree : Option (json.Json × List Token) → List Token → Type 0
HasTree read rest = (t : Tree) × (converted tree_of_json read ≡ Some (t, rest))

abbrev pub HaveTrees : Option (json.Items × List Token) → List Token → Type 0
HaveTrees read rest = (ts : Items) × (converted items_of_json read ≡ Some (ts, rest))

abbrev pub HasMembers : Option (json.Members × List Token) → Members → List Token → Type 0
HasMembers read ms rest = converted (λ found. members_of_json found no_members) read ≡ Some (ms, rest)

-- k is the name of the member after these
abbrev pub IsFoundAt : List ℕ → ℕ → List (List ℕ × Data) → Type 0
IsFoundAt k zero [] = ⊥
IsFoundAt k zero (m ∷ ms) = slice_cmp nat_cmp k m.0 ≡ Equal
IsFoundAt k (suc n) [] = ⊥
IsFoundAt k (suc n) (m ∷ ms) = (slice_cmp nat_cmp k m.0 ≡ Greater) × IsFoundAt k n ms

-- k is before all others
abbrev pub BelongsAt : List ℕ → ℕ → List (List ℕ × Data) → Type 0
BelongsAt k zero [] = Unit {0}
BelongsAt k zero (m ∷ ms) = slice_cmp nat_cmp k m.0 ≡ Less
BelongsAt k (suc n) [] = ⊥
BelongsAt k (suc n) (m ∷ ms) = (slice_cmp nat_cmp k m.0 ≡ Greater) × BelongsAt k n ms

-- the last of the members, if there is one, is before k
abbrev pub EndBefore : List (List ℕ × Data) → List ℕ → Type 0
EndBefore [] k = Unit {0}
EndBefore (m ∷ []) k = slice_cmp nat_cmp m.0 k ≡ Less
EndBefore (m ∷ n ∷ ms) k = EndBefore (n ∷ ms) k

-- where they are few, they are in the order of their names
abbrev pub AreFewInOrder : List (List ℕ × Data) → Type 0
AreFewInOrder ms = length ms ≤ FEW → IsAscending (names_of (members_view ms))
