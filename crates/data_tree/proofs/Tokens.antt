-- The tokens that a tree's JSON text is written in, one after the other.
use Rattle.std.specs.Prelude.{List, [], ◌∷◌, ◌++◌, codes}
use Rattle.std.specs.Fmt.{signed_decimal}
use Rattle.json.specs.Token.{Token}
use Rattle.data_tree.specs.Tree.{Tree, nothing, truth, number, text, list, fields, named, Items, no_items, item}
use Rattle.data_tree.specs.Tree.{Members, no_members, member}

abbrev mutual
  pub tree_tokens : Tree → List Token
  tree_tokens nothing = Token.null ∷ []
  tree_tokens (truth b) = Token.boolean b ∷ []
  tree_tokens (number n) = Token.number (signed_decimal n) ∷ []
  tree_tokens (text s) = Token.string s ∷ []
  tree_tokens (list ts) = Token.begin_array ∷ items_tokens ts
  tree_tokens (fields ms) = Token.begin_object ∷ members_tokens ms
  -- an object of three members: its fields, its items, its text
  tree_tokens (named s ts ms) =
      Token.begin_object ∷ Token.key (codes "fields") ∷ Token.begin_object
      ∷ (members_tokens ms ++
      (Token.key (codes "items") ∷ Token.begin_array ∷
      (items_tokens ts ++ (Token.key (codes "text") ∷ Token.string s ∷ Token.end_object ∷ []))))

  -- with the closing bracket
  pub items_tokens : Items → List Token
  items_tokens no_items = Token.end_array ∷ []
  items_tokens (item t ts) = tree_tokens t ++ items_tokens ts

  pub members_tokens : Members → List Token
  members_tokens no_members = Token.end_object ∷ []
  members_tokens (member k t ms) = Token.key k ∷ (tree_tokens t ++ members_tokens ms)
