-- The compact JSON text of a tree (RFC 8259, with no blanks and with the escapes of `serde_json`), and its size.
use Rattle.std.specs.Prelude.{ℕ, ◌+◌, Bool, true, false, List, [], ◌++◌, length, codes}
use Rattle.std.specs.Fmt.{signed_decimal}
use Rattle.json.specs.Print.{quoted}
use Rattle.data_tree.specs.Tree.{Tree, nothing, truth, number, text, list, fields, named, Items, no_items, item}
use Rattle.data_tree.specs.Tree.{Members, no_members, member}

abbrev pub truth_text : Bool → List ℕ
truth_text true = codes "true"
truth_text false = codes "false"

-- a comma before each part but the first
abbrev pub comma_if : Bool → List ℕ
comma_if true = codes ","
comma_if false = []

abbrev mutual
  pub json : Tree → List ℕ
  json nothing = codes "null"
  json (truth b) = truth_text b
  json (number n) = signed_decimal n
  json (text s) = quoted s
  json (list ts) = codes "[" ++ (items_json false ts ++ codes "]")
  json (fields ms) = codes "{" ++ (members_json false ms ++ codes "}")
  -- an object of three members: its fields, its items, its text
  json (named s ts ms) =
      codes "{\"fields\":{" ++ (members_json false ms
      ++ (codes "},\"items\":[" ++ (items_json false ts
      ++ (codes "],\"text\":" ++ (quoted s ++ codes "}")))))

  pub items_json : Bool → Items → List ℕ
  items_json later no_items = []
  items_json later (item t ts) = comma_if later ++ (json t ++ items_json true ts)

  pub members_json : Bool → Members → List ℕ
  members_json later no_members = []
  members_json later (member k t ms) = comma_if later ++ (quoted k ++ (codes ":" ++ (json t ++ members_json true ms)))

-- the length of the JSON text in bytes, plus 1
abbrev pub size : Tree → ℕ
size t = length (json t) + 1
