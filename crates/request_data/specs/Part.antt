-- The part of a request's data that is needed.
use Rattle.std.specs.Prelude.{ℕ, Bool, true, false, ◌||◌, List, [], ◌∷◌, Option, if◌then◌else◌, codes}
use Rattle.std.specs.Str.Lossy.{utf8_lossy}
use Rattle.data_tree.specs.Tree.{Tree, fields, Members, no_members, member}
use Rattle.json_bridge.specs.Part.{part}
use Rattle.mock_request.specs.Request.{Request}
use Rattle.needed_data.specs.Needed.{NeededData, is_json_needed, is_needed}
use Rattle.request_data.specs.RequestTree.{json_tree, request_fields}

-- the members whose names are needed
unfoldable pub kept : NeededData → Members → Members
kept needed no_members = no_members
kept needed (member name t ms) = if is_needed needed name then member name t (kept needed ms) else kept needed ms

-- the needed fields of the request
abbrev pub request_part : NeededData → Request → Option (List ℕ) → Members
request_part needed request template =
    member (codes "request") (fields (kept needed (request_fields request template))) no_members

abbrev pub is_some : List (List ℕ) → Bool
is_some [] = false
is_some (name ∷ names) = true

-- some of the body's data is needed
abbrev pub is_json_part_needed : NeededData → Bool
is_json_part_needed needed = is_json_needed needed || is_some needed.json_names

-- the body's data, or the part of it in which paths look that begin with the needed names
abbrev pub json_part : NeededData → List ℕ → Tree
json_part needed bytes = if is_json_needed needed then json_tree bytes else part needed.json_names (json_tree bytes)

-- the needed fields of the request, with what is needed of the body's data
abbrev pub part_tree : NeededData → Request → Option (List ℕ) → Tree
part_tree needed request template =
    fields (if is_json_part_needed needed
    then member (codes "json") (json_part needed (utf8_lossy request.body)) (request_part needed request template)
    else request_part needed request template)
