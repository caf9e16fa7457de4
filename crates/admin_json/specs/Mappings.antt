-- The JSON of mappings of the book, as the calls under `/mappings` answer (WireMock's documentation, "Admin API").
use Rattle.std.specs.Prelude.{ℕ, List, length, map, codes}
use Rattle.admin_json.specs.Written.{json_of_meta}
use Rattle.mapping_json.specs.Writing.{json_of_id, json_of_mapping}
use Rattle.request_journal.specs.declared.mapping.Mapping.{Mapping}
use Rattle.serde_json.specs.Data.{Data, array, object, no_members, put}
use Rattle.serde_json.specs.View.{items_of}

-- the object with that id, in place of the one that its document may have given
abbrev pub with_id : List ℕ → Data → Data
with_id id (object ms) = object (put (codes "id") (json_of_id id) ms)
with_id id d = d

-- a mapping as it was written, under the id that the book knows it by
abbrev pub json_of_held : Mapping → Data
json_of_held mapping = with_id mapping.id (json_of_mapping mapping.spec)

abbrev pub json_of_list : List Mapping → Data
json_of_list mappings = array (items_of (map json_of_held mappings))

-- as {"mappings":[..],"meta":{"total":2}}, in the order that is given
abbrev pub json_of_mappings : List Mapping → Data
json_of_mappings mappings =
    object (put (codes "meta") (json_of_meta (length mappings))
    (put (codes "mappings") (json_of_list mappings) no_members))
