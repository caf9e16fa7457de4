-- Small values that answers are made of.
use Rattle.std.specs.Prelude.{ℕ, List, codes, map}
use Rattle.serde_json.specs.Data.{Data, number, unsigned, string, array, object, no_members, put}
use Rattle.serde_json.specs.View.{items_of}

abbrev pub json_of_count : ℕ → Data
json_of_count n = number (unsigned n)

abbrev pub json_of_texts : List (List ℕ) → Data
json_of_texts texts = array (items_of (map string texts))

-- an object with one member
abbrev pub only_member : List ℕ → Data → Data
only_member name d = object (put name d no_members)

-- how many there are, as {"total":3}
abbrev pub json_of_meta : ℕ → Data
json_of_meta n = only_member (codes "total") (json_of_count n)
