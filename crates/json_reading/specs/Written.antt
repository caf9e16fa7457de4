-- Objects that are written: a field is there or left out. `put` keeps names in byte order.
use Rattle.std.specs.Prelude.{ℕ, List, [], ◌∷◌, Bool, true, false, Option, Some, None}
use Rattle.serde_json.specs.Data.{Data, boolean, Members, put}

-- the fields, with that one if it has a value
abbrev pub with_field : List ℕ → Option Data → Members → Members
with_field name None ms = ms
with_field name (Some d) ms = put name d ms

-- the fields, with a flag that is set; one that isn't is left out
abbrev pub with_flag : List ℕ → Bool → Members → Members
with_flag name true ms = put name (boolean true) ms
with_flag name false ms = ms

-- the value of a list; an empty one is left out
abbrev pub unless_empty : {A : Type 0} → List A → Data → Option Data
unless_empty [] d = None
unless_empty (x ∷ xs) d = Some d
