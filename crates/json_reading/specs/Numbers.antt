-- Which numbers a document may have, and the text of a value.
use Rattle.std.specs.Prelude.{◌≡◌, ℕ, List, Bool, true, is_some, if◌then◌else◌, IfSome}
use Rattle.json_bridge.specs.Reading.{tree_of_value}
use Rattle.json_reading.specs.Reading.{wrong_also}
use Rattle.json_reading.specs.declared.kind.Kind.TheVariants.{NumberNotWhole}
use Rattle.json_reading.specs.declared.reading.Reading.{Reading}
use Rattle.json_reading.specs.declared.reading.Reading.TheVariants.{Read, Wrong}
use Rattle.serde_json.specs.Data.{Data}
use Rattle.serde_json.specs.Read.{read}
use Rattle.serde_json.specs.Written.{compact_text}

-- `as_i64` or `as_u64` gives each number in the value, so it has a tree
abbrev pub is_taken : Data → Bool
is_taken d = is_some (tree_of_value d)

-- the reading of a value of which each number has to be taken
abbrev pub taken : {A : Type 0} → Data → Reading A → Reading A
taken d part = if is_taken d then part else wrong_also NumberNotWhole part

-- the value's compact text
abbrev pub json_text_of : Data → Reading (List ℕ)
json_text_of d = if is_taken d then Read (compact_text d) else Wrong NumberNotWhole

-- where the text is read as a value, each number of it is taken
abbrev pub IsWholeJson : List ℕ → Type 0
IsWholeJson text = IfSome (read text) (λ d. is_taken d ≡ true)
