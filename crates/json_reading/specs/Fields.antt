-- What the fields of an object say. Of a name that the text repeats, the last value alone is there.
use Rattle.std.specs.Prelude.{ℕ, List, Bool, Option, Some, None, if◌then◌else◌, [], ◌∷◌, true, ◌&&◌, Result, Ok, Err}
use Rattle.std.specs.List.{list_any}
use Rattle.std.specs.Str.{bytes_eq}
use Rattle.base64.specs.Engines.{standard}
use Rattle.base64.specs.GeneralPurpose.{decode_of}
use Rattle.base64.specs.declared.decode.DecodeError.{DecodeError}
use Rattle.json_reading.specs.Reading.{both, read_map, wrong_also}
use Rattle.json_reading.specs.declared.kind.Kind.TheVariants.{Unsupported, Misshapen}
use Rattle.json_reading.specs.declared.reading.Reading.{Reading}
use Rattle.json_reading.specs.declared.reading.Reading.TheVariants.{Read, Wrong}
use Rattle.serde_json.specs.Data.{Data, boolean, string, array, object, Items, no_items, item, Members}
use Rattle.serde_json.specs.Data.{no_members, member}
use Rattle.serde_json.specs.Find.{get}

-- each member's name is one of these
abbrev pub has_only : List (List ℕ) → Members → Bool
has_only names no_members = true
has_only names (member k d ms) = list_any (λ name. bytes_eq name k) names && has_only names ms

-- the reading of an object with no other fields than these
abbrev pub only : {A : Type 0} → List (List ℕ) → Data → Reading A → Reading A
only names (object ms) part = if has_only names ms then part else wrong_also Unsupported part
only names d part = Wrong Misshapen

-- the reading of a field, if it is there; in place of a value, `null` is one of another shape
abbrev pub optional : {A : Type 0} → (Data → Reading A) → Option Data → Reading (Option A)
optional reading None = Read None
optional reading (Some d) = read_map Some (reading d)

abbrev pub text_of : Data → Reading (List ℕ)
text_of (string s) = Read s
text_of d = Wrong Misshapen

abbrev pub bool_of : Data → Reading Bool
bool_of (boolean b) = Read b
bool_of d = Wrong Misshapen

-- bytes, written in base64 (RFC 4648, section 4) with padding
abbrev pub decoded : Result (List ℕ) DecodeError → Reading (List ℕ)
decoded (Ok bytes) = Read bytes
decoded (Err error) = Wrong Misshapen

abbrev pub bytes_of : Data → Reading (List ℕ)
bytes_of (string s) = decoded (decode_of standard s)
bytes_of d = Wrong Misshapen

abbrev pub text_field : List ℕ → Data → Reading (Option (List ℕ))
text_field name d = optional text_of (get name d)

abbrev pub bool_field : List ℕ → Data → Reading (Option Bool)
bool_field name d = optional bool_of (get name d)

-- the readings of the items of a list, and of the members of an object
abbrev pub each_item : {A : Type 0} → (Data → Reading A) → Items → Reading (List A)
each_item reading no_items = Read []
each_item reading (item d ds) = read_map (λ p. p.0 ∷ p.1) (both (reading d) (each_item reading ds))

abbrev pub each_member : {A : Type 0} → (List ℕ → Data → Reading A) → Members → Reading (List A)
each_member reading no_members = Read []
each_member reading (member k d ms) = read_map (λ p. p.0 ∷ p.1) (both (reading k d) (each_member reading ms))

abbrev pub list_of : {A : Type 0} → (Data → Reading A) → Data → Reading (List A)
list_of reading (array ds) = each_item reading ds
list_of reading d = Wrong Misshapen

abbrev pub members_of : {A : Type 0} → (List ℕ → Data → Reading A) → Data → Reading (List A)
members_of reading (object ms) = each_member reading ms
members_of reading d = Wrong Misshapen
