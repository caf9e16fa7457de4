-- Which value matcher an object spells (WireMock, "Request Matching"): one word says how a value is compared.
use Rattle.std.specs.Prelude.{ℕ, List, [], ◌∷◌, Bool, true, false, Option, Some, None, option_map, codes}
use Rattle.json_reading.specs.Fields.{only, text_field, bool_field}
use Rattle.json_reading.specs.Reading.{both, read_map, read_then, either, needed}
use Rattle.json_reading.specs.declared.kind.Kind.TheVariants.{Misshapen}
use Rattle.json_reading.specs.declared.reading.Reading.{Reading}
use Rattle.json_reading.specs.declared.reading.Reading.TheVariants.{Read, Wrong}
use Rattle.serde_json.specs.Data.{Data}
use Rattle.value_match.specs.declared.value_spec.ValueSpec.{ValueSpec}
use Rattle.value_match.specs.declared.value_spec.ValueSpec.TheVariants.{EqualTo, EqualToIgnoringCase, Contains}
use Rattle.value_match.specs.declared.value_spec.ValueSpec.TheVariants.{DoesNotContain, Matches, DoesNotMatch, Absent}

-- the words of a value matcher
abbrev pub value_words : List (List ℕ)
value_words =
    codes "equalTo" ∷ codes "caseInsensitive" ∷ codes "contains" ∷ codes "doesNotContain" ∷ codes "matches"
    ∷ codes "doesNotMatch" ∷ codes "absent" ∷ []

-- the matcher of a word with a text, if the word is there
abbrev pub word : {A : Type 0} → List ℕ → (List ℕ → A) → Data → Reading (Option A)
word name matcher d = read_map (option_map matcher) (text_field name d)

-- `caseInsensitive` is a word of `equalTo` alone
abbrev pub equal_with : Option (List ℕ) → Option Bool → Reading (Option ValueSpec)
equal_with None None = Read None
equal_with None (Some ignoring) = Wrong Misshapen
equal_with (Some s) None = Read (Some (EqualTo s))
equal_with (Some s) (Some false) = Read (Some (EqualTo s))
equal_with (Some s) (Some true) = Read (Some (EqualToIgnoringCase s))

abbrev pub equal_in : Data → Reading (Option ValueSpec)
equal_in d =
    read_then (λ p. equal_with p.0 p.1)
    (both (text_field (codes "equalTo") d) (bool_field (codes "caseInsensitive") d))

-- `absent` is `true`
abbrev pub absent_with : Option Bool → Reading (Option ValueSpec)
absent_with None = Read None
absent_with (Some true) = Read (Some Absent)
absent_with (Some false) = Wrong Misshapen

abbrev pub absent_in : Data → Reading (Option ValueSpec)
absent_in d = read_then absent_with (bool_field (codes "absent") d)

-- the one matcher that the words of an object spell, if they spell one
abbrev pub value_in : Data → Reading (Option ValueSpec)
value_in d =
    either Misshapen (equal_in d)
    (either Misshapen (word (codes "contains") Contains d)
    (either Misshapen (word (codes "doesNotContain") DoesNotContain d)
    (either Misshapen (word (codes "matches") Matches d)
    (either Misshapen (word (codes "doesNotMatch") DoesNotMatch d) (absent_in d)))))

abbrev pub reading_of_value : Data → Reading ValueSpec
reading_of_value d = only value_words d (needed (value_in d))
