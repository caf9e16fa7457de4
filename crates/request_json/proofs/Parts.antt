-- Parts that are put together, and lists that aren't left out.
use Rattle.std.proofs.Common.{◌≡◌, List, [], ◌∷◌, length, false, true≢false, ◌==◌, Some, None, Option}
use Rattle.std.proofs.Common.{option_map, is_some, ℕ, refl, ap, ◌∙◌}
use Rattle.json_reading.specs.Fields.{bytes_of, optional, text_of}
use Rattle.json_reading.specs.Reading.{both, either, read_map}
use Rattle.json_reading.specs.Written.{unless_empty}
use Rattle.json_reading.specs.declared.kind.Kind.{Kind}
use Rattle.json_reading.specs.declared.kind.Kind.TheVariants.{Misshapen}
use Rattle.json_reading.specs.declared.reading.Reading.{Reading}
use Rattle.json_reading.specs.declared.reading.Reading.TheVariants.{Read, Wrong}
use Rattle.request_json.specs.RequestReading.{reading_of_request}
use Rattle.request_json.specs.ValueReading.{word}
use Rattle.serde_json.specs.Data.{Data, null, boolean, number, string, array, object}
use Rattle.serde_json.specs.Find.{as_object, get}

pub both_are : {A B : Type 0} {a a' : Reading A} {b b' : Reading B} → a ≡ a' → b ≡ b'
    → both a b ≡ both a' b'
both_are p q = λ i. both (p i) (q i)

pub not_left_out : {A : Type 0} (xs : List A) (d : Data) → (length xs == 0) ≡ false → unless_empty xs d ≡ Some d
not_left_out [] d h = absurd (true≢false h)
not_left_out (x ∷ xs) d h = refl

-- what is no object spells no request
pub no_request : (d : Data) → is_some (as_object d) ≡ false → reading_of_request d ≡ Wrong Misshapen
no_request null e = refl
no_request (boolean b) e = refl
no_request (number n) e = refl
no_request (string s) e = refl
no_request (array ds) e = refl
no_request (object ms) e = absurd (true≢false e)

-- an absent word, beside what is found already
none_either : {A : Type 0} (kind : Kind) (found : Reading (Option A)) → either kind (Read None) found ≡ found
none_either kind (Read o) = refl
none_either kind (Wrong k) = refl

pub no_word : {A : Type 0} (kind : Kind) (name : List ℕ) (matcher : List ℕ → A) (d : Data)
    (found : Reading (Option A)) → get name d ≡ None → either kind (word name matcher d) found ≡ found
no_word kind name matcher d found absent =
    ap (λ o. either kind (read_map (option_map matcher) (optional text_of o)) found) absent ∙ none_either kind found

pub no_bytes : {A : Type 0} (kind : Kind) (name : List ℕ) (matcher : List ℕ → A) (d : Data)
    (found : Reading (Option A))
    → get name d ≡ None → either kind (read_map (option_map matcher) (optional bytes_of (get name d))) found
    ≡ found
no_bytes kind name matcher d found absent =
    ap (λ o. either kind (read_map (option_map matcher) (optional bytes_of o)) found) absent ∙ none_either kind found
