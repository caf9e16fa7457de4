-- The numbers of a response are judged with the rest.
use Rattle.std.proofs.Common.{◌≡◌, Bool, false, true≢false, is_some, if◌then◌else◌, refl, ap}
use Rattle.json_reading.specs.Reading.{wrong_also}
use Rattle.json_reading.specs.declared.kind.Kind.TheVariants.{NumberNotWhole, Misshapen}
use Rattle.json_reading.specs.declared.reading.Reading.TheVariants.{Wrong}
use Rattle.response_json.specs.Reading.{reading_of_response, spelled_response, are_taken}
use Rattle.serde_json.specs.Data.{Data, null, boolean, number, string, array, object}
use Rattle.serde_json.specs.Find.{as_object}

pub judged : (d : Data) (b : Bool) → are_taken d ≡ b
    → reading_of_response d ≡ (if b then spelled_response d else wrong_also NumberNotWhole (spelled_response d))
unfolding reading_of_response
judged d b e = ap (λ x. if x then spelled_response d else wrong_also NumberNotWhole (spelled_response d)) e

-- what is no object spells no response
pub not_spelled : (d : Data) → is_some (as_object d) ≡ false → spelled_response d ≡ Wrong Misshapen
not_spelled null e = refl
not_spelled (boolean b) e = refl
not_spelled (number n) e = refl
not_spelled (string s) e = refl
not_spelled (array ds) e = refl
not_spelled (object ms) e = absurd (true≢false e)
