-- Errors of the matcher are errors of the document.
use Rattle.std.proofs.Common.{◌≡◌, ℕ, List, Result, Ok, Err, IsErrAnd, IfErr, sym, subst}
use Rattle.json_reading.specs.declared.reading.Reading.TheVariants.{Read}
use Rattle.mapping_model.specs.declared.request_spec.RequestSpec.{RequestSpec}
use Rattle.mapping_json.specs.RequestErrors.{error_of_matcher}
use Rattle.mapping_json.specs.RequestRefusal.{Spells, IsRefused}
use Rattle.request_match.specs.Refusal.{IsRefusal}
use Rattle.request_match.specs.declared.error.RequestMatchError.{RequestMatchError}
use Rattle.request_match.specs.declared.error.RequestMatchError.TheVariants as refusal

pub refused : (text : List ℕ) (request : RequestSpec) (error : RequestMatchError) → Spells text (Read request)
    → IsRefusal request error → IsRefused text (error_of_matcher error)
refused text request refusal.BadUrl spelled is = (request, spelled, is)
refused text request refusal.BadPattern spelled is = (request, spelled, is)
refused text request refusal.NotJson spelled is = (request, spelled, is)
refused text request refusal.NumberNotWhole spelled is = (request, spelled, is)
refused text request refusal.BadPath spelled is = (request, spelled, is)
refused text request refusal.OutOfMemory spelled is = tt

pub err_is : {T E : Type 0} (r : Result T E) (x : E) (P : E → Type 0) → IsErrAnd r (λ e. e ≡ x)
    → P x → IfErr r P
err_is (Ok v) x P h p = absurd h
err_is (Err e) x P h p = subst P (sym h) p
