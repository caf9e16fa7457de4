-- Errors of the crates below are errors of the mapping.
use Rattle.std.proofs.Common.{◌≡◌, inl, inr, Result, Ok, Err, IsErrAnd, IfErr, sym, subst}
use Rattle.json_reading.specs.declared.kind.Kind.{Kind}
use Rattle.json_reading.specs.declared.reading.Reading.TheVariants.{Read, Wrong}
use Rattle.mapping_json.specs.Errors.{error_of_request, error_of_template}
use Rattle.mapping_json.specs.Reading.{reading_of_mapping}
use Rattle.mapping_json.specs.Spelling.{IsDraftError, IsValueError}
use Rattle.mapping_json.specs.declared.draft.MappingDraft.{MappingDraft}
use Rattle.mapping_json.specs.declared.error.MappingError.{MappingError}
use Rattle.mapping_json.specs.declared.error.MappingError.TheVariants.{Document}
use Rattle.request_match.specs.Refusal.{CanBeBuilt, IsRefusal}
use Rattle.request_match.specs.declared.error.RequestMatchError.{RequestMatchError}
use Rattle.request_match.specs.declared.error.RequestMatchError.TheVariants as matcher
use Rattle.response_json.specs.Draft.{templates_of, IsFirstError}
use Rattle.serde_json.specs.Data.{Data}
use Rattle.template_tree.specs.declared.escape.Escape.{Escape}
use Rattle.template_machine.specs.declared.error.ProgramError.{ProgramError}
use Rattle.template_machine.specs.declared.error.ProgramError.TheVariants as template

pub err_is : {T E : Type 0} (r : Result T E) (x : E) (P : E → Type 0) → IsErrAnd r (λ e. e ≡ x)
    → P x → IfErr r P
err_is (Ok v) x P h p = absurd h
err_is (Err e) x P h p = subst P (sym h) p

pub request_error : (escape : Escape) (draft : MappingDraft) (error : RequestMatchError)
    → IsRefusal draft.request error → IsDraftError escape draft (error_of_request error)
request_error escape draft matcher.BadUrl f = f
request_error escape draft matcher.BadPattern f = f
request_error escape draft matcher.NotJson f = f
request_error escape draft matcher.NumberNotWhole f = f
request_error escape draft matcher.BadPath f = f
request_error escape draft matcher.OutOfMemory f = tt

pub template_error : (escape : Escape) (draft : MappingDraft) (error : ProgramError) → CanBeBuilt draft.request
    → IsFirstError (templates_of escape draft.response) error → IsDraftError escape draft (error_of_template error)
template_error escape draft (template.Template e) built f = (built, f)
template_error escape draft template.CodeTooLong built f = (built, f)
template_error escape draft (template.CodeRefused index rule) built f = (built, f)
template_error escape draft template.OutOfMemory built f = tt

-- what is wrong with the draft that is read is an error of the value
pub draft_error : (escape : Escape) (d : Data) (draft : MappingDraft) (error : MappingError)
    → reading_of_mapping d ≡ Read draft → IsDraftError escape draft error → IsValueError escape d error
draft_error escape d draft error read f = inl (draft, read, f)

pub wrong_value : (escape : Escape) (d : Data) (kind : Kind) → reading_of_mapping d ≡ Wrong kind
    → IsValueError escape d (Document kind)
wrong_value escape d kind wrong = inr wrong
