-- With which error a condition may be refused: its pattern, path template, JSON or path isn't one, or memory is out. Of a
-- mapping that was built the first come only for a pattern that is too big, of which no contract of `regex` speaks.
use Rattle.std.specs.Prelude.{◌≡◌, ◌⊎◌, List, [], ◌∷◌, Any}
use Rattle.mapping_model.specs.declared.named_matcher.NamedMatcher.{NamedMatcher}
use Rattle.match_difference.specs.declared.condition.Condition.{Condition}
use Rattle.match_difference.specs.declared.condition.Condition.TheVariants as condition
use Rattle.path_template.specs.Template.{IsTemplate}
use Rattle.request_match.specs.Parts.Refusal.{IsUrlRefusal, IsBodyRefusal}
use Rattle.request_match.specs.declared.error.RequestMatchError.{RequestMatchError}
use Rattle.request_match.specs.declared.error.RequestMatchError.TheVariants.{BadUrl, BadPattern, OutOfMemory}
use Rattle.value_match.specs.Refusal.{MayBeRefused}

abbrev pub IsNamedRefusal : NamedMatcher → RequestMatchError → Type 0
IsNamedRefusal m error = (error ≡ OutOfMemory) ⊎ ((error ≡ BadPattern) × MayBeRefused m.matcher)

abbrev pub IsConditionRefusal : Condition → RequestMatchError → Type 0
IsConditionRefusal (condition.Method wanted) error = error ≡ OutOfMemory
IsConditionRefusal (condition.Url wanted) error = IsUrlRefusal wanted error
IsConditionRefusal (condition.Value source m) error = IsNamedRefusal m error
IsConditionRefusal (condition.PathParameter template m) error =
    IsNamedRefusal m error ⊎ ((error ≡ BadUrl) × ¬ (IsTemplate template))
IsConditionRefusal (condition.Body pattern) error = IsBodyRefusal (pattern ∷ []) error
IsConditionRefusal (condition.Scenario scenario) error = error ≡ OutOfMemory

-- one of the conditions is refused with that error, or memory is out
abbrev pub IsDifferenceRefusal : List Condition → RequestMatchError → Type 0
IsDifferenceRefusal conditions error = (error ≡ OutOfMemory) ⊎ Any (λ c. IsConditionRefusal c error) conditions
