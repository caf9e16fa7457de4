-- For private clauses: the errors of body matchers by their rank in the order in which they are reported.
use Rattle.std.specs.Prelude.{◌≡◌, ℕ, ◌<◌, List, Any, Option, None, Some}
use Rattle.std.specs.List.{filter_map}
use Rattle.json_bridge.specs.Path.{IsPath}
use Rattle.json_bridge.specs.Reading.{IsJson, tree_of_text}
use Rattle.mapping_model.specs.declared.body_pattern.BodyPattern.{BodyPattern}
use Rattle.request_match.specs.Parts.Refusal.{matcher_in, text_in, path_in, HavePatterns, HaveJson, HaveTrees}
use Rattle.request_match.specs.Parts.Refusal.{HavePaths}
use Rattle.request_match.specs.declared.error.RequestMatchError.{RequestMatchError}
use Rattle.request_match.specs.declared.error.RequestMatchError.TheVariants.{BadUrl, BadPattern, NotJson}
use Rattle.request_match.specs.declared.error.RequestMatchError.TheVariants.{NumberNotWhole, BadPath, OutOfMemory}
use Rattle.value_match.specs.Refusal.{MayBeRefused}

abbrev pub rank_of : RequestMatchError → ℕ
rank_of OutOfMemory = 0
rank_of BadUrl = 1
rank_of BadPattern = 2
rank_of NotJson = 3
rank_of NumberNotWhole = 4
rank_of BadPath = 5

abbrev pub known_rank : Option RequestMatchError → ℕ
known_rank None = 6
known_rank (Some error) = rank_of error

-- what is tested before that rank holds
pub record Passed (n : ℕ) (patterns : List BodyPattern) : Type 0 where
  pub patterns_are : 2 < n → HavePatterns patterns
  pub json : 3 < n → HaveJson patterns
  pub trees : 4 < n → HaveTrees patterns
  pub paths : 5 < n → HavePaths patterns

abbrev pub Failed : RequestMatchError → List BodyPattern → Type 0
Failed OutOfMemory patterns = Unit {0}
Failed BadUrl patterns = ⊥
Failed BadPattern patterns = Any MayBeRefused (filter_map matcher_in patterns)
Failed NotJson patterns = Any (λ text. ¬ (IsJson text)) (filter_map text_in patterns)
Failed NumberNotWhole patterns = Any (λ text. tree_of_text text ≡ None) (filter_map text_in patterns)
Failed BadPath patterns = Any (λ path. ¬ (IsPath path)) (filter_map path_in patterns)

abbrev pub KnownFailed : Option RequestMatchError → List BodyPattern → Type 0
KnownFailed None patterns = Unit {0}
KnownFailed (Some error) patterns = Failed error patterns

-- the first error of the patterns, if they have one
pub record IsFirstError (known : Option RequestMatchError) (patterns : List BodyPattern) : Type 0 where
  pub passed : Passed (known_rank known) patterns
  pub failed : KnownFailed known patterns
