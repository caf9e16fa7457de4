-- Which matchers may be refused, and with which error: the errors in the order in which they are reported, each over
-- the whole matcher. All but two come only where the matcher has what they say. Out of memory may come at any time, and
-- a bad pattern where there is a pattern at all: no contract of `regex` says which are too big.
use Rattle.std.specs.Prelude.{◌⊎◌, List, ◌++◌, All, Any}
use Rattle.mapping_model.specs.declared.request_spec.RequestSpec.{RequestSpec}
use Rattle.request_match.specs.Parts.Refusal.{HasTemplate, url_matchers, matchers_of, IsBodyRefusal, HavePatterns}
use Rattle.request_match.specs.Parts.Refusal.{HaveTrees, HavePaths}
use Rattle.request_match.specs.declared.error.RequestMatchError.{RequestMatchError}
use Rattle.request_match.specs.declared.error.RequestMatchError.TheVariants.{BadUrl, BadPattern, NotJson}
use Rattle.request_match.specs.declared.error.RequestMatchError.TheVariants.{NumberNotWhole, BadPath, OutOfMemory}
use Rattle.value_match.specs.Refusal.{HasPattern, MayBeRefused}
use Rattle.value_match.specs.declared.value_spec.ValueSpec.{ValueSpec}

-- all value matchers but those of the body
abbrev pub head_matchers : RequestSpec → List ValueSpec
head_matchers spec =
    url_matchers spec.url ++ matchers_of spec.headers ++ matchers_of spec.query ++ matchers_of spec.cookies

-- the matcher may be refused with that error
abbrev pub IsRefusal : RequestSpec → RequestMatchError → Type 0
IsRefusal spec BadUrl = ¬ (HasTemplate spec.url)
IsRefusal spec BadPattern =
    HasTemplate spec.url × (Any MayBeRefused (head_matchers spec) ⊎ IsBodyRefusal spec.body BadPattern)
IsRefusal spec NotJson = HasTemplate spec.url × All HasPattern (head_matchers spec) × IsBodyRefusal spec.body NotJson
IsRefusal spec NumberNotWhole =
    HasTemplate spec.url × All HasPattern (head_matchers spec) × IsBodyRefusal spec.body NumberNotWhole
IsRefusal spec BadPath = HasTemplate spec.url × All HasPattern (head_matchers spec) × IsBodyRefusal spec.body BadPath
IsRefusal spec OutOfMemory = Unit {0}

-- the matcher has no error that comes only where it says: so it is of each matcher that was built
pub record CanBeBuilt (spec : RequestSpec) : Type 0 where
  pub template : HasTemplate spec.url
  pub head : All HasPattern (head_matchers spec)
  pub patterns : HavePatterns spec.body
  pub trees : HaveTrees spec.body
  pub paths : HavePaths spec.body
