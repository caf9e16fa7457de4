-- Which matchers can be built.
use Rattle.std.specs.Prelude.{◌≢◌, ◌⊎◌, ℕ, List, Option, Some, None, IfSome, IsSomeAnd}
use Rattle.regex.specs.Strings.{IsDefaultFailure}
use Rattle.regex.specs.declared.error.Error.{Error}
use Rattle.regex.specs.declared.error.Error.TheVariants.{OutOfMemory}
use Rattle.value_match.specs.Patterns.{IsPattern, whole_of}
use Rattle.value_match.specs.declared.value_spec.ValueSpec.{ValueSpec}
use Rattle.value_match.specs.declared.value_spec.ValueSpec.TheVariants as spec

abbrev pub pattern_of : ValueSpec → Option (List ℕ)
pattern_of (spec.Matches pattern) = Some pattern
pattern_of (spec.DoesNotMatch pattern) = Some pattern
pattern_of (spec.EqualTo text) = None
pattern_of (spec.EqualToIgnoringCase text) = None
pattern_of (spec.Contains text) = None
pattern_of (spec.DoesNotContain text) = None
pattern_of spec.Absent = None

-- the text is a pattern, by itself and as one of the whole value
abbrev pub IsPatternOfWhole : List ℕ → Type 0
IsPatternOfWhole source = IsPattern source × IsPattern (whole_of source)

-- the pattern of the matcher, if it has one, is such a pattern
abbrev pub HasPattern : ValueSpec → Type 0
HasPattern matcher = IfSome (pattern_of matcher) IsPatternOfWhole

-- `regex` may refuse the text, by its contracts, with an error that isn't about memory: they allow "too big" for each
-- pattern, so this holds of every text
abbrev pub IsRefused : List ℕ → Type 0
IsRefused source = (error : Error) × (error ≢ OutOfMemory) × IsDefaultFailure source error

-- so: the matcher has a pattern (which may be refused by itself or as one of the whole value)
abbrev pub MayBeRefused : ValueSpec → Type 0
MayBeRefused matcher = IsSomeAnd (pattern_of matcher) (λ source. IsRefused source ⊎ IsRefused (whole_of source))
