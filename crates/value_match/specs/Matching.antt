-- When a value meets a value matcher (WireMock, "Request Matching"). Without a value only `absent` holds.
use Rattle.std.specs.Prelude.{◌≡◌, ℕ, List, map, Option, Some, None}
use Rattle.std.specs.Char.{to_ascii_lowercase}
use Rattle.std.specs.Str.Iter.{HasSubslice}
use Rattle.value_match.specs.declared.value_spec.ValueSpec.{ValueSpec}
use Rattle.value_match.specs.declared.value_spec.ValueSpec.TheVariants as spec
use Rattle.value_match.specs.Patterns.{whole_of, FindsIn}

-- the value meets the matcher
abbrev pub MatchesValue : ValueSpec → List ℕ → Type 0
MatchesValue (spec.EqualTo text) value = value ≡ text
MatchesValue (spec.EqualToIgnoringCase text) value = map to_ascii_lowercase value ≡ map to_ascii_lowercase text
MatchesValue (spec.Contains text) value = HasSubslice value text
MatchesValue (spec.DoesNotContain text) value = ¬ (HasSubslice value text)
MatchesValue (spec.Matches pattern) value = FindsIn (whole_of pattern) value
MatchesValue (spec.DoesNotMatch pattern) value = ¬ (FindsIn (whole_of pattern) value)
MatchesValue spec.Absent value = ⊥

-- the same of a value that may be absent
abbrev pub Matches : ValueSpec → Option (List ℕ) → Type 0
Matches matcher (Some value) = MatchesValue matcher value
Matches spec.Absent None = Unit {0}
Matches (spec.EqualTo text) None = ⊥
Matches (spec.EqualToIgnoringCase text) None = ⊥
Matches (spec.Contains text) None = ⊥
Matches (spec.DoesNotContain text) None = ⊥
Matches (spec.Matches pattern) None = ⊥
Matches (spec.DoesNotMatch pattern) None = ⊥
