-- For private clauses: what is left of the values of a name.
use Rattle.std.specs.Prelude.{ℕ, Bool, true, false, List, Any}
use Rattle.request_match.specs.Parts.Matching.{MeetsAny}
use Rattle.value_match.specs.Matching.{MatchesValue}
use Rattle.value_match.specs.declared.value_spec.ValueSpec.{ValueSpec}

-- the values that are left meet the matcher, where others didn't, or where there were none
abbrev pub MeetsRest : Bool → ValueSpec → List (List ℕ) → Type 0
MeetsRest true matcher values = Any (MatchesValue matcher) values
MeetsRest false matcher values = MeetsAny matcher values
