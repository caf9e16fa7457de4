-- Which pattern a matcher keeps.
use Rattle.std.specs.Prelude.{ℕ, List, Option, IfSome, IsSomeAnd}
use Rattle.std.specs.Global.{Box}
use Rattle.value_match.specs.declared.pattern.Pattern.{Pattern}
use Rattle.value_match.specs.declared.value_spec.ValueSpec.{ValueSpec}
use Rattle.value_match.specs.Inner.Engine.{IsReadFrom}
use Rattle.value_match.specs.Patterns.{whole_of}
use Rattle.value_match.specs.Refusal.{pattern_of}

-- it keeps a pattern that is read from this text
abbrev pub SearchesFor : List ℕ → Option (Box Pattern) → Type 0
SearchesFor source kept = IsSomeAnd kept (λ p. IsReadFrom source p.value.automaton)

-- it keeps its pattern of whole values, if it has one
abbrev pub Searches : ValueSpec → Option (Box Pattern) → Type 0
Searches matcher kept = IfSome (pattern_of matcher) (λ source. SearchesFor (whole_of source) kept)
