-- The words that are written for a value matcher.
use Rattle.std.specs.Prelude.{true, codes}
use Rattle.serde_json.specs.Data.{boolean, string, Members, put}
use Rattle.value_match.specs.declared.value_spec.ValueSpec.{ValueSpec}
use Rattle.value_match.specs.declared.value_spec.ValueSpec.TheVariants.{EqualTo, EqualToIgnoringCase, Contains}
use Rattle.value_match.specs.declared.value_spec.ValueSpec.TheVariants.{DoesNotContain, Matches, DoesNotMatch, Absent}

-- the members, with the words of the matcher
abbrev pub with_value : ValueSpec → Members → Members
with_value (EqualTo s) ms = put (codes "equalTo") (string s) ms
with_value (EqualToIgnoringCase s) ms =
    put (codes "caseInsensitive") (boolean true) (put (codes "equalTo") (string s) ms)
with_value (Contains s) ms = put (codes "contains") (string s) ms
with_value (DoesNotContain s) ms = put (codes "doesNotContain") (string s) ms
with_value (Matches s) ms = put (codes "matches") (string s) ms
with_value (DoesNotMatch s) ms = put (codes "doesNotMatch") (string s) ms
with_value Absent ms = put (codes "absent") (boolean true) ms
