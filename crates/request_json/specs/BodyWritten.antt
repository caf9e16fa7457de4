-- The object that is written for a body matcher. An expected JSON text is written compactly, and as a text, so that
-- nothing nests deeper than it was read.
use Rattle.std.specs.Prelude.{ℕ, List, Bool, Option, Some, None, codes}
use Rattle.base64.specs.Engines.{standard}
use Rattle.base64.specs.GeneralPurpose.{encode_of}
use Rattle.json_match.specs.declared.json_spec.JsonSpec.{JsonSpec}
use Rattle.json_match.specs.declared.json_spec.JsonSpec.TheVariants as json
use Rattle.json_reading.specs.Numbers.{json_text_of}
use Rattle.json_reading.specs.Written.{with_flag}
use Rattle.json_reading.specs.declared.reading.Reading.{Reading}
use Rattle.json_reading.specs.declared.reading.Reading.TheVariants.{Read, Wrong}
use Rattle.mapping_model.specs.declared.body_pattern.BodyPattern.{BodyPattern}
use Rattle.mapping_model.specs.declared.body_pattern.BodyPattern.TheVariants.{Value, BinaryEqualTo, Json, JsonPath}
use Rattle.request_json.specs.ValueWritten.{with_value}
use Rattle.serde_json.specs.Data.{Data, string, object, Members, no_members, put}
use Rattle.serde_json.specs.Read.{read}

-- the compact text of the JSON text; a text that is none, or has a number that isn't taken, as it is
abbrev pub text_or : List ℕ → Reading (List ℕ) → List ℕ
text_or s (Read text) = text
text_or s (Wrong kind) = s

abbrev pub compact_or : List ℕ → Option Data → List ℕ
compact_or s None = s
compact_or s (Some d) = text_or s (json_text_of d)

unfoldable pub written_expected : List ℕ → List ℕ
written_expected s = compact_or s (read s)

abbrev pub with_expected : List ℕ → Bool → Bool → Members → Members
with_expected expected any_order more ms =
    with_flag (codes "ignoreExtraElements") more
    (with_flag (codes "ignoreArrayOrder") any_order
    (put (codes "equalToJson") (string (written_expected expected)) ms))

abbrev pub with_json : JsonSpec → Members → Members
with_json (json.EqualTo expected any_order more) ms = with_expected expected any_order more ms
with_json (json.Path path) ms = put (codes "matchesJsonPath") (string path) ms

-- the members, with the words of the matcher
abbrev pub with_pattern : BodyPattern → Members → Members
with_pattern (Value matcher) ms = with_value matcher ms
with_pattern (BinaryEqualTo bytes) ms = put (codes "binaryEqualTo") (string (encode_of standard bytes)) ms
with_pattern (Json matcher) ms = with_json matcher ms
with_pattern (JsonPath expression matcher) ms =
    put (codes "matchesJsonPath")
    (object (with_value matcher (put (codes "expression") (string expression) no_members))) ms

abbrev pub json_of_pattern : BodyPattern → Data
json_of_pattern pattern = object (with_pattern pattern no_members)
