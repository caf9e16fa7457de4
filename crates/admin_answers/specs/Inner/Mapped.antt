-- The text of a mapping.
use Rattle.std.specs.Prelude.{ℕ, List}
use Rattle.admin_json.specs.Mappings.{json_of_held}
use Rattle.request_journal.specs.declared.mapping.Mapping.{Mapping}
use Rattle.serde_json.specs.Written.{compact_text}

abbrev pub text_of_mapping : Mapping → List ℕ
text_of_mapping mapping = compact_text (json_of_held mapping)
