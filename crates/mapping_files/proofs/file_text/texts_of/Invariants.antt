-- The texts of the first values.
use Rattle.std.proofs.Common.{map, string_bytes, take}
use Rattle.std.specs.List.{AllZip}
use Rattle.mapping_files.specs.Saved.{IsDocumentText}
use Rattle.serde_json.specs.View.{view}
use Rattle.mapping_files.proofs.file_text.texts_of.Given as goal

abbrev pub invariant-loop-value : goal.invariant-loop-value
invariant-loop-value l =
    AllZip (λ value text. IsDocumentText (view value) text) (take l.value-index l.values) (map string_bytes l.texts.items)
