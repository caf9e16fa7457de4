-- A book that was just opened with the mappings of documents.
use Rattle.std.specs.Prelude.{◌≡◌, ◌≤◌, ℕ, List, length}
use Rattle.mapping_commands.specs.Answering.{SpellDocuments}
use Rattle.mapping_model.specs.declared.mapping_spec.MappingSpec.{MappingSpec}
use Rattle.request_journal.specs.Live.{live}
use Rattle.request_journal.specs.Past.{Past, opened}
use Rattle.request_journal.specs.declared.limits.TheConstants.{LIVE_LIMIT}
use Rattle.template_tree.specs.declared.escape.Escape.{Escape}

-- the past of a book that was just opened with the documents' mappings, whose templates' prints are escaped so
abbrev pub IsFresh : Escape → List (List ℕ) → Past → Type 0
IsFresh escape documents past =
    (mappings : List MappingSpec) × SpellDocuments escape documents mappings × (past ≡ opened 0 mappings)
    × (length (live past) ≤ LIVE_LIMIT)
