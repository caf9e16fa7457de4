-- The book that `mock serve` opens with files of mappings.
use Rattle.std.specs.Prelude.{◌≡◌, ◌≢◌, ◌⊎◌, ◌≤◌, ℕ, Bool, false, true, List, [], ◌∷◌, ◌++◌, length, Option, None}
use Rattle.std.specs.Prelude.{Some, Result, Ok, Err, ◌-◌, ⊤, unwrap_or}
use Rattle.command_output.specs.Files.{AreDocuments}
use Rattle.mapping_commands.specs.Answering.{SpellDocuments}
use Rattle.mapping_json.specs.Documents.{AreResults, IsOuterError}
use Rattle.mapping_json.specs.declared.error.MappingError.{MappingError}
use Rattle.mapping_json.specs.declared.error.MappingError.TheVariants.{OutOfMemory}
use Rattle.mapping_model.specs.declared.mapping_spec.MappingSpec.{MappingSpec}
use Rattle.request_journal.specs.Live.{live}
use Rattle.request_journal.specs.Past.{Past, opened}
use Rattle.request_journal.specs.declared.limits.TheConstants.{LIVE_LIMIT}
use Rattle.template_tree.specs.declared.escape.Escape.{Escape}

-- ---- where refused mappings are left out

-- the mappings among what is read of values
abbrev pub accepted_of : List (Result MappingSpec MappingError) → List MappingSpec
accepted_of [] = []
accepted_of (Ok mapping ∷ results) = mapping ∷ accepted_of results
accepted_of (Err error ∷ results) = accepted_of results

-- the document is no list of mappings
abbrev pub IsNoList : List ℕ → Type 0
IsNoList bytes = (error : MappingError) × IsOuterError bytes error × (error ≢ OutOfMemory)

-- those of a document: none, where it is no list of mappings
abbrev pub AreAccepted : Escape → List ℕ → List MappingSpec → Type 0
AreAccepted escape bytes mappings =
    ((results : List (Result MappingSpec MappingError)) × AreResults escape bytes results
    × (mappings ≡ accepted_of results))
    ⊎ (IsNoList bytes × (mappings ≡ []))

-- those of one document after those of the one before
abbrev pub SpellAccepted : Escape → List (List ℕ) → List MappingSpec → Type 0
SpellAccepted escape [] mappings = mappings ≡ []
SpellAccepted escape (bytes ∷ documents) mappings =
    (own : List MappingSpec) × (rest : List MappingSpec) × AreAccepted escape bytes own
    × SpellAccepted escape documents rest × (mappings ≡ own ++ rest)

-- ---- the book

-- the mappings that are served of documents: each value spells its mapping; or, where those that are refused are left
-- out, the others
abbrev pub AreServed : Bool → Escape → List (List ℕ) → List MappingSpec → Type 0
AreServed false escape documents mappings = SpellDocuments escape documents mappings
AreServed true escape documents mappings = SpellAccepted escape documents mappings

-- the number before that of the first event; if none is asked for, it is made so that ids don't collide, of which
-- nothing is said here
abbrev pub IsOpening : Option ℕ → ℕ → Type 0
IsOpening None opening = ⊤
IsOpening (Some first) opening = opening ≡ first - 1

-- a book with these mappings, and no event yet
abbrev pub IsOpenedWith : Option ℕ → Bool → Escape → List (List ℕ) → Past → Type 0
IsOpenedWith asked skips escape documents past =
    (opening : ℕ) × (mappings : List MappingSpec) × IsOpening asked opening
    × AreServed skips escape documents mappings × (past ≡ opened opening mappings) × (length (live past) ≤ LIVE_LIMIT)

-- With the mappings of the documents at the path, one document after another; or with none without a path. Which files
-- a path names, and what a file has, are known or not.
abbrev pub IsServedBook : Option ℕ → Bool → Escape → Option (List ℕ) → (List ℕ → Option (List (List ℕ)))
    → (List ℕ → Option (List ℕ)) → Past → Type 0
IsServedBook asked skips escape None listed known past = past ≡ opened (unwrap_or asked 1 - 1) []
IsServedBook asked skips escape (Some path) listed known past =
    (documents : List (List ℕ)) × AreDocuments (listed path) known documents
    × IsOpenedWith asked skips escape documents past
