-- The text of a file of mappings that were another document's, as a server's list of them is one.
use Rattle.std.specs.Prelude.{◌≡◌, ◌≤◌, ℕ, List, [], ◌∷◌, ◌++◌, Some, codes, decimal, flat_map, length, reverse}
use Rattle.std.specs.List.{AllZip}
use Rattle.json_reading.specs.Document.{IsDocument}
use Rattle.mapping_json.specs.Documents.{mappings_in}
use Rattle.mapping_files.specs.declared.file_text.Listed.{Listed}
use Rattle.mapping_files.specs.declared.file_text.Listed.TheVariants.{NewestFirst, OldestFirst}
use Rattle.serde_json.specs.Data.{Data, depth}
use Rattle.serde_json.specs.Read.{max_depth, read}
use Rattle.serde_json.specs.Written.{IsInOrder}

-- the text has the value's items and members, each once and in order; and it is read back as this very value
abbrev pub IsDocumentText : Data → List ℕ → Type 0
IsDocumentText d text = IsInOrder text d × (depth d ≤ max_depth → read text ≡ Some d)

-- a text after another
abbrev pub next_text : List ℕ → List ℕ
next_text text = codes ",\n" ++ text

-- an object with a list `mappings` of these texts, each on a line
abbrev pub file_text : List (List ℕ) → List ℕ
file_text [] = codes "{\"mappings\":[]}\n"
file_text (text ∷ texts) = codes "{\"mappings\":[\n" ++ (text ++ (flat_map next_text texts ++ codes "\n]}\n"))

-- the oldest first
abbrev pub in_order : Listed → List (List ℕ) → List (List ℕ)
in_order OldestFirst texts = texts
in_order NewestFirst texts = reverse texts

-- the text of a file with the mappings of the document, the oldest first, and how many they are
abbrev pub IsFileText : Listed → List ℕ → List ℕ → ℕ → Type 0
IsFileText listed document text count =
    (d : Data) × (values : List Data) × (texts : List (List ℕ)) × IsDocument document d
    × (mappings_in d ≡ Some values) × AllZip IsDocumentText values texts × (text ≡ file_text (in_order listed texts))
    × (count ≡ length values)

-- as `saved 4 mappings`
abbrev pub saved_line : ℕ → List ℕ
saved_line count = codes "saved " ++ (decimal count ++ codes " mappings\n")
