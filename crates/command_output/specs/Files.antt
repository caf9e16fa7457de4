-- What a command knows of a file: its bytes, or nothing, where it isn't known what the file has; and which files there
-- are at a path. And the line of an error in reading them.
use Rattle.std.specs.Prelude.{◌≡◌, ◌⊎◌, ◌<◌, ◌≤◌, ℕ, List, length, Option, IfSome, ⊤, Contains}
use Rattle.std.specs.List.{AllZip}
use Rattle.command_output.specs.Lines.{error_line, out_of_memory, unreadable_line}
use Rattle.command_output.specs.declared.files.FileError.{FileError}
use Rattle.command_output.specs.declared.files.FileError.TheVariants.{CannotRead, OutOfMemory}
use Rattle.command_output.specs.declared.files.TheConstants.{FILE_LIMIT}

-- the bytes are the whole file, and within the limit
abbrev pub IsFile : Option (List ℕ) → List ℕ → Type 0
IsFile known bytes = IfSome known (λ all. bytes ≡ all) × (length bytes ≤ FILE_LIMIT)

-- a file of which the bytes are known can't be read only where it is over the limit
abbrev pub IsFileError : Option (List ℕ) → FileError → Type 0
IsFileError known (CannotRead reason) = IfSome known (λ all. FILE_LIMIT < length all)
IsFileError known OutOfMemory = ⊤

-- the documents at a path: of each of the files there, which are known or not, its bytes, in their order
pub record AreDocuments (listed : Option (List (List ℕ))) (known : List ℕ → Option (List ℕ))
    (documents : List (List ℕ)) : Type 0 where
  pub paths : List (List ℕ)
  pub all : IfSome listed (λ all. paths ≡ all)
  pub read : AllZip (λ path bytes. IsFile (known path) bytes) paths documents

-- memory is out, or one of the files can't be read; or it isn't known which files there are
abbrev pub IsDocumentsError : Option (List (List ℕ)) → (List ℕ → Option (List ℕ)) → FileError → Type 0
IsDocumentsError listed known error =
    (error ≡ OutOfMemory)
    ⊎ IfSome listed (λ all. (path : List ℕ) × Contains all path × IsFileError (known path) error)

-- the line of an error in reading the files at the path
abbrev pub file_error_line : List ℕ → FileError → List ℕ
file_error_line path (CannotRead reason) = unreadable_line path
file_error_line path OutOfMemory = error_line out_of_memory
