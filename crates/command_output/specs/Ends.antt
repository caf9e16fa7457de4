-- How a command ends: what standard output and standard error hold then, and the exit status.
use Rattle.std.specs.Prelude.{◌≡◌, ◌⊎◌, ℕ, List, Option}
use Rattle.std.specs.Io.KnownBytes.{Appends}
use Rattle.command_output.specs.Files.{AreDocuments, IsDocumentsError, file_error_line}
use Rattle.command_output.specs.Lines.{error_line}
use Rattle.command_output.specs.Output.{AppendsFront, AppendsPart}
use Rattle.command_output.specs.declared.error.CommandError.{CommandError}
use Rattle.command_output.specs.declared.files.FileError.{FileError}

module _ {O E : Type 0} (out_holds : O → Option (List ℕ)) (err_holds : E → Option (List ℕ)) where
  -- A text that may be given is on standard output, with its exit status; or an error that may be reported is on
  -- standard error (1), as far as the writer took its line; or standard output took a part of such a text (1). Each time
  -- the other of both is as it was.
  abbrev pub Ends : (List ℕ → ℕ → Type 0) → (CommandError → Type 0) → O → O → E → E → ℕ → Type 0
  Ends IsText IsError out out' err err' status =
      ((text : List ℕ) × IsText text status × Appends (out_holds out) (out_holds out') text × (err' ≡ err))
      ⊎ ((error : CommandError) × IsError error × (status ≡ 1)
      × AppendsFront (err_holds err) (err_holds err') (error_line error) × (out' ≡ out))
      ⊎ ((text : List ℕ) × (whole : ℕ) × IsText text whole × (status ≡ 1)
      × AppendsPart (out_holds out) (out_holds out') text × (err' ≡ err))

  -- The files that the path names are read, and it ends so for their documents; or an error in reading them is on
  -- standard error (1), as far as the writer took its line, and standard output is as it was. The files are known, or
  -- they aren't.
  abbrev pub EndsOnFiles : Option (List (List ℕ)) → (List ℕ → Option (List ℕ)) → List ℕ
      → (List (List ℕ) → O → O → E → E → ℕ → Type 0) → O → O → E → E → ℕ → Type 0
  EndsOnFiles listed known path ends out out' err err' status =
      ((documents : List (List ℕ)) × AreDocuments listed known documents × ends documents out out' err err' status)
      ⊎ ((error : FileError) × IsDocumentsError listed known error × (status ≡ 1)
      × AppendsFront (err_holds err) (err_holds err') (file_error_line path error) × (out' ≡ out))
