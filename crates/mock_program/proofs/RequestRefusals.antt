-- What is refused of a request without headers and body.
use Rattle.std.proofs.Common.{◌≡◌, ℕ, ◌⊎◌, List, None, inl, inr, refl}
use Rattle.data_tree.specs.RequestData as data_error
use Rattle.data_tree.specs.Tree.{Tree}
use Rattle.data_tree.specs.declared.request_data.DataError.{DataError}
use Rattle.data_tree.specs.declared.request_data.DataError.TheVariants.{TooLarge, OutOfMemory as DataOutOfMemory}
use Rattle.request_data.specs.RequestTree as request_data
use Rattle.mock_request.specs.SnapshotError as snapshot_error
use Rattle.mock_request.specs.Target.{HasUrl}
use Rattle.mock_request.specs.declared.error.SnapshotError.{SnapshotError}
use Rattle.mock_request.specs.declared.error.SnapshotError.TheVariants.{BadUrl, BodyTooLarge, OutOfMemory}
use Rattle.template_machine.specs.Program.{IsProgramText}
use Rattle.template_tree.specs.Source.{Source}
use Rattle.command_output.specs.Lines.{out_of_memory}
use Rattle.mock_program.specs.Rendering.{IsDataOf, IsRenderError, RefusesUrl, RefusesData}
use Rattle.command_output.specs.declared.error.CommandError.{CommandError}

abbrev pub IsPlainRefusal : List ℕ → List ℕ → CommandError → Type 0
IsPlainRefusal method target error =
    RefusesUrl target error ⊎ RefusesData method target error ⊎ (error ≡ out_of_memory)

-- the body is empty, so it isn't too large
pub of_snapshot : (method target : List ℕ) (e : SnapshotError) → (e ≡ BadUrl → ¬ (HasUrl target))
    → ¬ (e ≡ BodyTooLarge)
    → IsPlainRefusal method target (record { code = snapshot_error.error_code_of e; at = None })
of_snapshot method target BadUrl none small = inl (none refl, refl)
of_snapshot method target BodyTooLarge none small = absurd (small refl)
of_snapshot method target OutOfMemory none small = inr (inr refl)

pub of_data : (method target : List ℕ) (root : Tree) (e : DataError) → IsDataOf method target root
    → request_data.IsDataRefusal root e
    → IsPlainRefusal method target (record { code = data_error.error_code_of e; at = None })
of_data method target root (TooLarge value) asked large = inr (inl ((root, asked, large.1), refl))
of_data method target root DataOutOfMemory asked memory = inr (inr refl)

-- the template is judged before the request
pub of_request : (template : Source) (method target : List ℕ) (error : CommandError) → IsProgramText template
    → IsPlainRefusal method target error
    → IsRenderError template method target error
of_request template method target error program (inl url) = inr (inl (program, inl url))
of_request template method target error program (inr (inl large)) = inr (inl (program, inr large))
of_request template method target error program (inr (inr memory)) = inr (inr memory)
