-- A command leaves one of both writers as it was, but for lines that follow on standard error.
use Rattle.std.proofs.Common.{◌≡◌, ◌⊎◌, ℕ, List, Option, inl, inr, Bool, true, false, refl, if◌then◌else◌}
use Rattle.std.specs.Prelude.{⊤}
use Rattle.command_output.proofs.OneStream.{of_end, of_error, of_followed}
use Rattle.command_output.proofs.PartsWritten.{alone}
use Rattle.command_output.specs.Output.{Followed, WritesOneStream}
use Rattle.mapping_commands.specs.Answering.{Answers, IsAnswerError, IsReplyText}
use Rattle.mapping_commands.specs.Checking.{Checks, IsCheckError, IsReportOf}
use Rattle.mapping_commands.specs.Explaining.{Explains, IsExplanation}
use Rattle.mock_program.specs.CommandLine.{Asked, render, check, answer, explain}
use Rattle.mock_program.specs.Commands.{Does}
use Rattle.mock_program.specs.Rendering.{IsRenderError, IsReportText}
use Rattle.template_tree.specs.Source.{with_escape}
use Rattle.template_tree.specs.declared.escape.Escape.{Escape}

either : (is : Bool) (status : ℕ) → status ≡ (if is then 1 else 0) → status ≡ 0 ⊎ status ≡ 1
either true status one = inr one
either false status zero = inl zero

or_other : (is : Bool) (status : ℕ) → status ≡ (if is then 0 else 1) → status ≡ 0 ⊎ status ≡ 1
or_other true status zero = inl zero
or_other false status one = inr one

module _ {O E : Type 0} (out_holds : O → Option (List ℕ)) (err_holds : E → Option (List ℕ)) where
  pub nothing_written : (out : O) (err : E) → Followed err_holds (λ e. WritesOneStream out out err e 1) err
  nothing_written out err =
      alone err_holds (λ e. WritesOneStream out out err e 1) err (of_error out out err err 1 (inl refl) refl)

  pub of_command : (listed : List ℕ → Option (List (List ℕ))) (known : List ℕ → Option (List ℕ))
      (escape : Escape)
      (asked : Asked) (options : List (List ℕ × List ℕ)) (out out' : O) (err err' : E) (status : ℕ)
      → Does out_holds err_holds listed known escape asked options out out' err err' status
      → Followed err_holds (λ e. WritesOneStream out out' err e status) err'
  of_command listed known escape (render template method target) options out out' err err' status done =
      alone err_holds (λ e. WritesOneStream out out' err e status) err'
      (of_end out_holds err_holds
      (λ text status. IsReportText (with_escape escape template) method target text × (status ≡ 0))
      (IsRenderError (with_escape escape template) method target) (λ text status is. inl is.1) out out' err err' status done)
  of_command listed known escape (check path) options out out' err err' status done =
      of_followed out_holds err_holds (listed path) known path
      (λ documents. Checks out_holds err_holds escape documents) out out' err err' status
      (λ documents middle. of_end out_holds err_holds
      (λ text status. (refused : Bool) × IsReportOf escape documents text refused
      × (status ≡ (if refused then 1 else 0))) (IsCheckError documents)
      (λ text status is. either is.0 status is.2) out out' err middle status) done
  of_command listed known escape (answer path method target) options out out' err err' status
      (inl (sent, is, done)) =
      of_followed out_holds err_holds (listed path) known path
      (λ documents. Answers out_holds err_holds escape documents sent) out out' err err' status
      (λ documents middle. of_end out_holds err_holds
      (λ text status. IsReplyText escape documents sent text × (status ≡ 0)) (IsAnswerError escape documents sent)
      (λ text status is. inl is.1) out out' err middle status) done
  of_command listed known escape (answer path method target) options out out' err err' status (inr refused) =
      alone err_holds (λ e. WritesOneStream out out' err e status) err'
      (of_error out out' err err' status refused.failure refused.same)
  of_command listed known escape (explain path method target) options out out' err err' status
      (inl (sent, states, form, is, besides, done)) =
      of_followed out_holds err_holds (listed path) known path
      (λ documents. Explains out_holds err_holds escape documents sent states form) out out' err err' status
      (λ documents middle. of_end out_holds err_holds (IsExplanation escape documents sent states form) (λ _. ⊤)
      (λ text status is. or_other _ status is.3) out out' err middle status) done
  of_command listed known escape (explain path method target) options out out' err err' status (inr refused) =
      alone err_holds (λ e. WritesOneStream out out' err e status) err'
      (of_error out out' err err' status refused.failure refused.same)
