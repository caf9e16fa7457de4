-- A command that is refused, since memory is out.
use Rattle.std.proofs.Common.{◌≡◌, ℕ, List, [], Option, inl, inr, refl}
use Rattle.mock_program.specs.CommandLine.{Asked, render, check, answer, explain}
use Rattle.mock_program.specs.Commands.{Does}
use Rattle.template_tree.specs.declared.escape.Escape.{Escape}
use Rattle.command_output.specs.Lines.{error_line, out_of_memory}
use Rattle.command_output.proofs.PartsWritten.{alone}
use Rattle.command_output.specs.Output.{AppendsFront}
use Rattle.mapping_commands.specs.Answering.{AnswersFiles, Sent}
use Rattle.mapping_commands.specs.Checking.{ChecksFiles}
use Rattle.mapping_commands.specs.Explaining.{ExplainsFiles}
use Rattle.mapping_commands.specs.declared.explain.Form.TheVariants as form
use Rattle.command_output.specs.declared.files.FileError.TheVariants as file

text_not_json : form.Text ≡ form.Json → ⊥
text_not_json same = cc

pub without_memory : {O E : Type 0} (out_holds : O → Option (List ℕ)) (err_holds : E → Option (List ℕ))
    (listed : List ℕ → Option (List (List ℕ))) (known : List ℕ → Option (List ℕ))
    (escape : Escape) (asked : Asked) (options : List (List ℕ × List ℕ))
    (out out' : O) (err err' : E) (status : ℕ) → status ≡ 1
    → AppendsFront (err_holds err) (err_holds err') (error_line out_of_memory) → out' ≡ out
    → Does out_holds err_holds listed known escape asked options out out' err err' status
without_memory out_holds err_holds listed known escape (render template method target) options out out' err err'
    status one shown same =
    inr (inl (out_of_memory, inr (inr refl), one, shown, same))
without_memory out_holds err_holds listed known escape (check path) options out out' err err' status one shown same =
    alone err_holds (λ e. ChecksFiles out_holds err_holds escape (listed path) known path out out' err e status) err'
    (inr (file.OutOfMemory, inl refl, one, shown, same))
without_memory out_holds err_holds listed known escape (answer path method target) options out out' err err' status
    one shown same =
    let sent : Sent = record { method = method; target = target; headers = []; body = [] } in
    inl (
      sent,
      record { method_is = refl; target_is = refl; plain_headers = λ none. refl; plain_body = λ none. refl },
      alone err_holds
          (λ e. AnswersFiles out_holds err_holds escape (listed path) known path sent out out' err e status) err'
          (inr (file.OutOfMemory, inl refl, one, shown, same)),
    )
without_memory out_holds err_holds listed known escape (explain path method target) options out out' err err' status
    one shown same =
    let sent : Sent = record { method = method; target = target; headers = []; body = [] } in
    inl (
      sent,
      [],
      form.Text,
      record { method_is = refl; target_is = refl; plain_headers = λ none. refl; plain_body = λ none. refl },
      record { plain_states = λ none. refl; plain_form = λ none. text_not_json },
      alone err_holds
          (λ e. ExplainsFiles out_holds err_holds escape (listed path) known path sent [] form.Text out out' err e status) err'
          (inr (file.OutOfMemory, inl refl, one, shown, same)),
    )
