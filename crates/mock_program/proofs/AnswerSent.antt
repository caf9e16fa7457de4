-- What `answer` does, from what was done for the request that was sent.
use Rattle.std.proofs.Common.{◌≡◌, ℕ, List, [], Option, ap, inl, refl}
use Rattle.command_output.specs.Output.{Followed}
use Rattle.mapping_commands.specs.Answering.{AnswersFiles, sent_of}
use Rattle.mapping_commands.specs.declared.sent.SentRequest.{SentRequest}
use Rattle.mock_program.specs.CommandLine.{answer}
use Rattle.mock_program.specs.Commands.{Does}
use Rattle.mock_request.specs.Request.{headers_of}
use Rattle.template_tree.specs.declared.escape.Escape.{Escape}

pub answered : {O E : Type 0} (out_holds : O → Option (List ℕ)) (err_holds : E → Option (List ℕ))
    (listed : List ℕ → Option (List (List ℕ))) (known : List ℕ → Option (List ℕ)) (escape : Escape)
    (path : List ℕ) (sent : SentRequest) (options : List (List ℕ × List ℕ)) (out out' : O) (err err' : E)
    (status : ℕ) → (options ≡ [] → (sent.headers.now ≡ []) × (sent.body.now ≡ []))
    → Followed err_holds (λ e. AnswersFiles out_holds err_holds escape (listed path) known path (sent_of sent) out out'
    err e status) err'
    → Does out_holds err_holds listed known escape (answer path sent.method.now sent.target.now) options out out'
    err err' status
answered out_holds err_holds listed known escape path sent options out out' err err' status plain done =
    inl (
      sent_of sent,
      record {
        method_is = refl;
        target_is = refl;
        plain_headers = λ none. ap headers_of (plain none).0;
        plain_body = λ none. (plain none).1;
      },
      done,
    )
