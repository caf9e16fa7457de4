-- What `explain` does, from what was done for the request that was sent and the states that were given.
use Rattle.std.proofs.Common.{◌≡◌, ◌≢◌, ℕ, List, [], Option, ap, inl, map, refl}
use Rattle.command_output.specs.Output.{Followed}
use Rattle.mapping_commands.specs.Answering.{sent_of}
use Rattle.mapping_commands.specs.Explaining.{ExplainsFiles, given_of}
use Rattle.mapping_commands.specs.declared.explain.Question.{Question}
use Rattle.mapping_commands.specs.declared.explain.Form.TheVariants.{Json}
use Rattle.mock_program.specs.CommandLine.{explain}
use Rattle.mock_program.specs.Commands.{Does}
use Rattle.mock_request.specs.Request.{headers_of}
use Rattle.template_tree.specs.declared.escape.Escape.{Escape}

pub explained : {O E : Type 0} (out_holds : O → Option (List ℕ)) (err_holds : E → Option (List ℕ))
    (listed : List ℕ → Option (List (List ℕ))) (known : List ℕ → Option (List ℕ)) (escape : Escape)
    (path : List ℕ) (question : Question) (options : List (List ℕ × List ℕ)) (out out' : O) (err err' : E)
    (status : ℕ)
    → (options ≡ [] → (question.request.headers.now ≡ []) × (question.request.body.now ≡ [])
    × (question.states.now ≡ []) × (question.form ≢ Json))
    → Followed err_holds (λ e. ExplainsFiles out_holds err_holds escape (listed path) known path (sent_of question.request)
    (map given_of question.states.now) question.form out out' err e status) err'
    → Does out_holds err_holds listed known escape
    (explain path question.request.method.now question.request.target.now) options out out' err err' status
explained out_holds err_holds listed known escape path question options out out' err err' status plain done =
    inl (
      sent_of question.request,
      map given_of question.states.now,
      question.form,
      record {
        method_is = refl;
        target_is = refl;
        plain_headers = λ none. ap headers_of (plain none).0;
        plain_body = λ none. (plain none).1;
      },
      record {
        plain_states = λ none. ap (map given_of) (plain none).2;
        plain_form = λ none. (plain none).3;
      },
      done,
    )
