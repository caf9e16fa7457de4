-- What a command does, by what standard output and standard error hold before and after it, and the exit status.
use Rattle.std.specs.Prelude.{◌≡◌, ◌≢◌, ◌⊎◌, ℕ, List, [], Option}
use Rattle.command_output.specs.Output.{Followed}
use Rattle.mapping_commands.specs.Answering.{AnswersFiles, Sent}
use Rattle.mapping_commands.specs.Checking.{ChecksFiles}
use Rattle.mapping_commands.specs.Explaining.{ExplainsFiles}
use Rattle.mapping_commands.specs.declared.explain.Form.{Form}
use Rattle.mapping_commands.specs.declared.explain.Form.TheVariants.{Json}
use Rattle.mock_program.specs.CommandLine.{Asked, render, check, answer, explain}
use Rattle.mock_program.specs.Rendering.{Renders}
use Rattle.template_tree.specs.Source.{with_escape}
use Rattle.template_tree.specs.declared.escape.Escape.{Escape}

-- the request that is sent: without options it has no headers and no body
pub record IsSentByOptions (method target : List ℕ) (options : List (List ℕ × List ℕ)) (sent : Sent) : Type 0 where
  pub method_is : sent.method ≡ method
  pub target_is : sent.target ≡ target
  pub plain_headers : options ≡ [] → sent.headers ≡ []
  pub plain_body : options ≡ [] → sent.body ≡ []

-- what `explain` is asked besides: without options no scenario is set, and nothing is printed as JSON
pub record IsAskedBesides (options states : List (List ℕ × List ℕ)) (form : Form) : Type 0 where
  pub plain_states : options ≡ [] → states ≡ []
  pub plain_form : options ≡ [] → form ≢ Json

-- an option is invalid, or has a file that can't be read, and that is reported
pub record RefusesOptions {O : Type 0} (options : List (List ℕ × List ℕ)) (out out' : O) (status : ℕ) : Type 0 where
  pub given : options ≢ []
  pub failure : (status ≡ 1) ⊎ (status ≡ 2)
  pub same : out' ≡ out

-- what the command does, where the prints of templates are escaped so, and which files there are at a path, and what
-- each has, is known or isn't. On standard error further lines may follow, which explain an error or warn.
abbrev pub Does : {O E : Type 0} → (O → Option (List ℕ)) → (E → Option (List ℕ))
    → (List ℕ → Option (List (List ℕ))) → (List ℕ → Option (List ℕ)) → Escape → Asked → List (List ℕ × List ℕ)
    → O → O → E → E → ℕ → Type 0
Does out_holds err_holds listed known escape (render template method target) options =
    Renders out_holds err_holds (with_escape escape template) method target
Does out_holds err_holds listed known escape (check path) options = λ out out' err err' status.
    Followed err_holds
    (λ e. ChecksFiles out_holds err_holds escape (listed path) known path out out' err e status) err'
Does out_holds err_holds listed known escape (answer path method target) options = λ out out' err err' status.
    ((sent : Sent) × IsSentByOptions method target options sent
    × Followed err_holds (λ e. AnswersFiles out_holds err_holds escape (listed path) known path sent out out'
    err e status) err')
    ⊎ RefusesOptions options out out' status
Does out_holds err_holds listed known escape (explain path method target) options = λ out out' err err' status.
    ((sent : Sent) × (states : List (List ℕ × List ℕ)) × (form : Form) × IsSentByOptions method target options sent
    × IsAskedBesides options states form
    × Followed err_holds (λ e. ExplainsFiles out_holds err_holds escape (listed path) known path sent states form out out'
    err e status) err')
    ⊎ RefusesOptions options out out' status
