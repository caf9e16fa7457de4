-- The program's commands as the parser of the command line knows them, and what it answers, for private contracts.
use Rattle.std.specs.Prelude.{◌≡◌, ◌⊎◌, ℕ, Bool, true, List, codes, Option, None, option_and_then}
use Rattle.std.specs.Prelude.{if◌then◌else◌, option_map}
use Rattle.std.specs.Str.{bytes_eq}
use Rattle.clap.specs.Words.{App, Kinds, Row, Rule, Text, fault_of, first_of, new_app, new_rule, subcommand_of, takes}
use Rattle.clap.specs.Words.{with_rule, with_subcommand}
use Rattle.clap.specs.declared.error.kind.ErrorKind.{ErrorKind}
use Rattle.mock_program.specs.CommandLine.{Asked, render, check, answer, explain}
use Rattle.mock_program.specs.declared.parser.CommandCall.{CommandCall}
use Rattle.mock_program.specs.declared.parser.CommandCall.TheVariants as call
use Rattle.mock_program.specs.declared.parser.RequestArguments.{RequestArguments}

-- an argument that is required
abbrev pub required_rule : List ℕ → Rule
required_rule id = record (new_rule id) { value_names = 1; required = true }

-- a command with the arguments of a request after its own
abbrev pub with_request : App → App
with_request app = with_rule (with_rule app (required_rule (codes "method"))) (required_rule (codes "url"))

abbrev pub render_app : App
render_app = with_request (with_rule (new_app (codes "render")) (required_rule (codes "template")))

abbrev pub check_app : App
check_app = with_rule (new_app (codes "check")) (required_rule (codes "file"))

abbrev pub answer_app : App
answer_app = with_request (with_rule (new_app (codes "answer")) (required_rule (codes "mappings")))

abbrev pub explain_app : App
explain_app = with_request (with_rule (new_app (codes "explain")) (required_rule (codes "mappings")))

-- the program without its commands
abbrev pub program_app : App
program_app = record (new_app (codes "mock")) {
  top = record (new_app (codes "mock")).top {
    has_version = true;
    arg_required_else_help = true;
    subcommand_required = true;
    disable_help_subcommand = true;
  };
}

abbrev pub mock_app : App
mock_app =
    with_subcommand (with_subcommand (with_subcommand (with_subcommand program_app render_app.top) check_app.top)
    answer_app.top) explain_app.top

-- the parser's answer is no mistake, but a text that was called for
abbrev pub IsHelp : ErrorKind → Type 0
IsHelp kind = (kind ≡ ErrorKind.DisplayHelp) ⊎ (kind ≡ ErrorKind.DisplayVersion)

-- the kinds of answer of which it gives one in place of a call, and none where it takes the arguments
unfoldable pub answers_to : List Text → Kinds
answers_to arguments = fault_of mock_app arguments

-- whether it takes the arguments
unfoldable pub is_taken : List Text → Bool
is_taken arguments = takes mock_app arguments

-- ---- the command that it finds

-- from the values of its arguments
abbrev pub render_in : List Row → Option Asked
render_in rows =
    option_and_then (λ template. option_and_then (λ method. option_map (λ target. render template method target)
    (first_of (codes "url") rows)) (first_of (codes "method") rows)) (first_of (codes "template") rows)

abbrev pub check_in : List Row → Option Asked
check_in rows = option_map check (first_of (codes "file") rows)

-- the mappings, the method and the target of a request that is asked about
abbrev pub RequestTexts : Type 0
RequestTexts = Text × Text × Text

abbrev pub request_in : List Row → Option RequestTexts
request_in rows =
    option_and_then (λ file. option_and_then (λ method. option_map (λ target. (file, method, target))
    (first_of (codes "url") rows)) (first_of (codes "method") rows)) (first_of (codes "mappings") rows)

abbrev pub answer_in : List Row → Option Asked
answer_in rows = option_map (λ (given : RequestTexts). answer given.0 given.1 given.2) (request_in rows)

abbrev pub explain_in : List Row → Option Asked
explain_in rows = option_map (λ (given : RequestTexts). explain given.0 given.1 given.2) (request_in rows)

abbrev pub asked_in : Text → List Row → Option Asked
asked_in name rows =
    if bytes_eq name (codes "render") then render_in rows
    else (if bytes_eq name (codes "check") then check_in rows
    else (if bytes_eq name (codes "answer") then answer_in rows
    else (if bytes_eq name (codes "explain") then explain_in rows else None)))

-- the command that these arguments name, with its own
unfoldable pub asked_by : List Text → Option Asked
asked_by arguments = option_and_then (λ p. asked_in p.0 p.1) (subcommand_of mock_app arguments)

abbrev pub texts_of : RequestArguments → RequestTexts
texts_of given = (given.file.now, given.method.now, given.target.now)

abbrev pub asked_of : CommandCall → Asked
asked_of (call.Render template method target) = render template.now method.now target.now
asked_of (call.Check file) = check file.now
asked_of (call.Answer given) = answer given.file.now given.method.now given.target.now
asked_of (call.Explain given) = explain given.file.now given.method.now given.target.now
