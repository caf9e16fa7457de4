-- What `mock render` prints for a template, a method and a target, and which errors it reports.
use Rattle.std.specs.Prelude.{◌≡◌, ℕ, ◌<◌, ◌⊎◌, List, [], ◌++◌, length, codes, Option, None}
use Rattle.data_tree.specs.Tree.{Tree}
use Rattle.data_tree.specs.Json.{size}
use Rattle.data_tree.specs.declared.request_data.TheConstants.{SIZE_LIMIT}
use Rattle.error_code.specs.declared.error_code.ErrorCode.{ErrorCode}
use Rattle.mock_request.specs.Target.{IsTarget, HasUrl}
use Rattle.request_data.specs.RequestTree.{request_tree}
use Rattle.code_rules.specs.Polynomial.{as_printed}
use Rattle.code_rules.specs.Regions.{budget}
use Rattle.template_code.specs.Machine.{Runs}
use Rattle.safe_code.specs.Safe.{IsSafe}
use Rattle.template_machine.specs.Program.{ProgramParts, IsProgram, IsProgramText, IsMeant}
use Rattle.template_machine.specs.Errors.{IsErrorOf, error_code_of, offset_of}
use Rattle.template_machine.specs.declared.error.ProgramError.{ProgramError}
use Rattle.template_tree.specs.Source.{Source}
use Rattle.command_output.specs.Ends.{Ends}
use Rattle.command_output.specs.Lines.{measure_line, out_of_memory}
use Rattle.command_output.specs.declared.error.CommandError.{CommandError}

-- the coefficients of both budgets, the steps that the run took, and the text that it wrote
pub record Report : Type 0 where
  pub step_budget : List ℕ
  pub byte_budget : List ℕ
  pub steps : ℕ
  pub text : List ℕ

-- two lines and the text
abbrev pub report_text : Report → List ℕ
report_text r =
    measure_line (codes "steps") r.steps r.step_budget
    ++ (measure_line (codes "bytes") (length r.text) r.byte_budget
    ++ (r.text ++ codes "\n"))

-- the data of a request without headers and body, and without a path template
abbrev pub plain_data : List ℕ → List ℕ → Tree
plain_data method url = request_tree (record { method = method; url = url; headers = []; body = [] }) None

-- the data of a request for the URL that the target asks for
abbrev pub IsDataOf : List ℕ → List ℕ → Tree → Type 0
IsDataOf method target root = (url : List ℕ) × IsTarget target url × (root ≡ plain_data method url)

-- what a run of a program over a root gave: the text is what its source means, the steps are those of the run, and the
-- budgets are the program's own
pub record IsRunReport (program : ProgramParts) (root : Tree) (r : Report) : Type 0 where
  pub meant : IsMeant program.source root r.text
  pub ran : Runs program.code root r.steps r.text
  pub step_budget : r.step_budget ≡ as_printed (budget program.code).steps
  pub byte_budget : r.byte_budget ≡ as_printed (budget program.code).bytes

-- the report of a run of the template's program, whose code is safe, for that request
pub record IsReport (template : Source) (method target : List ℕ) (r : Report) : Type 0 where
  pub root : Tree
  pub asked : IsDataOf method target root
  pub program : ProgramParts
  pub source : program.source ≡ template
  pub whole : IsProgram program
  pub safe : IsSafe program.code
  pub run : IsRunReport program root r

-- such a report as it is printed
abbrev pub IsReportText : Source → List ℕ → List ℕ → List ℕ → Type 0
IsReportText template method target text =
    (report : Report) × IsReport template method target report × (text ≡ report_text report)

-- the template is no program, and this says why
abbrev pub RefusesTemplate : Source → CommandError → Type 0
RefusesTemplate template error =
    (e : ProgramError) × IsErrorOf template e × (error ≡ record { code = error_code_of e; at = offset_of e })

-- the target asks for no URL
abbrev pub RefusesUrl : List ℕ → CommandError → Type 0
RefusesUrl target error = (¬ (HasUrl target)) × (error ≡ record { code = ErrorCode.BadUrl; at = None })

-- the data of the request is over its limit
abbrev pub RefusesData : List ℕ → List ℕ → CommandError → Type 0
RefusesData method target error =
    ((root : Tree) × IsDataOf method target root × (SIZE_LIMIT < size root))
    × (error ≡ record { code = ErrorCode.TooLarge; at = None })

-- the first error, where the template is judged before the request; memory may run out at any moment
abbrev pub IsRenderError : Source → List ℕ → List ℕ → CommandError → Type 0
IsRenderError template method target error =
    RefusesTemplate template error
    ⊎ (IsProgramText template × (RefusesUrl target error ⊎ RefusesData method target error))
    ⊎ (error ≡ out_of_memory)

-- how a rendering ends: the report is on standard output (0), or the first error on standard error
abbrev pub Renders : {O E : Type 0} → (O → Option (List ℕ)) → (E → Option (List ℕ)) → Source
    → List ℕ → List ℕ → O → O → E → E → ℕ → Type 0
Renders out_holds err_holds template method target =
    Ends out_holds err_holds (λ text status. IsReportText template method target text × (status ≡ 0))
    (IsRenderError template method target)
