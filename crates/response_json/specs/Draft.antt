-- A response as it is read: what it is once its templates are compiled, and the first error of these.
use Rattle.std.specs.Prelude.{◌≡◌, ◌⊎◌, ℕ, List, [], ◌∷◌, ◌++◌, All, map, false, if◌then◌else◌}
use Rattle.mapping_model.specs.declared.header_lines.HeaderLine.{HeaderLine}
use Rattle.mapping_model.specs.declared.response_spec.Body.{Body}
use Rattle.mapping_model.specs.declared.response_spec.Body.TheVariants as body
use Rattle.mapping_model.specs.declared.response_spec.Content.{Content}
use Rattle.mapping_model.specs.declared.response_spec.Content.TheVariants.{Plain, Templated}
use Rattle.mapping_model.specs.declared.response_spec.ResponseSpec.{ResponseSpec}
use Rattle.response_json.specs.declared.draft.ResponseDraft.{ResponseDraft}
use Rattle.template_machine.specs.Errors.{IsErrorOf}
use Rattle.template_machine.specs.Program.{IsProgramText}
use Rattle.template_machine.specs.declared.error.ProgramError.{ProgramError}
use Rattle.template_machine.specs.declared.error.ProgramError.TheVariants.{OutOfMemory}
use Rattle.template_tree.specs.Source.{Source, with_escape}
use Rattle.template_tree.specs.declared.escape.Escape.{Escape}

abbrev pub values_of : {A : Type 0} → List (HeaderLine A) → List A
values_of lines = map (λ line. line.value) lines

-- a `body` alone is a template
abbrev pub body_templates : {A : Type 0} → Body A → List A
body_templates body.Empty = []
body_templates (body.Text text) = text ∷ []
body_templates (body.Json text) = []
body_templates (body.Base64 bytes) = []

-- header lines and a body whose texts are templates, with prints that are escaped so
abbrev pub line_with : Escape → HeaderLine (List ℕ) → HeaderLine Source
line_with escape line = record { name = line.name; value = with_escape escape line.value }

abbrev pub lines_with : Escape → List (HeaderLine (List ℕ)) → List (HeaderLine Source)
lines_with escape lines = map (line_with escape) lines

abbrev pub body_with : Escape → Body (List ℕ) → Body Source
body_with escape body.Empty = body.Empty
body_with escape (body.Text text) = body.Text (with_escape escape text)
body_with escape (body.Json text) = body.Json text
body_with escape (body.Base64 bytes) = body.Base64 bytes

-- the templates, in the order in which they are judged: header lines, and then the body
abbrev pub templates_of : Escape → ResponseDraft → List Source
templates_of escape draft =
    if draft.is_templated then
    values_of (lines_with escape draft.headers) ++ body_templates (body_with escape draft.body)
    else []

-- the response, where the prints of templates are escaped so
abbrev pub content_of : Escape → ResponseDraft → Content
content_of escape draft =
    if draft.is_templated then Templated (lines_with escape draft.headers) (body_with escape draft.body)
    else Plain draft.headers draft.body

abbrev pub response_of : Escape → ResponseDraft → ResponseSpec
response_of escape draft = record { status = draft.status; content = content_of escape draft }

-- the first of the sources that is no template has the error
pub record IsFirstOf (sources : List Source) (error : ProgramError) : Type 0 where
  pub before : List Source
  pub source : Source
  pub after : List Source
  pub split : sources ≡ before ++ source ∷ after
  pub programs : All IsProgramText before
  pub reported : IsErrorOf source error

-- the error of compiling the sources one after the other; memory may run out at any moment
abbrev pub IsFirstError : List Source → ProgramError → Type 0
IsFirstError sources error = (error ≡ OutOfMemory) ⊎ IsFirstOf sources error

-- the response of a mapping that has none
abbrev pub no_response : ResponseDraft
no_response = record { status = 200; headers = []; body = body.Empty; is_templated = false }
