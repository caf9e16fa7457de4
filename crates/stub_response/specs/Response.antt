-- The response of a mapping for a request (WireMock's documentation, "Response Templating", for templates).
use Rattle.std.specs.Prelude.{◌≡◌, ◌≤◌, ◌⊎◌, ℕ, List, [], ◌∷◌, ◌++◌, map, Option, None, Some}
use Rattle.std.specs.List.{AllZip}
use Rattle.data_tree.specs.Json.{size}
use Rattle.data_tree.specs.Tree.{Tree}
use Rattle.data_tree.specs.declared.request_data.TheConstants.{SIZE_LIMIT}
use Rattle.error_code.specs.declared.error_code.ErrorCode.TheVariants.{OverBudget}
use Rattle.mapping_model.specs.declared.header_lines.HeaderLine.{HeaderLine}
use Rattle.mapping_model.specs.declared.mapping_spec.MappingSpec.{MappingSpec}
use Rattle.mapping_model.specs.declared.reply.Reply.{Reply}
use Rattle.mapping_model.specs.declared.reply.ReplyHeader.{ReplyHeader}
use Rattle.mapping_model.specs.declared.response_spec.Body.{Body}
use Rattle.mapping_model.specs.declared.response_spec.Body.TheVariants.{Empty, Text, Json, Base64}
use Rattle.mapping_model.specs.declared.response_spec.Content.{Content}
use Rattle.mapping_model.specs.declared.response_spec.Content.TheVariants.{Plain, Templated}
use Rattle.mapping_model.specs.declared.url_spec.UrlSpec.{UrlSpec}
use Rattle.mapping_model.specs.declared.url_spec.UrlSpec.TheVariants as url
use Rattle.mock_request.specs.Request.{Request}
use Rattle.path_template.specs.Template.{IsTemplate}
use Rattle.request_data.specs.RequestTree.{request_tree}
use Rattle.template_code.specs.Machine.{Runs}
use Rattle.template_machine.specs.Program.{ProgramParts, IsProgram, IsMeant}
use Rattle.safe_code.specs.Safe.{IsSafe}
use Rattle.template_tree.specs.Source.{Source}
use Rattle.stub_response.specs.ErrorReply.{error_reply}
use Rattle.stub_response.specs.HeaderText.{header_text}
use Rattle.stub_response.specs.Limits.{KeepTo}
use Rattle.stub_response.specs.declared.limits.Limits.{Limits}

-- which texts a value of a response gives: a text itself, a template what it means over the request's data
abbrev pub Giving : Type 0 → Type 1
Giving A = A → List ℕ → Type 0

abbrev pub Itself : Giving (List ℕ)
Itself text given = given ≡ text

-- a header line of the reply: the name, and the text that the value gives, without control bytes
pub record IsLine {A : Type 0} (Gives : Giving A) (line : HeaderLine A) (header : ReplyHeader) : Type 0 where
  pub text : List ℕ
  pub given : Gives line.value text
  pub name : header.name ≡ line.name
  pub value : header.value ≡ header_text text

-- the bytes of the reply's body; only a `body` may be a template
abbrev pub IsBody : {A : Type 0} → Giving A → Body A → List ℕ → Type 0
IsBody Gives Empty bytes = bytes ≡ []
IsBody Gives (Text text) bytes = Gives text bytes
IsBody Gives (Json text) bytes = bytes ≡ text
IsBody Gives (Base64 octets) bytes = bytes ≡ octets

-- the reply has the status, a header line for each in their order, and the body
pub record IsMade {A : Type 0} (Gives : Giving A) (status : ℕ) (lines : List (HeaderLine A)) (content : Body A)
    (reply : Reply) : Type 0 where
  pub same_status : reply.status ≡ status
  pub headers : AllZip (IsLine Gives) lines reply.headers
  pub body : IsBody Gives content reply.body

-- the template by which a request's path is matched. A text that isn't one names nothing; no mapping is served with it
abbrev pub IsPathTemplate : UrlSpec → Option (List ℕ) → Type 0
IsPathTemplate (url.UrlPathTemplate text parameters) None = ¬ (IsTemplate text)
IsPathTemplate (url.UrlPathTemplate text parameters) (Some template) = IsTemplate text × (template ≡ text)
IsPathTemplate url.Any template = template ≡ None
IsPathTemplate (url.Url text) template = template ≡ None
IsPathTemplate (url.UrlPattern text) template = template ≡ None
IsPathTemplate (url.UrlPath text) template = template ≡ None
IsPathTemplate (url.UrlPathPattern text) template = template ≡ None

-- the data of the request, with what the mapping's path template names in its path
abbrev pub IsDataFor : UrlSpec → Request → Tree → Type 0
IsDataFor matcher request root =
    (template : Option (List ℕ)) × IsPathTemplate matcher template × (root ≡ request_tree request template)

-- the templates of a response
abbrev pub body_templates : Body Source → List Source
body_templates (Text text) = text ∷ []
body_templates Empty = []
body_templates (Json text) = []
body_templates (Base64 octets) = []

abbrev pub templates_of : List (HeaderLine Source) → Body Source → List Source
templates_of lines content = map (λ line. line.value) lines ++ body_templates content

-- the data and the programs are within their limits
abbrev pub IsWithin : Limits → List Source → Tree → Type 0
IsWithin limits templates root = (size root ≤ SIZE_LIMIT) × KeepTo limits templates (size root)

-- the reply of templates over a request's data: an error where they could exceed a limit
abbrev pub IsReplyOver : Giving Source → Limits → ℕ → List (HeaderLine Source) → Body Source → Tree
    → Reply → Type 0
IsReplyOver Gives limits status lines content root reply =
    (IsWithin limits (templates_of lines content) root × IsMade Gives status lines content reply)
    ⊎ (¬ (IsWithin limits (templates_of lines content) root) × (reply ≡ error_reply 500 OverBudget))

-- the reply to a request: texts as they are, or what templates give over the request's data
abbrev pub IsReplyOf : (Tree → Giving Source) → Limits → UrlSpec → ℕ → Content → Request
    → Reply → Type 0
IsReplyOf Gives limits matcher status (Plain lines content) request reply =
    IsMade Itself status lines content reply
IsReplyOf Gives limits matcher status (Templated lines content) request reply =
    (root : Tree) × IsDataFor matcher request root × IsReplyOver (Gives root) limits status lines content root reply

-- the body of that reply alone, and none where it is an error
abbrev pub IsBodyOver : Giving Source → Limits → List (HeaderLine Source) → Body Source → Tree
    → Option (List ℕ) → Type 0
IsBodyOver Gives limits lines content root (Some bytes) =
    IsWithin limits (templates_of lines content) root × IsBody Gives content bytes
IsBodyOver Gives limits lines content root None = ¬ (IsWithin limits (templates_of lines content) root)

-- the body of the reply to a request: a text as it is, or what a template gives over the request's data
abbrev pub IsBodyOf : (Tree → Giving Source) → Limits → UrlSpec → Content → Request
    → Option (List ℕ) → Type 0
IsBodyOf Gives limits matcher (Plain lines content) request (Some bytes) = IsBody Itself content bytes
IsBodyOf Gives limits matcher (Plain lines content) request None = ⊥
IsBodyOf Gives limits matcher (Templated lines content) request made =
    (root : Tree) × IsDataFor matcher request root × IsBodyOver (Gives root) limits lines content root made

-- a template gives what it means
abbrev pub Meant : Tree → Giving Source
Meant root template text = IsMeant template root text

-- and the text was written by a run of the template's program, whose code is safe: so it met no trap, and kept to the
-- program's budget at the data's size
pub record Rendered (root : Tree) (template : Source) (text : List ℕ) : Type 0 where
  pub meant : IsMeant template root text
  pub program : ProgramParts
  pub source : program.source ≡ template
  pub whole : IsProgram program
  pub safe : IsSafe program.code
  pub steps : ℕ
  pub ran : Runs program.code root steps text

-- the body of a mapping's response for a request, with the runs that wrote it
abbrev pub IsRenderedBody : Limits → MappingSpec → Request → Option (List ℕ) → Type 0
IsRenderedBody limits mapping request made =
    IsBodyOf Rendered limits mapping.request.url mapping.response.content request made

-- the response of a mapping for a request
abbrev pub IsResponse : Limits → MappingSpec → Request → Reply → Type 0
IsResponse limits mapping request reply =
    IsReplyOf Meant limits mapping.request.url mapping.response.status mapping.response.content request reply

-- the same, with the runs that wrote its texts
abbrev pub IsRendering : Limits → MappingSpec → Request → Reply → Type 0
IsRendering limits mapping request reply =
    IsReplyOf Rendered limits mapping.request.url mapping.response.status mapping.response.content request reply
