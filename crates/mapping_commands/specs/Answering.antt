-- What `mock answer` prints for documents and a request: the reply of a book that was just opened with the
-- documents' mappings. And which errors it reports.
use Rattle.std.specs.Prelude.{◌≡◌, ◌⊎◌, ◌<◌, ◌≤◌, ℕ, List, [], ◌∷◌, ◌++◌, length, codes, decimal, flat_map, Option}
use Rattle.std.specs.Prelude.{None}
use Rattle.command_output.specs.Ends.{Ends, EndsOnFiles}
use Rattle.command_output.specs.Lines.{out_of_memory}
use Rattle.command_output.specs.declared.error.CommandError.{CommandError}
use Rattle.error_code.specs.declared.error_code.ErrorCode.{ErrorCode}
use Rattle.mapping_commands.specs.declared.sent.SentRequest.{SentRequest}
use Rattle.mapping_json.specs.Documents.{SpellMappings, IsMappingsError}
use Rattle.mapping_json.specs.Errors.{error_code_of}
use Rattle.mapping_json.specs.declared.error.MappingsError.{MappingsError}
use Rattle.mapping_model.specs.declared.mapping_spec.MappingSpec.{MappingSpec}
use Rattle.mapping_model.specs.declared.reply.Reply.{Reply}
use Rattle.mapping_model.specs.declared.reply.ReplyHeader.{ReplyHeader}
use Rattle.mock_request.specs.Request.{Header, Request, headers_of}
use Rattle.mock_request.specs.Target.{IsTarget, HasUrl}
use Rattle.mock_request.specs.declared.snapshot.TheConstants.{BODY_LIMIT}
use Rattle.request_journal.specs.Choice.{IsChoice}
use Rattle.request_journal.specs.Live.{live}
use Rattle.request_journal.specs.Past.{opened}
use Rattle.request_journal.specs.declared.event.ServeAnswer.{ServeAnswer}
use Rattle.request_journal.specs.declared.event.ServeAnswer.TheVariants.{Stub, Proxy, Unmatched}
use Rattle.request_journal.specs.declared.limits.TheConstants.{LIVE_LIMIT}
use Rattle.stub_response.specs.ErrorReply.{unmatched_reply}
use Rattle.stub_response.specs.Response.{IsRendering}
use Rattle.stub_response.specs.declared.limits.Limits.{Limits}
use Rattle.template_tree.specs.declared.escape.Escape.{Escape}
use Rattle.stub_response.specs.declared.limits.TheConstants.{STEP_LIMIT, BYTE_LIMIT}

-- ---- a reply as it is printed

-- as `content-type: text/plain`
abbrev pub header_line : ReplyHeader → List ℕ
header_line header = header.name ++ (codes ": " ++ (header.value ++ codes "\n"))

-- as `status 404`, the header lines in their order, an empty line, and the body with nothing added
abbrev pub reply_text : Reply → List ℕ
reply_text reply =
    codes "status " ++ (decimal reply.status ++ (codes "\n"
    ++ (flat_map header_line reply.headers ++ (codes "\n" ++ reply.body))))

-- ---- the reply to a request

abbrev pub usual_limits : Limits
usual_limits = record { steps = STEP_LIMIT; bytes = BYTE_LIMIT }

-- by what the book answers the request with: the response of the mapping that it chose, with the runs that wrote its
-- texts, or a 404. Without a recording nothing is sent on
abbrev pub IsReplyBy : ServeAnswer → Request → Reply → Type 0
IsReplyBy (Stub captured) request reply = IsRendering usual_limits captured.mapping.spec request reply
IsReplyBy (Proxy target) request reply = ⊥
IsReplyBy Unmatched request reply = reply ≡ unmatched_reply

-- a request that is asked for: its target is yet to be read
pub record Sent : Type 0 where
  pub method : List ℕ
  pub target : List ℕ
  pub headers : List Header
  pub body : List ℕ

abbrev pub sent_of : SentRequest → Sent
sent_of given = record {
  method = given.method.now;
  target = given.target.now;
  headers = headers_of given.headers.now;
  body = given.body.now;
}

-- that request, for the URL that its target asks for
abbrev pub IsRequest : Sent → Request → Type 0
IsRequest sent request =
    (url : List ℕ) × IsTarget sent.target url
    × (request ≡ record { method = sent.method; url = url; headers = sent.headers; body = sent.body })

-- each value in the documents spells its mapping: those of one document after those of the one before
abbrev pub SpellDocuments : Escape → List (List ℕ) → List MappingSpec → Type 0
SpellDocuments escape [] mappings = mappings ≡ []
SpellDocuments escape (bytes ∷ documents) mappings =
    (own : List MappingSpec) × (rest : List MappingSpec) × SpellMappings escape bytes own
    × SpellDocuments escape documents rest × (mappings ≡ own ++ rest)

-- the reply to that request of a book that was just opened with the documents' mappings, whose templates' prints are
-- escaped so
pub record IsCommandReply (escape : Escape) (documents : List (List ℕ)) (sent : Sent) (reply : Reply)
    : Type 0 where
  pub mappings : List MappingSpec
  pub spelled : SpellDocuments escape documents mappings
  -- a book can be opened with them
  pub few : length (live (opened 0 mappings)) ≤ LIVE_LIMIT
  pub request : Request
  pub asked : IsRequest sent request
  pub answer : ServeAnswer
  pub chosen : IsChoice (opened 0 mappings) request answer
  pub replied : IsReplyBy answer request reply

-- such a reply as it is printed
abbrev pub IsReplyText : Escape → List (List ℕ) → Sent → List ℕ → Type 0
IsReplyText escape documents sent text =
    (reply : Reply) × IsCommandReply escape documents sent reply × (text ≡ reply_text reply)

-- ---- errors

-- a document is no list of mappings, or one of them is none: this is the first error
pub record RefusesDocument (escape : Escape) (documents : List (List ℕ)) (error : CommandError) : Type 0 where
  pub before : List (List ℕ)
  pub bytes : List ℕ
  pub after : List (List ℕ)
  pub mappings : List MappingSpec
  pub e : MappingsError
  pub whole : documents ≡ before ++ bytes ∷ after
  pub read : SpellDocuments escape before mappings
  pub refused : IsMappingsError escape bytes e
  pub is : error ≡ record { code = error_code_of e.error; at = None }

-- its mappings are more than may be live
abbrev pub RefusesBook : Escape → List (List ℕ) → CommandError → Type 0
RefusesBook escape documents error =
    ((mappings : List MappingSpec) × SpellDocuments escape documents mappings
    × (LIVE_LIMIT < length (live (opened 0 mappings))))
    × (error ≡ record { code = ErrorCode.TooManyMappings; at = None })

-- a book can be opened with the documents' mappings
abbrev pub HasBook : Escape → List (List ℕ) → Type 0
HasBook escape documents =
    (mappings : List MappingSpec) × SpellDocuments escape documents mappings
    × (length (live (opened 0 mappings)) ≤ LIVE_LIMIT)

-- the target asks for no URL, or else the body is too large
abbrev pub RefusesRequest : Sent → CommandError → Type 0
RefusesRequest sent error =
    ((¬ (HasUrl sent.target)) × (error ≡ record { code = ErrorCode.BadUrl; at = None }))
    ⊎ (HasUrl sent.target × (BODY_LIMIT < length sent.body)
    × (error ≡ record { code = ErrorCode.TooLarge; at = None }))

-- the first error, where the documents are judged first, then the book, then the request; memory may run out at any
-- moment
abbrev pub IsAnswerError : Escape → List (List ℕ) → Sent → CommandError → Type 0
IsAnswerError escape documents sent error =
    RefusesDocument escape documents error
    ⊎ RefusesBook escape documents error
    ⊎ (HasBook escape documents × RefusesRequest sent error)
    ⊎ (error ≡ out_of_memory)

-- ---- the whole

-- How an answer ends: the reply is on standard output (0), or the first error on standard error.
abbrev pub Answers : {O E : Type 0} → (O → Option (List ℕ)) → (E → Option (List ℕ)) → Escape
    → List (List ℕ) → Sent → O → O → E → E → ℕ → Type 0
Answers out_holds err_holds escape documents sent =
    Ends out_holds err_holds (λ text status. IsReplyText escape documents sent text × (status ≡ 0))
    (IsAnswerError escape documents sent)

-- how `mock answer` ends
abbrev pub AnswersFiles : {O E : Type 0} → (O → Option (List ℕ)) → (E → Option (List ℕ)) → Escape
    → Option (List (List ℕ)) → (List ℕ → Option (List ℕ)) → List ℕ → Sent
    → O → O → E → E → ℕ → Type 0
AnswersFiles out_holds err_holds escape listed known path sent =
    EndsOnFiles out_holds err_holds listed known path
    (λ documents. Answers out_holds err_holds escape documents sent)
