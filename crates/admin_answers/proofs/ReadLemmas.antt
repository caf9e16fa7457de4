-- What is answered of what was read is what the past says.
use Rattle.std.proofs.Common.{◌≡◌, ◌⊎◌, ℕ, List, Vec, Option, Some, None, Result, Ok, Err, IfOk}
use Rattle.std.proofs.Common.{IfErr, inl, inr, sym, subst, refl, ◌∙◌, ◌+◌, ◌^◌, ◌≤◌, arith}
use Rattle.std.specs.declared.alloc.AllocError.{AllocError}
use Rattle.std.specs.declared.alloc.Global.{Global}
use Rattle.admin_answers.proofs.NumberLemmas.{AreBelow, below_more, visible_below}
use Rattle.admin_answers.specs.Answers.{IsHeldReply, IsReadReply, HasNoReadReply}
use Rattle.admin_answers.specs.Inner.Said.{IsSaid, IsUnsaid}
use Rattle.admin_answers.specs.Recordings.{HasNoHar, IsHarReply}
use Rattle.admin_answers.specs.Replies.{reply_of}
use Rattle.admin_answers.specs.declared.admin_answer.AdminAnswer.{AdminAnswer}
use Rattle.admin_answers.specs.declared.error.SharedError.{SharedError}
use Rattle.error_code.specs.declared.error_code.ErrorCode.{ErrorCode}
use Rattle.error_code.specs.declared.error_code.ErrorCode.TheVariants as code
use Rattle.admin_answers.specs.JsonReply.{IsJsonReply}
use Rattle.admin_json.specs.Mappings.{json_of_held, json_of_mappings}
use Rattle.admin_json.specs.Recordings.{json_of_status}
use Rattle.admin_json.specs.Requests.{json_of_requests, json_of_found, json_of_number}
use Rattle.admin_json.specs.Scenarios.{json_of_scenarios}
use Rattle.mapping_model.specs.declared.reply.Reply.{Reply}
use Rattle.mapping_model.specs.declared.request_spec.RequestSpec.{RequestSpec}
use Rattle.recorder.specs.Recording.{session_of}
use Rattle.recorder.specs.declared.recording.Recording.{Recording}
use Rattle.recorder.specs.declared.recording.RecordingStatus.{RecordingStatus}
use Rattle.request_journal.specs.Journal as journal
use Rattle.request_journal.specs.Journal.{request_of, unmatched_of, IsCount, Picks}
use Rattle.request_journal.specs.Past.{Past}
use Rattle.request_journal.specs.declared.entry.Entry.{Entry}
use Rattle.request_journal.specs.declared.mapping.Mapping.{Mapping}
use Rattle.request_journal.specs.declared.read.BookRead.{BookRead}
use Rattle.request_journal.specs.declared.read.BookRead.TheVariants as read
use Rattle.request_match.specs.Matching.{MeetsRequest}
use Rattle.scenario_core.specs.Scenarios.{States}
use Rattle.serde_json.specs.Data.{Data, depth}
use Rattle.serde_json.specs.Read as json
use Rattle.serde_json.specs.Read.{max_depth}
use Rattle.serde_json.specs.Written.{compact_text}
use Rattle.shared_book.specs.Reached.{InPastOf, Log}
use Rattle.shared_book.specs.Reading.{IsRead, IsReadAnswer}
use Rattle.shared_book.specs.declared.book_read.ReadAnswer.TheVariants as answer
use Rattle.shared_book.specs.declared.book_read.Reading.{Reading}
use Rattle.stub_response.specs.ErrorReply.{json_reply}

-- ---- what each answer has

-- a text that is the compact text of a value, and reads back, is its reply
pub replied
    : (value : Data) (P Q : Type 0) (result : Result (List ℕ) AllocError) → (Q → P)
    → IfOk result (λ text. text ≡ compact_text value)
    → IfOk result (λ text. P → depth value ≤ max_depth → json.read text ≡ Some value)
    → IfOk result (λ text. Q → IsJsonReply 200 value (json_reply 200 text))
replied value P Q (Ok text) less same reads =
    λ q. (text, record { compact = λ whole. same; reads_back = reads (less q) }, refl)
replied value P Q (Err why) less same reads = tt

-- the same, whatever the value has
pub listed
    : (value : Data) (result : Result (List ℕ) AllocError)
    → IfOk result (λ text. text ≡ compact_text value)
    → IfOk result (λ text. depth value ≤ max_depth → json.read text ≡ Some value)
    → IfOk result (λ text. IsJsonReply 200 value (json_reply 200 text))
listed value (Ok text) same reads = (text, record { compact = λ whole. same; reads_back = reads }, refl)
listed value (Err why) same reads = tt

-- what is found of entries below a bound is replied, as soon as it is known that they are
pub searched
    : (P : Entry → Type 0) (entries : List Entry) (bound : ℕ) (result : Result (List ℕ) AllocError) → bound ≤ 2 ^ 64
    → IfOk result (λ text. (found : List Entry) × Picks P entries found × (text ≡ compact_text (json_of_found found))
    × (AreBelow (2 ^ 64) entries → depth (json_of_found found) ≤ max_depth
    → json.read text ≡ Some (json_of_found found)))
    → IfOk result (λ text. AreBelow bound entries → (found : List Entry) × Picks P entries found
    × IsJsonReply 200 (json_of_found found) (json_reply 200 text))
searched P entries bound (Ok text) fits made = λ below. (
  made.0,
  made.1,
  (
    text,
    record {
      compact = λ whole. made.2;
      reads_back = made.3 (below_more bound (2 ^ 64) entries fits below);
    },
    refl,
  ),
)
searched P entries bound (Err why) fits made = tt

pub numbered
    : (P : Entry → Type 0) (entries : List Entry) (result : Result (List ℕ) AllocError)
    → IfOk result (λ text. (count : ℕ) × IsCount P entries count × (text ≡ compact_text (json_of_number count))
    × (json.read text ≡ Some (json_of_number count)))
    → IfOk result (λ text. (count : ℕ) × IsCount P entries count
    × IsJsonReply 200 (json_of_number count) (json_reply 200 text))
numbered P entries (Ok text) made =
    (made.0, made.1, (text, record { compact = λ whole. made.2; reads_back = λ shallow. made.3 }, refl))
numbered P entries (Err why) made = tt

-- ---- what is read is what the past says

pub mappings
    : (number : ℕ) (list : Vec Mapping Global) (text : List ℕ)
    → IsJsonReply 200 (json_of_mappings list.items) (json_reply 200 text)
    → IsSaid number (answer.Mappings list) (json_reply 200 text)
mappings number list text json past read.Mappings says last = (list.items, says, json)
mappings number list text json past asked says last = absurd says

pub requests
    : (number : ℕ) (list : Vec Entry Global) (text : List ℕ)
    → (AreBelow (number + 1) list.items → IsJsonReply 200 (json_of_requests list.items) (json_reply 200 text))
    → IsSaid number (answer.Requests list) (json_reply 200 text)
requests number list text json past read.Requests says last =
    let below = visible_below (number + 1) request_of past (omega (arith, last)) in
    subst (λ es. IsJsonReply 200 (json_of_requests es) (json_reply 200 text)) says
    (json (subst (AreBelow (number + 1)) (sym says) below))
requests number list text json past asked says last = absurd says

pub unmatched
    : (number : ℕ) (list : Vec Entry Global) (text : List ℕ)
    → (AreBelow (number + 1) list.items → IsJsonReply 200 (json_of_found list.items) (json_reply 200 text))
    → IsSaid number (answer.Unmatched list) (json_reply 200 text)
unmatched number list text json past read.Unmatched says last =
    let below = visible_below (number + 1) unmatched_of past (omega (arith, last)) in
    subst (λ es. IsJsonReply 200 (json_of_found es) (json_reply 200 text)) says
    (json (subst (AreBelow (number + 1)) (sym says) below))
unmatched number list text json past asked says last = absurd says

abbrev meets : RequestSpec → Entry → Type 0
meets matcher entry = MeetsRequest matcher entry.request

pub found
    : (number : ℕ) (matcher : RequestSpec) (list : Vec Entry Global) (text : List ℕ)
    → (AreBelow (number + 1) list.items → (picked : List Entry) × Picks (meets matcher) list.items picked
    × IsJsonReply 200 (json_of_found picked) (json_reply 200 text))
    → IsSaid number (answer.Find list matcher) (json_reply 200 text)
found number matcher list text json past (read.Find asked) says last =
    let below = visible_below (number + 1) request_of past (omega (arith, last)) in
    let made = json (subst (AreBelow (number + 1)) (sym says.0) below) in
    let picks = subst (λ es. Picks (meets matcher) es made.0) says.0 made.1 in
    (made.0, subst (λ m. Picks (meets m) (journal.requests past) made.0) says.1 picks, made.2)
found number matcher list text json past asked says last = absurd says

pub counted
    : (number : ℕ) (matcher : RequestSpec) (list : Vec Entry Global) (text : List ℕ)
    → (count : ℕ) × IsCount (meets matcher) list.items count × IsJsonReply 200 (json_of_number count) (json_reply 200 text)
    → IsSaid number (answer.Count list matcher) (json_reply 200 text)
counted number matcher list text json past (read.Count asked) says last =
    let counts = subst (λ es. IsCount (meets matcher) es json.0) says.0 json.1 in
    (json.0, subst (λ m. IsCount (meets m) (journal.requests past) json.0) says.1 counts, json.2)
counted number matcher list text json past asked says last = absurd says

pub scenarios
    : (number : ℕ) (states : States) (list : Vec Mapping Global) (reply : Reply)
    → IsJsonReply 200 (json_of_scenarios states list.items) reply
    → IsSaid number (answer.Scenarios states list) reply
scenarios number states list reply json past read.Scenarios says last =
    (states, says.0, (list.items, says.1, json))
scenarios number states list reply json past asked says last = absurd says

same_mapping : (a b : Mapping) → a.id ≡ b.id → a.spec ≡ b.spec → a ≡ b
same_mapping a b id spec = λ i. record { id = id i; spec = spec i }

pub held
    : (number : ℕ) (kept : Option Mapping) (reply : Reply) → IsHeldReply kept reply
    → IsSaid number (answer.Mapping kept) reply
held number None reply json past asked at last = absurd json
held number (Some m) reply json past (read.Mapping id) at last =
    let is = at.1 in
    let same = same_mapping m is.1.mapping (at.0 ∙ sym is.4.0) (sym is.4.1) in
    (is.0, is.1, is.2, is.3, (is.4.0, subst (λ m. IsJsonReply 200 (json_of_held m) reply) same json))
held number (Some m) reply json past asked at last = absurd at

pub not_held
    : (kept : Option Mapping) (reason : ErrorCode)
    → (reason ≡ code.OutOfMemory) ⊎ ((reason ≡ code.UnknownMapping) × (kept ≡ None))
    → IsUnsaid (answer.Mapping kept) reason
not_held kept reason (inl memory) = inl memory
not_held kept reason (inr none) = inr (λ past asked says.
    missing past asked (subst (λ k. IsReadAnswer past asked (answer.Mapping k)) none.1 says))
  where
    missing : (past : Past) (asked : BookRead) → IsReadAnswer past asked (answer.Mapping None)
        → HasNoReadReply asked reason past
    missing past (read.Mapping id) says = (none.0, says)
    missing past asked says = absurd says

pub recording_status
    : (number : ℕ) (found : RecordingStatus) (reply : Reply) → IsJsonReply 200 (json_of_status found) reply
    → IsSaid number (answer.RecordingStatus found) reply
recording_status number found reply json past read.RecordingStatus says last =
    subst (λ s. IsJsonReply 200 (json_of_status s) reply) says json
recording_status number found reply json past asked says last = absurd says

pub recording_har
    : (number : ℕ) (kept : Recording) (reply : Reply) → IsHarReply (session_of kept) reply
    → IsSaid number (answer.Recording kept) reply
recording_har number kept reply har past read.Recording says last =
    subst (λ r. IsHarReply (session_of r) reply) says har
recording_har number kept reply har past asked says last = absurd says

pub no_har
    : (kept : Recording) (reason : ErrorCode) → (reason ≡ code.OutOfMemory) ⊎ HasNoHar (session_of kept) reason
    → IsUnsaid (answer.Recording kept) reason
no_har kept reason (inl memory) = inl memory
no_har kept reason (inr none) = inr (λ past asked says. missing past asked says)
  where
    missing : (past : Past) (asked : BookRead) → IsReadAnswer past asked (answer.Recording kept)
        → HasNoReadReply asked reason past
    missing past read.Recording says = subst (λ r. HasNoHar (session_of r) reason) says none
    missing past asked says = absurd says

-- ---- the past is that after what was seen

pub replied_in
    : {A E : Type 0} (origin : Past) (log : Log) (asked : BookRead) (reading : Reading) (result : Result AdminAnswer E)
    → A → IsRead origin log asked reading
    → IfOk result (λ answer. IsSaid reading.number reading.answer (reply_of answer))
    → IfOk result (λ answer. A × InPastOf origin log (IsReadReply asked (reply_of answer)))
replied_in origin log asked reading (Ok given) caught is says =
    (caught, (is.past, is.past_of, says is.past asked is.answer is.number))
replied_in origin log asked reading (Err why) caught is says = tt

refused_as
    : (origin : Past) (log : Log) (asked : BookRead) (reading : Reading) (reason : ErrorCode)
    → IsRead origin log asked reading → IsUnsaid reading.answer reason
    → (reason ≡ code.OutOfMemory) ⊎ InPastOf origin log (HasNoReadReply asked reason)
refused_as origin log asked reading reason is (inl memory) = inl memory
refused_as origin log asked reading reason is (inr why) =
    inr (is.past, is.past_of, why is.past asked is.answer)

pub refused_in
    : {A : Type 0} (origin : Past) (log : Log) (asked : BookRead) (reading : Reading)
    (result : Result AdminAnswer SharedError) → A → IsRead origin log asked reading
    → IfErr result (λ error. IsUnsaid reading.answer error.code)
    → IfErr result (λ error. A × ((error.code ≡ code.OutOfMemory) ⊎ InPastOf origin log (HasNoReadReply asked error.code)))
refused_in origin log asked reading (Ok given) caught is why = tt
refused_in origin log asked reading (Err error) caught is why =
    (caught, refused_as origin log asked reading error.code is why)
