-- What a shared book answers to an admin call (WireMock's documentation, "Admin API"), and why it is refused.
use Rattle.std.specs.Prelude.{◌≡◌, ◌⊎◌, ℕ, List, Option, Some, None, Any}
use Rattle.admin_json.specs.Mappings.{json_of_held, json_of_mappings}
use Rattle.admin_json.specs.Recordings.{json_of_recorded, json_of_status}
use Rattle.admin_json.specs.Requests.{json_of_requests, json_of_found, json_of_number}
use Rattle.admin_json.specs.Scenarios.{json_of_scenarios}
use Rattle.admin_answers.specs.JsonReply.{IsJsonReply}
use Rattle.admin_answers.specs.Recordings.{IsHarReply, HasNoHar}
use Rattle.admin_routes.specs.declared.call.AdminCall.{AdminCall}
use Rattle.admin_routes.specs.declared.call.AdminCall.TheVariants as call
use Rattle.error_code.specs.declared.error_code.ErrorCode.{ErrorCode}
use Rattle.error_code.specs.declared.error_code.ErrorCode.TheVariants as code
use Rattle.logbook.specs.Pages.{Book as HistoryName}
use Rattle.mapping_model.specs.declared.reply.Reply.{Reply}
use Rattle.mapping_store.specs.Stored.{IsNewestFirst}
use Rattle.recorder.specs.Recording.{session_of, status_of}
use Rattle.request_journal.specs.Input.{IsAsked}
use Rattle.request_journal.specs.Journal.{requests, unmatched, IsCount, Picks}
use Rattle.request_journal.specs.Legal.{IsLive}
use Rattle.request_journal.specs.Live.{live}
use Rattle.request_journal.specs.Past.{Past}
use Rattle.request_journal.specs.Recording.{recording}
use Rattle.request_journal.specs.State.{state}
use Rattle.request_journal.specs.declared.entry.Entry.{Entry}
use Rattle.request_journal.specs.declared.event.Event.{Event}
use Rattle.request_journal.specs.declared.event.Event.TheVariants as event
use Rattle.request_journal.specs.declared.mapping.Mapping.{Mapping}
use Rattle.request_journal.specs.declared.input.BookInput.{BookInput}
use Rattle.request_journal.specs.declared.read.BookRead.{BookRead}
use Rattle.request_journal.specs.declared.read.BookRead.TheVariants as read
use Rattle.request_match.specs.Matching.{MeetsRequest}
use Rattle.scenario_core.specs.Scenarios.{States, state_of}
use Rattle.serde_json.specs.Data.{object, no_members}
use Rattle.shared_book.specs.Held.{Held}
use Rattle.shared_book.specs.Lent.{Gains}
use Rattle.shared_book.specs.Reached.{InPastOf}
use Rattle.shared_book.specs.Refused.{IsRefused}
use Rattle.shared_book.specs.Seen.{HasCaughtUp}
use Rattle.shared_book.specs.declared.receipt.Receipt.{Receipt}

-- ---- replies

-- the mapping as it is after the event, and 201 where it is a new one; what was recorded, where the event stops a
-- recording; `{}` with any other event
abbrev pub IsChangeReply : Event → Reply → Type 0
IsChangeReply (event.Add mapping) reply = IsJsonReply 201 (json_of_held mapping) reply
IsChangeReply (event.Edit id spec) reply = IsJsonReply 200 (json_of_held (record { id = id; spec = spec })) reply
IsChangeReply (event.StopRecording mappings skipped) reply = IsJsonReply 200 (json_of_recorded mappings skipped) reply
IsChangeReply other reply = IsJsonReply 200 (object no_members) reply

-- the mapping, where there is one
abbrev pub IsHeldReply : Option Mapping → Reply → Type 0
IsHeldReply None reply = ⊥
IsHeldReply (Some mapping) reply = IsJsonReply 200 (json_of_held mapping) reply

-- what is answered in a past to who reads it: mappings and requests the newest first. This is JSON, for who sends
-- HTTP; `IsReadAnswer` of `shared_book` says the values, for who has a seat, and `replied_in` of
-- `proofs/ReadLemmas.antt` leads from those to this.
abbrev pub IsReadReply : BookRead → Reply → Past → Type 0
IsReadReply read.Mappings reply past =
    (listed : List Mapping) × IsNewestFirst (live past) listed × IsJsonReply 200 (json_of_mappings listed) reply
IsReadReply (read.Mapping id) reply past =
    Any (λ p. (p.mapping.id ≡ id) × IsJsonReply 200 (json_of_held p.mapping) reply) (live past)
IsReadReply read.Requests reply past = IsJsonReply 200 (json_of_requests (requests past)) reply
IsReadReply read.Unmatched reply past = IsJsonReply 200 (json_of_found (unmatched past)) reply
IsReadReply (read.Find matcher) reply past =
    (found : List Entry) × Picks (λ entry. MeetsRequest matcher entry.request) (requests past) found
    × IsJsonReply 200 (json_of_found found) reply
IsReadReply (read.Count matcher) reply past =
    (count : ℕ) × IsCount (λ entry. MeetsRequest matcher entry.request) (requests past) count
    × IsJsonReply 200 (json_of_number count) reply
IsReadReply read.Scenarios reply past =
    (states : States) × ((name : List ℕ) → state_of states name ≡ state past name)
    × ((listed : List Mapping) × IsNewestFirst (live past) listed
    × IsJsonReply 200 (json_of_scenarios states listed) reply)
IsReadReply read.RecordingStatus reply past =
    IsJsonReply 200 (json_of_status (status_of (recording past))) reply
IsReadReply read.Recording reply past = IsHarReply (session_of (recording past)) reply

-- why a past has no answer to it
abbrev pub HasNoReadReply : BookRead → ErrorCode → Past → Type 0
HasNoReadReply (read.Mapping id) reason past = (reason ≡ code.UnknownMapping) × ¬ (IsLive past id)
HasNoReadReply read.Recording reason past = HasNoHar (session_of (recording past)) reason
HasNoReadReply other reason past = ⊥

-- ---- calls

-- by a seat of a book that had the past `origin` when it was shared, in the history with this name
module _ (origin : Past) (name : HistoryName) where
  -- the change was made, and this is answered
  abbrev pub IsChanged : Held → Held → BookInput → Reply → Type 0
  IsChanged old new asked reply =
      (receipt : Receipt) × Gains origin name old new (IsAsked asked) receipt × IsChangeReply receipt.event reply

  -- the change was refused; or memory ran out while the answer was written, and the change stands
  abbrev pub IsNotChanged : Held → Held → BookInput → ErrorCode → Type 0
  IsNotChanged old new asked reason =
      IsRefused origin name old new asked reason
      ⊎ ((reason ≡ code.OutOfMemory) × ((receipt : Receipt) × Gains origin name old new (IsAsked asked) receipt))

  -- the call was answered: what it changed is the seat's next call in the one history, and what it read is what the
  -- history says at the entry of the reading
  abbrev pub IsAnsweredByBook : Held → Held → AdminCall → Reply → Type 0
  IsAnsweredByBook old new (call.Change asked) reply = IsChanged old new asked reply
  IsAnsweredByBook old new (call.Read asked) reply =
      HasCaughtUp origin name old new × InPastOf origin new.seen (IsReadReply asked reply)

  -- why the call has no answer, and what it left
  abbrev pub IsUnansweredByBook : Held → Held → AdminCall → ErrorCode → Type 0
  IsUnansweredByBook old new (call.Change asked) reason = IsNotChanged old new asked reason
  IsUnansweredByBook old new (call.Read asked) reason =
      HasCaughtUp origin name old new
      × ((reason ≡ code.OutOfMemory) ⊎ InPastOf origin new.seen (HasNoReadReply asked reason))
