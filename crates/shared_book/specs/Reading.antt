-- What is answered to who reads a book.
use Rattle.std.specs.Prelude.{◌≡◌, ℕ, List, Any, Some, None}
use Rattle.logbook.specs.Pages.{Book as HistoryName}
use Rattle.mapping_store.specs.Stored.{IsNewestFirst}
use Rattle.recorder.specs.Recording.{status_of}
use Rattle.request_journal.specs.Journal.{requests, unmatched}
use Rattle.request_journal.specs.Legal.{IsLive}
use Rattle.request_journal.specs.Live.{live}
use Rattle.request_journal.specs.Past.{Past, last_number}
use Rattle.request_journal.specs.Recording.{recording}
use Rattle.request_journal.specs.State.{state}
use Rattle.scenario_core.specs.Scenarios.{state_of}
use Rattle.shared_book.specs.Reached.{IsLawful, IsPastOf, Log, MayFollow}
use Rattle.request_journal.specs.declared.read.BookRead.{BookRead}
use Rattle.request_journal.specs.declared.read.BookRead.TheVariants as read
use Rattle.shared_book.specs.declared.book_read.ReadAnswer.{ReadAnswer}
use Rattle.shared_book.specs.declared.book_read.ReadAnswer.TheVariants as answer
use Rattle.shared_book.specs.declared.book_read.Reading.{Reading}
use Rattle.shared_history.specs.Seal.{IsSeen}

-- the answer is what the past says: mappings and requests the newest first; where requests are to be matched, all
-- requests with the matcher. These are values, for who has a seat; `IsReadReply` of `admin_answers` says what a client
-- of the admin API is sent, as JSON, and `replied_in` of its `proofs/ReadLemmas.antt` leads from this to that.
abbrev pub IsReadAnswer : Past → BookRead → ReadAnswer → Type 0
IsReadAnswer past read.Mappings (answer.Mappings mappings) = IsNewestFirst (live past) mappings.items
IsReadAnswer past (read.Mapping id) (answer.Mapping None) = ¬ (IsLive past id)
IsReadAnswer past (read.Mapping id) (answer.Mapping (Some mapping)) =
    (mapping.id ≡ id) × Any (λ p. (p.mapping.id ≡ id) × (p.mapping.spec ≡ mapping.spec)) (live past)
IsReadAnswer past read.Requests (answer.Requests entries) = entries.items ≡ requests past
IsReadAnswer past read.Unmatched (answer.Unmatched entries) = entries.items ≡ unmatched past
IsReadAnswer past (read.Find asked) (answer.Find entries matcher) =
    (entries.items ≡ requests past) × (matcher ≡ asked)
IsReadAnswer past (read.Count asked) (answer.Count entries matcher) =
    (entries.items ≡ requests past) × (matcher ≡ asked)
IsReadAnswer past read.Scenarios (answer.Scenarios states mappings) =
    ((name : List ℕ) → state_of states name ≡ state past name) × IsNewestFirst (live past) mappings.items
IsReadAnswer past read.RecordingStatus (answer.RecordingStatus status) = status ≡ status_of (recording past)
IsReadAnswer past read.Recording (answer.Recording kept) = kept ≡ recording past
IsReadAnswer past asked other = ⊥

-- the answer is what the past after the calls of the log says, with the number of its last event
pub record IsRead (origin : Past) (log : Log) (asked : BookRead) (reading : Reading) : Type 0 where
  pub past : Past
  pub past_of : IsPastOf origin log past
  pub number : reading.number ≡ last_number past
  pub answer : IsReadAnswer past asked reading.answer

-- the answer is what the past after the history with this name says, as that was at some point: for who has no seat,
-- so that nothing says at which
pub record IsReadOnce (origin : Past) (name : HistoryName) (asked : BookRead) (found : ReadAnswer) : Type 0 where
  pub log : Log
  pub lawful : IsLawful origin log
  pub was_seen : IsSeen MayFollow name log
  pub past : Past
  pub past_of : IsPastOf origin log past
  pub answer : IsReadAnswer past asked found
