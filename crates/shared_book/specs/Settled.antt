-- What is said of all seats of a book together, once each of them is there.
use Rattle.std.specs.Prelude.{◌≡◌, ◌≢◌, ◌⊎◌, ◌+◌, ◌<◌, ◌≤◌, ℕ, List, length, All, Any, IfSome, IsPermutation}
use Rattle.std.specs.List.{range_with_len}
use mathlib.Core.List.{IsPrefix}
use Rattle.std.specs.List.Sorted.{IsNonDecreasingBy}
use Rattle.request_journal.specs.Journal.{event_at}
use Rattle.request_journal.specs.Legal.{IsLegal}
use Rattle.request_journal.specs.Past.{Past, last_number}
use Rattle.shared_book.specs.Held.{Held, all_lists, all_numbers, all_parts, receipts_of}
use Rattle.shared_book.specs.Reached.{IsLawful, IsPastOf, Log, MayFollow}
use Rattle.shared_history.specs.Entries.{events}
use Rattle.shared_history.specs.History.{HasEnded}
use Rattle.shared_history.specs.Seal.{IsSeen}
use Rattle.logbook.specs.Pages.{Book as HistoryName}
use Rattle.shared_book.specs.Receipts.{Line, IsRising, Falls, LetGoUpTo, LetGoAbove, count_of}
use Rattle.shared_book.specs.declared.settled.Settled.{Settled}
use Rattle.shared_book.specs.declared.settled.SettleRefusal.{SettleRefusal}
use Rattle.shared_book.specs.declared.settled.SettleRefusal.TheVariants.{SeatsMissing, Mismatch, OutOfMemory}

-- These lines of receipts are those of the calls of this history: the past after them is legal, there is one receipt
-- for each number after the origin's last up to the past's last, the events of those that the past keeps are held, and
-- each event that is held is the one of its number, where the past keeps that.
pub record IsSettled (origin : Past) (whole : Log) (past : Past) (lines : List Line) (settled : Settled)
    : Type 0 where
  pub lawful : IsLawful origin whole
  pub past_of : IsPastOf origin whole past
  pub legal : IsLegal past
  pub events : settled.events ≡ last_number past
  pub counted : settled.events ≡ last_number origin + length (all_numbers lines)
  pub numbered : IsPermutation (all_numbers lines)
      (range_with_len (last_number origin + 1) (length (all_numbers lines)))
  pub rising : All IsRising lines
  pub let_go : All (LetGoUpTo past.base.number) lines
  pub held : IsPermutation (receipts_of lines) settled.receipts.items
  pub ordered : IsNonDecreasingBy (λ r. r.number) settled.receipts.items
  pub kept : All (λ r. IfSome (event_at past r.number) (λ event. r.event ≡ event)) settled.receipts.items

-- what each of these seats has seen is a beginning of the log
abbrev pub HaveSeen : Log → List Held → Type 0
HaveSeen whole seats = All (λ seat. IsPrefix seat.seen whole) seats

-- where these are as many as the numbers after `start`, this is one of those
abbrev pub IsDue : ℕ → List ℕ → ℕ → Type 0
IsDue start numbers number = (start < number) × (number ≤ start + length numbers)

-- the number should be there once and isn't or is more often, or shouldn't be and is
abbrev pub IsMiscounted : ℕ → List ℕ → ℕ → Type 0
IsMiscounted start numbers number =
    (IsDue start numbers number × (count_of number numbers ≢ 1))
    ⊎ (¬ (IsDue start numbers number) × (0 < count_of number numbers))

-- These lines aren't those of one history, as this number shows: it is miscounted; it isn't above the one before it in
-- a line; or a line has let go of its event, which the past didn't drop.
abbrev pub IsMismatch : Past → Past → List Line → ℕ → Type 0
IsMismatch origin past lines number =
    IsMiscounted (last_number origin) (all_numbers lines) number
    ⊎ Any (Falls number) lines
    ⊎ Any (LetGoAbove past.base.number number) lines

-- why seats with these parts and receipts aren't settled
abbrev pub IsUnsettled : Past → ℕ → Past → List Held → SettleRefusal → Type 0
IsUnsettled origin parts past seats SeatsMissing = all_parts seats ≢ parts
IsUnsettled origin parts past seats (Mismatch number kept) =
    (all_parts seats ≡ parts) × (kept ≡ event_at past number)
    × IsMismatch origin past (all_lists seats) number
IsUnsettled origin parts past seats OutOfMemory = all_parts seats ≡ parts

-- ---- of seats

-- the seats have all parts; the history with this name has ended, as each seat has left, so that no call can follow;
-- what each of these seats has seen is a beginning of it, and their receipts are those of its calls, which are as many
-- as are counted since the book was shared
pub record AreSettled (origin : Past) (parts : ℕ) (name : HistoryName) (seats : List Held) (settled : Settled)
    : Type 0 where
  pub whole : Log
  pub past : Past
  pub all : all_parts seats ≡ parts
  pub was_seen : IsSeen MayFollow name whole
  pub ended : HasEnded whole
  pub seen : HaveSeen whole seats
  pub one_history : IsSettled origin whole past (all_lists seats) settled
  pub calls : settled.events ≡ last_number origin + length (events whole)

-- what each of these seats has seen is a beginning of the history with this name, as it then is, and they aren't
-- settled, for a reason in the past after it
pub record AreUnsettled (origin : Past) (parts : ℕ) (name : HistoryName) (seats : List Held) (reason : SettleRefusal)
    : Type 0 where
  pub whole : Log
  pub past : Past
  pub was_seen : IsSeen MayFollow name whole
  pub seen : HaveSeen whole seats
  pub lawful : IsLawful origin whole
  pub past_of : IsPastOf origin whole past
  pub why : IsUnsettled origin parts past seats reason
