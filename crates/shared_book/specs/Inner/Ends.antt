-- How a shared book is settled.
use Rattle.std.specs.Prelude.{◌≡◌, ℕ, List}
use mathlib.Core.List.{IsPrefix}
use Rattle.logbook.specs.Pages.{Book as HistoryName}
use Rattle.request_journal.specs.Past.{Past}
use Rattle.shared_book.specs.Held.{Held, all_lists, all_parts}
use Rattle.shared_book.specs.Reached.{IsLawful, Log, MayFollow}
use Rattle.shared_book.specs.Settled.{HaveSeen, IsSettled}
use Rattle.shared_book.specs.declared.settled.Settled.{Settled}
use Rattle.shared_history.specs.Entries.{events}
use Rattle.shared_history.specs.History.{HasEnded}
use Rattle.shared_history.specs.Seal.{IsSeen}

-- the seats have all parts, each has seen a beginning of the history, and their receipts are those of its calls
pub record HaveAgreed (origin : Past) (parts : ℕ) (whole : Log) (past : Past) (seats : List Held) (settled : Settled)
    : Type 0 where
  pub all : all_parts seats ≡ parts
  pub seen : HaveSeen whole seats
  pub one_history : IsSettled origin whole past (all_lists seats) settled

-- the history goes on, or not, without a call
pub record HasSameCalls (origin : Past) (old new : Log) : Type 0 where
  pub begins : IsPrefix old new
  pub calls : events new ≡ events old
  pub lawful : IsLawful origin new

-- until it has ended
pub record Ends (origin : Past) (name : HistoryName) (old new : Log) : Type 0 where
  pub same : HasSameCalls origin old new
  pub was_seen : IsSeen MayFollow name new
  pub ended : HasEnded new
