-- What the lock keeps.
use Rattle.std.specs.Prelude.{◌≡◌, ◌+◌, ◌<◌, ℕ}
use Rattle.request_journal.specs.Past.{Past, last_number}
use Rattle.shared_book.specs.Reached.{IsLawful, IsPastOf, Log}

-- the whole history, and the past after its calls
pub record Content : Type 0 where
  pub past : Past
  pub whole : Log

-- as many calls were made since the origin as the ledger has entries
pub record IsKept (origin : Past) (all_parts : ℕ) (past : Past) (whole : Log) (entries parts start : ℕ)
    : Type 0 where
  pub lawful : IsLawful origin whole
  pub past_of : IsPastOf origin whole past
  pub same_start : start ≡ last_number origin
  pub counted : last_number past ≡ last_number origin + entries
  pub same_parts : parts ≡ all_parts
  pub some : 0 < all_parts
