-- What a contract sees of a `History`.
use Rattle.std.specs.Prelude.{ℕ}
use Rattle.request_journal.specs.Past.{Past}

-- the past, and for how many more events memory was reserved
pub record Kept : Type 0 where
  pub past : Past
  pub spare : ℕ
