-- Receipts: what one says of its call, and how the numbers in a line of them go on.
use Rattle.std.specs.Prelude.{◌≡◌, ◌+◌, ◌==◌, ◌≤◌, ◌<◌, ℕ, List, [], ◌∷◌, ◌++◌, map}
use Rattle.std.specs.Prelude.{All, Contains, count_by, length, slice_index}
use Rattle.std.specs.List.Sorted.{IsStrictlyIncreasing}
use mathlib.Core.List.{IsPrefix}
use Rattle.request_journal.specs.Legal.{IsNext}
use Rattle.request_journal.specs.Past.{Past, last_number}
use Rattle.shared_book.specs.Reached.{IsPastOf, Log}
use Rattle.shared_book.specs.declared.receipt.Receipt.{Receipt}
use Rattle.shared_history.specs.Entries.{entry}
use Rattle.shared_history.specs.declared.entry.Deed.TheVariants.{Called}

-- the receipt of an accepted call: the log has its event as a call of the seat with this number; it is the right answer
-- in the past after the calls before it, and has the number after that past's last
pub record IsReceipt (origin : Past) (seat : ℕ) (log : Log) (receipt : Receipt) : Type 0 where
  pub before : Log
  pub entered : IsPrefix (before ++ entry seat (Called receipt.event) ∷ []) log
  pub past : Past
  pub past_of : IsPastOf origin before past
  pub next : IsNext past receipt.event
  pub number : receipt.number ≡ last_number past + 1

-- that of a call of some seat
pub record IsReceiptIn (origin : Past) (log : Log) (receipt : Receipt) : Type 0 where
  pub seat : ℕ
  pub is : IsReceipt origin seat log receipt

abbrev pub numbers : List Receipt → List ℕ
numbers receipts = map (λ r. r.number) receipts

-- receipts in the order of their calls: of the first, whose events were let go, the numbers; then those that are held
pub record Line : Type 0 where
  pub let_go : List ℕ
  pub held : List Receipt

abbrev pub numbers_of : Line → List ℕ
numbers_of line = line.let_go ++ numbers line.held

-- each number is greater than the one before it
abbrev pub IsRising : Line → Type 0
IsRising line = IsStrictlyIncreasing (numbers_of line)

-- this number of the line isn't above the one before it
abbrev pub Falls : ℕ → Line → Type 0
Falls number line =
    (k : ℕ) × (k + 1 < length (numbers_of line)) × (slice_index (numbers_of line) (k + 1) ≡ number)
    × (number ≤ slice_index (numbers_of line) k)

-- the line has let go of events up to this number alone
abbrev pub LetGoUpTo : ℕ → Line → Type 0
LetGoUpTo last line = All (λ n. n ≤ last) line.let_go

-- it has let go of the event of this number, which is greater
abbrev pub LetGoAbove : ℕ → ℕ → Line → Type 0
LetGoAbove last number line = Contains line.let_go number × (last < number)

-- how often the number is there
abbrev pub count_of : ℕ → List ℕ → ℕ
count_of number numbers = count_by (λ n. n == number) numbers

-- the receipt is the last of the list
abbrev pub IsLast : Receipt → List Receipt → Type 0
IsLast receipt receipts = (earlier : List Receipt) × (receipts ≡ earlier ++ receipt ∷ [])
