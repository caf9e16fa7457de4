-- What one line shows by itself.
use Rattle.std.specs.Prelude.{◌⊎◌, ℕ}
use Rattle.shared_book.specs.Receipts.{Line, Falls, IsRising, LetGoAbove, LetGoUpTo}

-- its numbers rise, and it has let go of events up to this number alone
abbrev pub IsWellPlaced : ℕ → Line → Type 0
IsWellPlaced last line = IsRising line × LetGoUpTo last line

-- or this number shows that it isn't so
abbrev pub IsMisplaced : ℕ → ℕ → Line → Type 0
IsMisplaced last number line = Falls number line ⊎ LetGoAbove last number line
