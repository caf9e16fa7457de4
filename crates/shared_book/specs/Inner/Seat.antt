-- What a seat keeps.
use Rattle.std.specs.Prelude.{◌≡◌, ◌<◌, ◌^◌, ℕ, List, [], ◌∷◌, length, map}
use Rattle.std.specs.List.{flat_map}
use Rattle.request_journal.specs.Past.{Past}
use Rattle.shared_book.specs.Held.{HoldReceipts, IsDropped, all_numbers}
use Rattle.shared_book.specs.Reached.{IsLawful, Log}
use Rattle.shared_book.specs.Receipts.{Line}
use Rattle.shared_book.specs.declared.pile.Pile.{Pile}
use Rattle.shared_book.specs.declared.pile.Pile.TheVariants.{Short, Whole}
use Rattle.shared_book.specs.declared.receipt_list.ReceiptList.{ReceiptList}

-- the line of a list of receipts
abbrev pub line_of : ReceiptList → Line
line_of list = record { let_go = list.let_go; held = list.held.items }

-- the line of receipts whose events are all let go
abbrev pub free_line : List ℕ → Line
free_line numbers = record { let_go = numbers; held = [] }

-- the lines of a pile
abbrev pub lines_of : Pile → List Line
lines_of (Whole list) = line_of list ∷ []
lines_of (Short lists) = map free_line lists

-- the lines of several
abbrev pub lines_in : List Pile → List Line
lines_in piles = flat_map lines_of piles

-- The share has the seat's parts, of which there is one at least, and an entry for each receipt. What was seen is a
-- history of this book, in which a checkpoint has dropped the events up to the number that the seat was told, and of
-- whose calls the receipts are that are held.
pub record IsSeat (origin : Past) (all_parts share_parts share_amount parts count told : ℕ) (seen : Log)
    (lines : List Line) : Type 0 where
  pub same_parts : share_parts ≡ parts
  pub some : 0 < parts
  pub fits : all_parts < 2 ^ 64
  pub same_count : share_amount ≡ count
  pub counted : count ≡ length (all_numbers lines)
  pub lawful : IsLawful origin seen
  pub dropped : IsDropped origin seen told
  pub receipts : HoldReceipts origin seen lines
