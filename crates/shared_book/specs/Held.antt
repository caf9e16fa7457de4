-- What a contract sees of a seat.
use Rattle.std.specs.Prelude.{◌≡◌, ◌≤◌, ℕ, ◌+◌, Bool, true, false, List, [], ◌∷◌, ◌++◌, All, filter}
use Rattle.std.specs.List.{AllZip, flat_map, sum_by}
use Rattle.request_journal.specs.Past.{Past}
use Rattle.request_journal.specs.declared.event.Event.{Event}
use Rattle.shared_book.specs.Reached.{IsReached, Log}
use Rattle.shared_book.specs.Receipts.{IsReceiptIn, Line, numbers, numbers_of}
use Rattle.shared_book.specs.declared.receipt.Receipt.{Receipt}
use Rattle.shared_history.specs.Sight.{Sight}

-- its number in the one history, and the beginning of that which it has seen; how many parts of the ledger it has, the
-- receipts of its own calls, and those of the seats that it took over; how many mappings gave way in its last call that
-- was accepted
pub record Held : Type 0 where
  pub number : ℕ
  pub seen : Log
  pub parts : ℕ
  pub own : Line
  pub joined : List Line
  pub replaced : ℕ

-- its number and what it has seen
abbrev pub sight : Held → Sight Past Event
sight seat = record { number = seat.number; seen = seat.seen }

-- a seat that has made no call
abbrev pub new_seat : ℕ → Log → ℕ → Held
new_seat number seen parts = record {
  number = number;
  seen = seen;
  parts = parts;
  own = record { let_go = []; held = [] };
  joined = [];
  replaced = 0;
}

-- its lines of receipts
abbrev pub lists : Held → List Line
lists seat = seat.own ∷ seat.joined

-- those of several seats, and their parts
abbrev pub all_lists : List Held → List Line
all_lists seats = flat_map lists seats

abbrev pub all_parts : List Held → ℕ
all_parts seats = sum_by (λ s. s.parts) seats

-- the receipts that several lines hold, and the numbers of all their receipts
abbrev pub receipts_of : List Line → List Receipt
receipts_of lines = flat_map (λ l. l.held) lines

abbrev pub all_numbers : List Line → List ℕ
all_numbers lines = flat_map numbers_of lines

-- each receipt that one of these lines holds is that of a call of the log
abbrev pub HoldReceipts : Past → Log → List Line → Type 0
HoldReceipts origin log lines = All (IsReceiptIn origin log) (receipts_of lines)

-- the lines that have a receipt
abbrev pub is_filled : List ℕ → Bool
is_filled [] = false
is_filled (n ∷ ns) = true

abbrev pub filled : List Line → List Line
filled lines = filter (λ l. is_filled (numbers_of l)) lines

-- a seat that has taken over another
abbrev pub with_seat : Held → Held → Held
with_seat seat other =
    record seat { parts = seat.parts + other.parts; joined = seat.joined ++ filled (lists other) }

-- ---- letting go of events

-- at a point of the log a checkpoint had dropped the event of this number: the past there begins after it
abbrev pub IsDropped : Past → Log → ℕ → Type 0
IsDropped origin log number = (past : Past) × IsReached origin log past × (number ≤ past.base.number)

-- the line has let go of the events of its first receipts, which have numbers of this kind; the numbers stay
pub record LetsGo (P : ℕ → Type 0) (old new : Line) : Type 0 where
  pub gone : List Receipt
  pub held : old.held ≡ gone ++ new.held
  pub kept : new.let_go ≡ old.let_go ++ numbers gone
  pub allowed : All (λ r. P r.number) gone

-- the seat has let go of events that a checkpoint has dropped, as it has seen, or of none
pub record HasLetGo (origin : Past) (old new : Held) : Type 0 where
  pub parts : new.parts ≡ old.parts
  pub own : LetsGo (IsDropped origin new.seen) old.own new.own
  pub joined : AllZip (LetsGo (IsDropped origin new.seen)) old.joined new.joined

-- one more receipt at the end of its own line
abbrev pub with_receipt : Held → Receipt → Held
with_receipt seat receipt =
    record seat { own = record { let_go = seat.own.let_go; held = seat.own.held ++ receipt ∷ [] } }

-- the seat has gained this receipt, and may have let go of events before; of what it has seen this says nothing
pub record Gained (origin : Past) (old : Held) (receipt : Receipt) (new : Held) : Type 0 where
  pub before : Held
  pub let_go : HasLetGo origin old before
  pub added : new ≡ with_receipt before receipt
