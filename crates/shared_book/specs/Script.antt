-- Scripts of calls: the receipts of the calls that were accepted, and what two scripts that were played leave.
use Rattle.std.specs.Prelude.{◌≡◌, ◌⊎◌, ◌-◌, ℕ, List, [], ◌∷◌, ◌++◌, Option, Some, None}
use mathlib.Core.List.{IsPrefix}
use Rattle.request_journal.specs.Input.{IsAsked}
use Rattle.request_journal.specs.Past.{Past}
use Rattle.request_journal.specs.declared.event.Event.{Event}
use Rattle.request_journal.specs.declared.event.Event.TheVariants as event
use Rattle.shared_book.specs.Held.{Held, HasLetGo, IsDropped, LetsGo, lists, new_seat}
use Rattle.logbook.specs.Pages.{Book as HistoryName}
use Rattle.shared_book.specs.Reached.{Log, MayFollow}
use Rattle.shared_book.specs.Receipts.{IsReceipt, Line}
use Rattle.shared_book.specs.Settled.{AreUnsettled, IsSettled}
use Rattle.shared_book.specs.declared.receipt.Receipt.{Receipt}
use Rattle.shared_book.specs.declared.script.Call.{Call}
use Rattle.shared_book.specs.declared.script.Call.TheVariants.{Serve, Apply}
use Rattle.shared_book.specs.declared.settled.Settled.{Settled}
use Rattle.shared_book.specs.declared.settled.SettleRefusal.{SettleRefusal}
use Rattle.shared_book.specs.declared.settled.SettleRefusal.TheVariants.{OutOfMemory}
use Rattle.shared_history.specs.History.{HasEnded}
use Rattle.shared_history.specs.Seal.{IsSeen}

-- the event is what the call asks for, with whatever answer
abbrev pub IsAskedBy : Call → Event → Type 0
IsAskedBy (Serve request) (event.Serve served answer) = served ≡ request
IsAskedBy (Serve request) other = ⊥
IsAskedBy (Apply input) event = IsAsked input event

-- these receipts are those of the accepted ones among the calls, in their order, by the seat of this number
abbrev pub AreReceiptsOf : Past → ℕ → Log → List Call → List Receipt → Type 0
AreReceiptsOf origin seat log [] receipts = receipts ≡ []
AreReceiptsOf origin seat log (call ∷ calls) receipts =
    ((receipt : Receipt) × (rest : List Receipt) × (receipts ≡ receipt ∷ rest)
    × IsAskedBy call receipt.event × IsReceipt origin seat log receipt × AreReceiptsOf origin seat log calls rest)
    ⊎ AreReceiptsOf origin seat log calls receipts

-- these receipts at the end of its own line
abbrev pub with_receipts : Held → List Receipt → Held
with_receipts seat receipts =
    record seat { own = record { let_go = seat.own.let_go; held = seat.own.held ++ receipts } }

-- a seat has made the calls: the receipts of those that were accepted came to the end of its own line, and it may have
-- let go of events
pub record Plays (origin : Past) (old new : Held) (calls : List Call) : Type 0 where
  pub receipts : List Receipt
  pub are : AreReceiptsOf origin new.number new.seen calls receipts
  pub let_go : HasLetGo origin (with_receipts old receipts) new
  pub number : new.number ≡ old.number
  pub begins : IsPrefix old.seen new.seen

-- the line has the receipts of the calls that were accepted, in their order, as the log has them by one seat, and may
-- have let go of events
pub record IsLineOf (origin : Past) (log : Log) (calls : List Call) (line : Line) : Type 0 where
  pub seat : ℕ
  pub receipts : List Receipt
  pub are : AreReceiptsOf origin seat log calls receipts
  pub let_go : LetsGo (IsDropped origin log) (record { let_go = []; held = receipts }) line

-- two scripts were played beside a seat's earlier calls: each script's accepted calls have their receipts in a line of
-- their own, in its order, and all lines together are settled, so that the numbers rise in each; and the history has
-- ended
pub record IsPlayed (origin : Past) (name : HistoryName) (seat : Held) (first second : List Call) (settled : Settled)
    : Type 0 where
  pub one : Line
  pub two : Line
  pub whole : Log
  pub was_seen : IsSeen MayFollow name whole
  pub ended : HasEnded whole
  pub begins : IsPrefix seat.seen whole
  pub of_first : IsLineOf origin whole first one
  pub of_second : IsLineOf origin whole second two
  pub past : Past
  pub settled_all : IsSettled origin whole past (lists seat ++ (one ∷ two ∷ [])) settled

-- there was no memory for a list of the seats: no call was made, and the seat is handed back as it was
abbrev pub IsUnplayed : Held → SettleRefusal → Option Held → List Held → Type 0
IsUnplayed seat reason alone seats = (reason ≡ OutOfMemory) × (alone ≡ Some seat) × (seats ≡ [])

-- a new seat has made the calls
abbrev pub HasPlayed : Past → List Call → Held → Type 0
HasPlayed origin calls seat = (number : ℕ) × (seen : Log) × Plays origin (new_seat number seen 1) seat calls

-- two parts of the seat were given to new ones, and it may have seen more
pub record HasGivenTwo (old new : Held) : Type 0 where
  pub same : new ≡ record old { parts = old.parts - 2; seen = new.seen }
  pub begins : IsPrefix old.seen new.seen

-- the scripts were played, which stands, and couldn't be settled: the seat and those of the scripts are handed back
pub record IsStopped (origin : Past) (parts : ℕ) (name : HistoryName) (seat : Held) (first second : List Call)
    (reason : SettleRefusal) (alone : Option Held) (seats : List Held) : Type 0 where
  pub left : Held
  pub one : Held
  pub two : Held
  pub gave : HasGivenTwo seat left
  pub played_one : HasPlayed origin first one
  pub played_two : HasPlayed origin second two
  pub handed_back : seats ≡ left ∷ one ∷ two ∷ []
  pub listed : alone ≡ None
  pub why : AreUnsettled origin parts name seats reason
