-- What a seat has seen of the one history, before and after a call.
use Rattle.std.specs.Prelude.{◌≡◌, ◌⊎◌, ◌+◌, ℕ}
use Rattle.logbook.specs.Pages.{Book as HistoryName}
use Rattle.request_journal.specs.Legal.{IsNext}
use Rattle.request_journal.specs.Past.{Past, last_number}
use Rattle.request_journal.specs.declared.event.Event.{Event}
use Rattle.shared_book.specs.Held.{Held, sight}
use Rattle.shared_book.specs.Reached.{IsLawful, IsPastOf, Log, MayFollow}
use Rattle.shared_book.specs.declared.receipt.Receipt.{Receipt}
use Rattle.shared_history.specs.History.{HasLeft}
use Rattle.shared_history.specs.Seal.{IsSeen}
use Rattle.shared_history.specs.Sight.{Calls, CatchesUp, Leaves, Looks, Sight, Splits}
use Rattle.stub_book.specs.Growth.{replaced}

-- of the history with this name, of a book that had the past `origin` when it was shared
module _ (origin : Past) (name : HistoryName) where
  -- all of it was seen, which was entered at its end: each call of another seat is before that entry or after it
  pub record SeesAll (old new : Sight Past Event) : Type 0 where
    pub whole : Log
    pub looks : Looks old whole new
    pub lawful : IsLawful origin new.seen
    pub was_seen : IsSeen MayFollow name new.seen

  -- the event of the receipt was entered at its end, as a call of this seat, and has the number after the last one of
  -- the past before it, of which so many mappings gave way to what it adds
  pub record IsEntered (old new : Sight Past Event) (receipt : Receipt) (count : ℕ) : Type 0 where
    pub whole : Log
    pub calls : Calls receipt.event old whole new
    pub lawful : IsLawful origin new.seen
    pub was_seen : IsSeen MayFollow name new.seen
    pub past : Past
    pub past_of : IsPastOf origin whole past
    pub next : IsNext past receipt.event
    pub number : receipt.number ≡ last_number past + 1
    pub so_many : count ≡ replaced past receipt.event

  -- a new seat was entered at its end, and has made no call
  pub record IsSplit (old new made : Sight Past Event) : Type 0 where
    pub whole : Log
    pub splits : Splits old whole new made
    pub lawful : IsLawful origin new.seen
    pub was_seen : IsSeen MayFollow name new.seen

  -- the end of the other seat was entered at its end, which this one has seen: the other makes no call any more
  pub record IsJoined (old other new : Sight Past Event) : Type 0 where
    pub whole : Log
    pub leaves : Leaves other whole new.seen
    pub catches_up : CatchesUp old new.seen new
    pub left : HasLeft MayFollow new.seen other.number
    pub lawful : IsLawful origin new.seen
    pub was_seen : IsSeen MayFollow name new.seen

  -- ---- of seats with their receipts

  -- the seat has seen all of it, as was entered, and is as before but for that
  pub record HasCaughtUp (old new : Held) : Type 0 where
    pub sees : SeesAll (sight old) (sight new)
    pub same : new ≡ record old { seen = new.seen }

  -- it has made no call
  abbrev pub HasMadeNoCall : Held → Held → Type 0
  HasMadeNoCall old new = (new ≡ old) ⊎ HasCaughtUp old new

  -- its call was entered, and it knows how many mappings gave way
  abbrev pub Enters : Held → Held → Receipt → Type 0
  Enters old new receipt = IsEntered (sight old) (sight new) receipt new.replaced

  abbrev pub HasSplit : Held → Held → Held → Type 0
  HasSplit old new made = IsSplit (sight old) (sight new) (sight made)

  abbrev pub HasJoined : Held → Held → Held → Type 0
  HasJoined old other new = IsJoined (sight old) (sight other) (sight new)
