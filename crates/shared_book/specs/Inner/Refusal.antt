-- How a mismatch at a number is refused.
use Rattle.std.specs.Prelude.{◌≡◌, ℕ, Option}
use Rattle.request_journal.specs.declared.event.Event.{Event}
use Rattle.shared_book.specs.declared.settled.SettleRefusal.{SettleRefusal}
use Rattle.shared_book.specs.declared.settled.SettleRefusal.TheVariants.{SeatsMissing, Mismatch, OutOfMemory}

-- with this event and number; or memory ran out
abbrev pub IsRefusalAt : Option Event → ℕ → SettleRefusal → Type 0
IsRefusalAt event number SeatsMissing = ⊥
IsRefusalAt event number (Mismatch at kept) = (at ≡ number) × (kept ≡ event)
IsRefusalAt event number OutOfMemory = Unit {0}
