-- Events with their numbers, and what the last of several says.
use Rattle.std.specs.Prelude.{ℕ, ◌+◌, Bool, List, [], ◌∷◌, Option, None, cond}
use Rattle.std.specs.List.{list_any}
use Rattle.std.specs.Option.{option_or}
use Rattle.request_journal.specs.declared.event.Event.{Event}

pub record Numbered : Type 0 where
  pub number : ℕ
  pub event : Event

-- the events, numbered from this number on
abbrev pub numbered : ℕ → List Event → List Numbered
numbered number [] = []
numbered number (e ∷ es) = record { number = number; event = e } ∷ numbered (number + 1) es

-- what the last item that says something says
abbrev pub last_of : {X Y : Type 0} → (X → Option Y) → List X → Option Y
last_of says [] = None
last_of says (x ∷ xs) = option_or (last_of says xs) (says x)

-- the items after the last that passes the test; all of them where none does
abbrev pub after_last : {X : Type 0} → (X → Bool) → List X → List X
after_last test [] = []
after_last test (x ∷ xs) = cond (list_any test (x ∷ xs)) (after_last test xs) (x ∷ xs)
