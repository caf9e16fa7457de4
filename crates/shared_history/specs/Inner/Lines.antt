-- The lines that the log keeps: entries, each with the turn that it uses up and the turn that its seat has next.
use Rattle.std.specs.Prelude.{◌≡◌, ◌≢◌, ℕ, suc, ◌==◌, cond, List, [], ◌∷◌, All, map}
use Rattle.shared_history.specs.Entries.{entry, IsSeat}
use Rattle.shared_history.specs.History.{IsHistory}
use Rattle.shared_history.specs.declared.entry.Deed.{Deed}
use Rattle.shared_history.specs.declared.entry.Entry.{Entry}
use Rattle.shared_history.specs.declared.line.Line.{Line}

module _ {O E : Type 0} where
  abbrev pub entries_of : List (Line O E) → List (Entry O E)
  entries_of lines = map (λ l. l.entry) lines

  abbrev pub line : ℕ → Deed O E → ℕ → ℕ → ℕ → Line O E
  line seat deed turn next child = record { entry = entry seat deed; turn = turn; next = next; child = child }

  -- the turn that a seat has after the line with this index, where it had `turn` before
  abbrev pub next_turn : ℕ → ℕ → ℕ → Line O E → ℕ
  next_turn number index turn l = cond (l.entry.seat == number) l.next (cond (index == number) l.child turn)

  abbrev pub turn_from : ℕ → ℕ → ℕ → List (Line O E) → ℕ
  turn_from number index turn [] = turn
  turn_from number index turn (l ∷ lines) = turn_from number (suc index) (next_turn number index turn l) lines

  -- the turn that a seat has after these lines: a number of a cell
  abbrev pub turn_of : List (Line O E) → ℕ → ℕ
  turn_of lines number = turn_from number 0 0 lines

  -- each line of the seat uses up the turn that the seat has
  abbrev pub TakesTurns : ℕ → ℕ → ℕ → List (Line O E) → Type 0
  TakesTurns number index turn [] = Unit {0}
  TakesTurns number index turn (l ∷ lines) = (l.entry.seat ≡ number → l.turn ≡ turn)
      × TakesTurns number (suc index) (next_turn number index turn l) lines

  -- from the second line on, each does so
  abbrev pub AreTurns : List (Line O E) → Type 0
  AreTurns [] = Unit {0}
  AreTurns (l ∷ lines) = (number : ℕ) → TakesTurns number 1 (next_turn number 0 0 l) lines

  -- no line uses it up
  abbrev pub IsUnused : ℕ → List (Line O E) → Type 0
  IsUnused key lines = All (λ l. l.turn ≢ key) lines

  pub record IsLegal (may : O → List E → E → Type 0) (lines : List (Line O E)) : Type 0 where
    pub history : IsHistory may (entries_of lines)
    pub turns : AreTurns lines

  -- the seat was made, has not left, and has this turn
  pub record HasTurn (may : O → List E → E → Type 0) (lines : List (Line O E)) (number key : ℕ) : Type 0 where
    pub legal : IsLegal may lines
    pub seat : IsSeat (entries_of lines) number
    pub turn : turn_of lines number ≡ key
