-- The law of the log, and what its steps tell.
use Rattle.std.specs.Prelude.{◌≡◌, ℕ, ◌<◌, ◌==◌, ◌⊎◌, true, List, [], ◌∷◌, ◌++◌, length, All, MatchBool}
use Rattle.logbook.specs.Pages.{Cell, cell, Step, View, Book as HistoryName, Named, may_make}
use Rattle.shared_history.specs.declared.line.Line.{Line}
use Rattle.shared_history.specs.Inner.Lines.{IsLegal, IsUnused}

abbrev pub head_of : HistoryName → Named
head_of book = record { tracked = true; key = 0; book = book }

module _ {O E : Type 0} (may : O → List E → E → Type 0) where
  -- nothing yet, or a legal history
  abbrev pub IsBegun : List (Line O E) → Type 0
  IsBegun lines = (lines ≡ []) ⊎ IsLegal may lines

  -- the first word is the length of the history, and the turn that a line used up is at home
  pub record IsKept (cells : List Cell) (lines : List (Line O E)) : Type 0 where
    pub some : 0 < length cells
    pub head : cell cells 0 ≡ (length lines, true)
    pub home : All (λ l. (cell cells l.turn).1 ≡ true) lines
    pub begun : IsBegun lines

  -- a turn was made
  abbrev pub Draws : Step (Line O E) → View (Line O E) ℕ → ℕ → View (Line O E) ℕ → Type 0
  Draws s v found w = w.1.0.right ≡ may_make

  -- the lines so far were seen, none of which uses up the turn that the caller has
  abbrev pub Looks : Step (Line O E) → View (Line O E) ℕ → ℕ → View (Line O E) ℕ → Type 0
  Looks s v found w = (w.1.0 ≡ v.1.0) × IsUnused v.1.0.key w.0

  -- the line was added to all that had been seen, none of which uses up its turn; or there were other lines
  abbrev pub Adds : Step (Line O E) → View (Line O E) ℕ → ℕ → View (Line O E) ℕ → Type 0
  Adds s v found w =
      MatchBool (found == s.old) ((length v.0 ≡ s.old) × IsUnused v.1.0.key v.0 × (w.0 ≡ v.0 ++ s.ask ∷ [])) (Unit {0})
