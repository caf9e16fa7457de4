-- What each front, seat and history keeps.
use Rattle.std.specs.Prelude.{◌≡◌, ◌⊎◌, ◌≤◌, ℕ, false, List, [], ◌∷◌, ◌++◌, length}
use Rattle.logbook.specs.Pages.{Book as HistoryName, Nib, Named, may_write}
use Rattle.shared_history.specs.Entries.{entry, own, is_left, IsSeat}
use Rattle.shared_history.specs.History.{HasLeft}
use Rattle.shared_history.specs.Inner.Lines.{entries_of, IsLegal, HasTurn}
use Rattle.shared_history.specs.Inner.Law.{head_of}
use Rattle.shared_history.specs.Sight.{IsIn}
use Rattle.shared_history.specs.declared.entry.Deed.{Deed}
use Rattle.shared_history.specs.declared.entry.Deed.TheVariants.{Split, Left}
use Rattle.shared_history.specs.declared.entry.Entry.{Entry}
use Rattle.shared_history.specs.declared.line.Line.{Line}

abbrev pub IsAmong : ℕ → List ℕ → Type 0
IsAmong number [] = ⊥
IsAmong number (n ∷ ns) = (number ≡ n) ⊎ IsAmong number ns

-- each seat that was made and has not left is among so many
pub record HasSeats {O E : Type 0} (count : ℕ) (log : List (Entry O E)) : Type 0 where
  pub numbers : List ℕ
  pub counted : count ≡ length numbers
  pub all : (number : ℕ) → IsSeat log number → IsAmong number numbers

module _ {O E : Type 0} (may : O → List E → E → Type 0) (named : HistoryName) where
  -- a front: the lines are of this history, and so many
  pub record IsFront (count : ℕ) (book : HistoryName) (lines : List (Line O E)) : Type 0 where
    pub name : book ≡ named
    pub counted : count ≡ length lines
    pub legal : IsLegal may lines

  -- a seat: it has a turn, the right to a cell that is away
  pub record IsSeated (number count : ℕ) (book : HistoryName) (lines : List (Line O E)) (pen : HistoryName) (nib : Nib) : Type 0 where
    pub front : IsFront count book lines
    pub pen_name : pen ≡ named
    pub right : nib.right ≡ may_write
    pub has : HasTurn may lines number nib.key

  -- the history: all lines, and how many seats have not left
  pub record IsAll (head : Named) (count seats : ℕ) (book : HistoryName) (lines : List (Line O E)) : Type 0 where
    pub head_is : head ≡ head_of named
    pub front : IsFront count book lines
    pub has_seats : HasSeats seats (entries_of lines)
    pub fits : seats ≤ count

-- a history that was just opened, and the turn of its first seat
module _ {O E : Type 0} (may : O → List E → E → Type 0) where
  pub record IsOpened (head : Named) (book : HistoryName) (lines : List (Line O E)) (pen : HistoryName) (nib : Nib) : Type 0 where
    pub head_is : head ≡ head_of book
    pub pen_name : pen ≡ book
    pub right : nib.right ≡ may_write
    pub one : length lines ≡ 1
    pub has : HasTurn may lines 0 nib.key

  -- the seat has made one entry, and has the turn `next`; the seat that it made has the turn `child`
  pub record IsWritten (seen old new : List (Line O E)) (number next child : ℕ) (deed : Deed O E) : Type 0 where
    pub before : IsIn (entries_of old) (record { number = number; seen = entries_of seen })
    pub seat : IsSeat (entries_of old) number
    pub added : entries_of new ≡ entries_of old ++ entry number deed ∷ []
    pub legal : IsLegal may new
    pub has_next : is_left deed ≡ false → HasTurn may new number next
    pub has_child : deed ≡ Split → HasTurn may new (length old) child × (own (length old) (entries_of new) ≡ [])
    pub has_left : deed ≡ Left → HasLeft may (entries_of new) number
