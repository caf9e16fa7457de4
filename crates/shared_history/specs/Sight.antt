-- What contracts see of a seat, and what its calls do.
use Rattle.std.specs.Prelude.{◌≡◌, ℕ, List, [], ◌∷◌, ◌++◌, length}
use mathlib.Core.List.{IsPrefix}
use Rattle.shared_history.specs.Entries.{entry, own}
use Rattle.shared_history.specs.declared.entry.Deed.TheVariants.{Called, Looked, Split, Left}
use Rattle.shared_history.specs.declared.entry.Entry.{Entry}

-- its number, which is the index of the entry that made it, and the beginning of the history that it has seen
pub record Sight (O E : Type 0) : Type 0 where
  pub number : ℕ
  pub seen : List (Entry O E)

module _ {O E : Type 0} where
  -- what the seat has seen begins the whole history, in which it made no other entry
  pub record IsIn (whole : List (Entry O E)) (old : Sight O E) : Type 0 where
    pub begins : IsPrefix old.seen whole
    pub own : own old.number whole ≡ own old.number old.seen

  -- the history was `whole`, and the seat has called the event, next in the history, and seen all up to there
  pub record Calls (event : E) (old : Sight O E) (whole : List (Entry O E)) (new : Sight O E) : Type 0 where
    pub before : IsIn whole old
    pub number : new.number ≡ old.number
    pub seen : new.seen ≡ whole ++ entry old.number (Called event) ∷ []

  -- the seat has looked, next in the history, and seen all up to there
  pub record Looks (old : Sight O E) (whole : List (Entry O E)) (new : Sight O E) : Type 0 where
    pub before : IsIn whole old
    pub number : new.number ≡ old.number
    pub seen : new.seen ≡ whole ++ entry old.number Looked ∷ []

  -- the seat has seen the whole history
  pub record CatchesUp (old : Sight O E) (whole : List (Entry O E)) (new : Sight O E) : Type 0 where
    pub before : IsIn whole old
    pub number : new.number ≡ old.number
    pub seen : new.seen ≡ whole

  -- the seat has made a seat, which has made no entry
  pub record Splits (old : Sight O E) (whole : List (Entry O E)) (new child : Sight O E) : Type 0 where
    pub before : IsIn whole old
    pub number : new.number ≡ old.number
    pub seen : new.seen ≡ whole ++ entry old.number Split ∷ []
    pub child_number : child.number ≡ length whole
    pub child_seen : child.seen ≡ new.seen
    pub child_own : own child.number child.seen ≡ []

  -- the seat has left
  pub record Leaves (old : Sight O E) (whole new : List (Entry O E)) : Type 0 where
    pub before : IsIn whole old
    pub left : new ≡ whole ++ entry old.number Left ∷ []
