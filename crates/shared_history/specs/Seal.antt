-- That a list of entries was seen of a history that threads share. It is opened here alone: elsewhere only the calls
-- of this crate ensure it, so a clause that says it is not met by a list that is made up.
use Rattle.std.specs.Prelude.{List}
use Rattle.logbook.specs.Pages.{Book as HistoryName}
use Rattle.shared_history.specs.History.{IsHistory}
use Rattle.shared_history.specs.declared.entry.Entry.{Entry}

module _ {O E : Type 0} (may : O → List E → E → Type 0) (book : HistoryName) (log : List (Entry O E)) where
  -- these entries were seen of the history with this name
  pub IsSeen : Type 0
  IsSeen = IsHistory may log

  -- for this crate's own proofs
  pub seal : IsHistory may log → IsSeen
  unfolding IsSeen
  seal history = history

  pub legal : IsSeen → IsHistory may log
  unfolding IsSeen
  legal seen = seen
