-- One more entry.
use Rattle.std.proofs.Common.{ℕ, List, [], ◌∷◌, ◌++◌}
use Rattle.recorder.specs.declared.exchange.Exchange.{Exchange}
use Rattle.serde_json.specs.Data.{Data}
use Rattle.serde_json.specs.View.{items_of}
use Rattle.har_export.specs.Document.{AreEntries, IsEntry}

pub entries_more
    : (target : List ℕ) (xs : List Exchange) (ds : List Data) (x : Exchange) (d : Data)
    → AreEntries target xs (items_of ds) → IsEntry target x d
    → AreEntries target (xs ++ x ∷ []) (items_of (ds ++ d ∷ []))
entries_more target [] [] x d are is = (is, tt)
entries_more target [] (e ∷ ds) x d are is = absurd are
entries_more target (y ∷ xs) [] x d are is = absurd are
entries_more target (y ∷ xs) (e ∷ ds) x d are is = (are.0, entries_more target xs ds x d are.1 is)
