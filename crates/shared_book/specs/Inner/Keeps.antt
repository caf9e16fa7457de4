-- What a line has after a call that is accepted.
use Rattle.std.specs.Prelude.{◌≡◌, ◌≤◌, ℕ, [], ◌∷◌, ◌++◌}
use Rattle.shared_book.specs.Held.{LetsGo}
use Rattle.shared_book.specs.Receipts.{Line}
use Rattle.shared_book.specs.declared.receipt.Receipt.{Receipt}

-- the receipt at the end of the line, which may have let go of events up to this number before
pub record Keeps (last : ℕ) (old new : Line) (receipt : Receipt) : Type 0 where
  pub before : Line
  pub let_go : LetsGo (λ n. n ≤ last) old before
  pub added : new ≡ record { let_go = before.let_go; held = before.held ++ receipt ∷ [] }
