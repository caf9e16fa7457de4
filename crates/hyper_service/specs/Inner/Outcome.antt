-- What a seat's last call has made.
use Rattle.std.specs.Prelude.{◌≡◌, ℕ, [], List, MatchOption, Option, Some}
use Rattle.shared_book.specs.Receipts.{IsLast}
use Rattle.shared_book.specs.declared.receipt.Receipt.{Receipt}

-- the number of the last receipt, where there is one
abbrev pub IsLastNumber : List Receipt → Option ℕ → Type 0
IsLastNumber held last =
    MatchOption last (held ≡ []) (λ number. (receipt : Receipt) × IsLast receipt held × (receipt.number ≡ number))

-- the last receipt, which has another number than the last one before
abbrev pub IsNew : Option ℕ → List Receipt → Receipt → Type 0
IsNew before held receipt = IsLast receipt held × (¬ (before ≡ Some receipt.number))

-- there is none
abbrev pub HasNoNew : Option ℕ → List Receipt → Type 0
HasNoNew before held = (receipt : Receipt) → IsLast receipt held → before ≡ Some receipt.number
