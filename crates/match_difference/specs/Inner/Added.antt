-- For private clauses: one condition that is looked at.
use Rattle.std.specs.Prelude.{◌≡◌, ◌⊎◌, ◌++◌, ◌∷◌, ℕ, List, []}
use Rattle.match_difference.specs.Conditions.{IsMet}
use Rattle.match_difference.specs.declared.condition.Condition.{Condition}
use Rattle.mock_request.specs.Request.{Request}

-- it is added to those that were found, unless it is met
abbrev pub IsAdded : (List ℕ → List ℕ) → Request → Condition → List Condition → List Condition → Type 0
IsAdded state_of request condition old new =
    (IsMet state_of request condition × (new ≡ old))
    ⊎ (¬ (IsMet state_of request condition) × (new ≡ old ++ condition ∷ []))
