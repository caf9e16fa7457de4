-- The filter of conditions by "isn't met".
use Rattle.std.specs.Prelude.{◌≡◌, ◌⊎◌, ℕ, List, [], ◌∷◌}
use Rattle.match_difference.specs.Conditions.{IsMet}
use Rattle.match_difference.specs.declared.condition.Condition.{Condition}
use Rattle.mock_request.specs.Request.{Request}

-- those of the conditions that the request doesn't meet, in their order
abbrev pub AreUnmet : (List ℕ → List ℕ) → Request → List Condition → List Condition → Type 0
AreUnmet state_of request [] found = found ≡ []
AreUnmet state_of request (c ∷ cs) found =
    (IsMet state_of request c × AreUnmet state_of request cs found)
    ⊎ ((rest : List Condition) × (found ≡ c ∷ rest) × ¬ (IsMet state_of request c)
    × AreUnmet state_of request cs rest)
