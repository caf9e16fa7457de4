-- Worked courses, which the checker computes.
use Rattle.std.specs.Prelude.{◌≡◌, ℕ, zero, suc, ◌+◌, ◌*◌, List, [], ◌∷◌}
use Rattle.std.proofs.Common.{refl}
use Rattle.code_rules.specs.Inner.Course.{Cost, Bracket, level, opens_over_part, opens_over_data, ends, Course, nest}
use Rattle.code_rules.specs.Inner.Course.{budget}

abbrev bracket_in : List Bracket → ℕ → Bracket
bracket_in [] x = level
bracket_in (b ∷ bs) zero = b
bracket_in (b ∷ bs) (suc x) = bracket_in bs x

abbrev one_each : ℕ → Cost
one_each x = record { alone = 1; per = 0 }

-- two loops in one another, the inner one over a part of the outer one's item, over data of size 100
abbrev over_parts : Course
over_parts = record {
  places = 7;
  size = 100;
  bracket = bracket_in (level ∷ opens_over_data ∷ opens_over_part ∷ level ∷ ends ∷ ends ∷ level ∷ []);
  cost = one_each;
}

nest_of_over_parts : nest over_parts 3 ≡ 2 ∷ 1 ∷ []
nest_of_over_parts = refl

nest_after_over_parts : nest over_parts 6 ≡ []
nest_after_over_parts = refl

-- 3 outside, 2 in the outer loop and 2 in the inner one
budget_of_over_parts : budget over_parts ≡ record { alone = 3 + 100 * (2 + 2); per = 0 }
budget_of_over_parts = refl

-- the same where the inner loop goes over all of the data each time
abbrev over_data : Course
over_data = record {
  places = 7;
  size = 100;
  bracket = bracket_in (level ∷ opens_over_data ∷ opens_over_data ∷ level ∷ ends ∷ ends ∷ level ∷ []);
  cost = one_each;
}

budget_of_over_data : budget over_data ≡ record { alone = 3 + 100 * (2 + 100 * 2); per = 0 }
budget_of_over_data = refl
