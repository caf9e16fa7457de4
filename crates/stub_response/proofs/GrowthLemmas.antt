-- What keeps to the limits over larger data keeps to them over smaller data.
use Rattle.std.proofs.Common.{ℕ, ◌≤◌, List, [], ◌∷◌, arith}
use Rattle.std.specs.List.{sum_by}
use Rattle.std.proofs.lemmas.List.Sums.{sum_by-cons}
use Rattle.code_rules.specs.Polynomial.{value}
use Rattle.code_rules.specs.Regions.{Budget}
use Rattle.safe_code.proofs.Bounds.{value-grows}
use Rattle.template_tree.specs.Source.{Source}
use Rattle.stub_response.specs.Limits.{KeepTo}
use Rattle.stub_response.specs.declared.limits.Limits.{Limits}

sum-grows :
    (f g : Budget → ℕ) → ((c : Budget) → f c ≤ g c) → (costs : List Budget)
    → sum_by f costs ≤ sum_by g costs
sum-grows f g le [] = omega arith
sum-grows f g le (c ∷ costs) =
    omega (arith, sum_by-cons f c costs, sum_by-cons g c costs, le c, sum-grows f g le costs)

pub keep-smaller :
    (limits : Limits) (templates : List Source) (m n : ℕ) → m ≤ n → KeepTo limits templates n
    → KeepTo limits templates m
keep-smaller limits templates m n le k = record {
  costs = k.costs;
  budgets = k.budgets;
  steps =
      let less = sum-grows (λ (c : Budget). value c.steps m) (λ (c : Budget). value c.steps n)
      (λ c. value-grows c.steps m n le) k.costs in omega (arith, less, k.steps);
  bytes =
      let less = sum-grows (λ (c : Budget). value c.bytes m) (λ (c : Budget). value c.bytes n)
      (λ c. value-grows c.bytes m n le) k.costs in omega (arith, less, k.bytes);
}
