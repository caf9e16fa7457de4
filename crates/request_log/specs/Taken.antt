-- What the templates of a response may take together over a request's data: the sums that `stub_response` compares with
-- the limits (`KeepTo`), of the budgets of their programs (`HasBudget`).
use Rattle.std.specs.Prelude.{◌≡◌, ◌+◌, ℕ, List, sum_by}
use Rattle.std.specs.List.{AllZip}
use Rattle.code_rules.specs.Polynomial.{value}
use Rattle.code_rules.specs.Regions.{Budget}
use Rattle.stub_response.specs.Limits.{HasBudget}
use Rattle.template_tree.specs.Source.{Source}

-- over data of size n the programs of the templates may take so many steps and write so many bytes together
pub record MayTake (templates : List Source) (n steps bytes : ℕ) : Type 0 where
  pub costs : List Budget
  pub budgets : AllZip HasBudget templates costs
  pub steps_are : steps ≡ sum_by (λ c. value c.steps n) costs
  pub bytes_are : bytes ≡ sum_by (λ c. value c.bytes n) costs

-- the second numbers have what the program of the template may take more than the first
pub record MayTakeMore (template : Source) (n steps bytes steps' bytes' : ℕ) : Type 0 where
  pub cost : Budget
  pub budget : HasBudget template cost
  pub steps_are : steps' ≡ steps + value cost.steps n
  pub bytes_are : bytes' ≡ bytes + value cost.bytes n
