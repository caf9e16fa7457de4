-- When templates keep to the limits of a server.
use Rattle.std.specs.Prelude.{◌≡◌, ◌≤◌, ℕ, List, sum_by}
use Rattle.std.specs.List.{AllZip}
use Rattle.code_rules.specs.Polynomial.{value}
use Rattle.code_rules.specs.Regions.{Budget, budget}
use Rattle.template_compile.specs.Compiled.{stack_code}
use Rattle.template_tree.specs.Grammar.{Spells}
use Rattle.template_tree.specs.Source.{Source}
use Rattle.template_tree.specs.Tree.{Nodes}
use Rattle.stub_response.specs.declared.limits.Limits.{Limits}

-- the budget of a template's program, by the template's source
pub record HasBudget (source : Source) (cost : Budget) : Type 0 where
  pub tree : Nodes
  pub spelled : Spells source tree
  pub same : cost ≡ budget (stack_code tree)

-- over data of size n the programs of the templates take no more than the limits together
pub record KeepTo (limits : Limits) (templates : List Source) (n : ℕ) : Type 0 where
  pub costs : List Budget
  pub budgets : AllZip HasBudget templates costs
  pub steps : sum_by (λ c. value c.steps n) costs ≤ limits.steps
  pub bytes : sum_by (λ c. value c.bytes n) costs ≤ limits.bytes
