use Rattle.std.proofs.Common.{◌≡◌, ◌+◌, ap, ◌∙◌}
use Rattle.code_rules.specs.Polynomial.{value}
use Rattle.code_rules.specs.Regions.{Budget, budget}
use Rattle.stub_response.proofs.LimitLemmas.{budget_of, value-as_printed}
use Rattle.request_log.proofs.over_budget.with_template.Goals as goal

pub returns : goal.returns
returns c =
    let text = c.args.template.now in
    let program = c.program.result.now in
    let cost : Budget = budget program.code in
    let n = c.args.size in
    let same_steps : value c.budget.result.now.steps n ≡ value cost.steps n =
    ap (λ ps. value ps n) c.budget.ensures.steps ∙ value-as_printed cost.steps n in
    let same_bytes : value c.budget.result.now.bytes n ≡ value cost.bytes n =
    ap (λ ps. value ps n) c.budget.ensures.bytes ∙ value-as_printed cost.bytes n in
    record {
      cost = cost;
      budget = budget_of program text c.program.ensures.source c.program.ensures.program;
      steps_are =
          c.in_ok-checked_add.ensures.1
          ∙ ap (λ m. c.args.taken.steps + m) (c.in_ok-steps.ensures.steps ∙ same_steps);
      bytes_are =
          c.in_ok-checked_add-2.ensures.1
          ∙ ap (λ m. c.args.taken.bytes + m) (c.in_ok-steps.ensures.bytes ∙ same_bytes);
    }
