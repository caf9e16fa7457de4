use Rattle.code_rules.proofs.MachineFacts.{effect-there, effect-kinds}
use Rattle.code_rules.proofs.StepFacts.{step-there}
use Rattle.code_rules.proofs.laws.law_rules_are_what_the_machine_needs.Goals as goal

pub returns-clause-ruled : goal.returns-clause-ruled
returns-clause-ruled c = effect-there

pub returns-clause-kinded : goal.returns-clause-kinded
returns-clause-kinded c = effect-kinds

pub returns-clause-steps : goal.returns-clause-steps
returns-clause-steps c = step-there
