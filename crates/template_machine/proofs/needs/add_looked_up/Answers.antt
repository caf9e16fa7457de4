use Rattle.std.proofs.Common.{◌∷◌, subst}
use Rattle.std.specs.Prelude.{codes}
use Rattle.data_tree.specs.declared.step.Step.TheVariants.{Name}
use Rattle.needed_data.specs.Needed.{Covers}
use Rattle.template_machine.proofs.NeedFacts.{covers_path}
use Rattle.template_machine.proofs.needs.add_looked_up.Goals as goal

pub returns-in-Some-json_path-clause-call : goal.returns-in-Some-json_path-clause-call
returns-in-Some-json_path-clause-call c =
    covers_path c.add_json_steps.new.self c.args.code.now c.args.index c.in-Some.text.now c.in-Some-json_path.path.now
    c.in-Some.ensures c.in-Some-json_path.ensures
    (subst (λ steps. Covers c.add_json_steps.new.self (Name (codes "json") ∷ steps)) c.steps.ensures
    c.add_json_steps.ensures.steps)
