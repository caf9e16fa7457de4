use Rattle.std.proofs.Common.{◌∙◌, ap}
use Rattle.std.proofs.lemmas.Result.{IfOk-weaker}
use Rattle.match_difference.proofs.UnmetLemmas.{eligible_by}
use Rattle.match_difference.specs.Conditions.{conditions_of}
use Rattle.scenario_core.specs.Scenarios.{state_of}
use Rattle.match_difference.proofs.difference.unmet_conditions.Goals as goal

pub returns-clause-eligible : goal.returns-clause-eligible
returns-clause-eligible c =
    IfOk-weaker c.unmet.result _ _
    (λ found unmet. eligible_by (state_of c.args.scenarios.now) c.args.request.now found.items c.args.mapping.now
    c.in_ok-conditions.conditions.items (c.in_ok-conditions.ensures ∙ ap conditions_of c.spec.ensures) unmet)
    c.unmet.ensures.unmet
