use Rattle.std.proofs.Common.{subst, sym}
use Rattle.match_difference.proofs.UnmetLemmas.{none_with}
use Rattle.match_difference.specs.Conditions.{conditions_of}
use Rattle.match_difference.specs.Unmet.{AreUnmet}
use Rattle.request_journal.specs.Choice.{IsEligible}
use Rattle.scenario_core.specs.Scenarios.{state_of}
use Rattle.match_difference.proofs.difference.differences.Goals as goal

pub returns-clause-unmet : goal.returns-clause-unmet
returns-clause-unmet c =
    subst
    (AreUnmet (state_of c.args.scenarios.now) c.args.request.now (conditions_of c.args.mapping.now.spec))
    (sym c.in_ok-each_with_found.ensures) c.in_ok-unmet.ensures.unmet

pub returns-clause-eligible : goal.returns-clause-eligible
returns-clause-eligible c =
    none_with (λ d. d.condition) _ _
    (IsEligible (state_of c.args.scenarios.now) c.args.request.now c.args.mapping.now)
    c.in_ok-each_with_found.ensures c.in_ok-unmet.ensures.eligible
