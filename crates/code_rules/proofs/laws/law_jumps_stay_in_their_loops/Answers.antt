use Rattle.code_rules.proofs.FormFacts.{formed-leads, formed-nests, formed-lands, formed-repeats}
use Rattle.code_rules.proofs.laws.law_jumps_stay_in_their_loops.Goals as goal

pub returns-clause-land : goal.returns-clause-land
returns-clause-land c = λ code well index target i is jump.
    let l = formed-leads code well index target i is jump in
    (l.0, l.1, formed-nests code well index target i is jump, formed-lands code well index target i is jump)

pub returns-clause-repeat : goal.returns-clause-repeat
returns-clause-repeat c = formed-repeats
