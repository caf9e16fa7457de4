use Rattle.std.proofs.Common.{◌↔◌, IfOk, IsTrue, IsSomeAnd, ap, sym, subst, ◌∙◌}
use Rattle.std.specs.Option.{option_map}
use Rattle.mock_request.specs.Values.{pairs_of}
use Rattle.request_match.specs.Parts.Matching.{MeetPairs}
use Rattle.request_match.proofs.url_test.meets_template.Goals as goal

pub returns-in-Some-clause-answer : goal.returns-in-Some-clause-answer
returns-in-Some-clause-answer c =
    subst (λ o. IfOk c.meet_pairs.result (λ b. IsTrue b ↔ IsSomeAnd o (MeetPairs c.args.parameters.now)))
    (ap (option_map (λ v. pairs_of v.items)) (sym c.in-Some.is) ∙ c.in_ok-pairs.ensures)
    (subst (λ ps. IfOk c.meet_pairs.result (λ b. IsTrue b ↔ MeetPairs c.args.parameters.now (pairs_of ps)))
    c.as_slice.ensures.value c.meet_pairs.ensures.answer)
