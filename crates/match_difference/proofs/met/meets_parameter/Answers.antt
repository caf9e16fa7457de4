use Rattle.std.proofs.Common.{◌≡◌, ◌↔◌, ◌∙◌, IsTrue, Some, ap, ap₂, sym, subst}
use Rattle.std.specs.Prelude.{option_map}
use Rattle.mock_request.specs.Url.{path_of}
use Rattle.mock_request.specs.Values.{pairs_of}
use Rattle.path_template.specs.Matching.{bindings_of}
use Rattle.request_match.specs.Parts.Matching.{MeetPairs}
use Rattle.match_difference.proofs.MetLemmas.{by_bindings}
use Rattle.match_difference.proofs.met.meets_parameter.Goals as goal

pub returns-in-Some-clause-answer : goal.returns-in-Some-clause-answer
returns-in-Some-clause-answer c =
    let bound : Some (pairs_of c.in-Some.pairs.items)
    ≡ bindings_of c.args.template.now (path_of c.args.request.now.url) =
    sym (ap (option_map (λ pairs. pairs_of pairs.items)) c.in-Some.is) ∙ c.in_ok-pairs.ensures
    ∙ ap₂ bindings_of (c.in_ok-template.ensures.ok ∙ c.as_str.ensures) c.path.ensures in
    by_bindings (IsTrue c.in_ok-meet_pairs-in-Some.field-0) c.args.matcher.now _ _ _
    (c.as_mut_slice.ensures.value ∙ c.in_ok-tests.ensures.ok) bound
    (subst (λ pairs. IsTrue c.in_ok-meet_pairs-in-Some.field-0
    ↔ MeetPairs c.as_mut_slice.result.now (pairs_of pairs)) c.as_slice.ensures.value
    c.in_ok-meet_pairs-in-Some.ensures.answer)
