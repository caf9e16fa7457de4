use Rattle.std.proofs.Common.{◌↔◌, IfOk, IsTrue, IsSomeAnd, sym, subst}
use Rattle.path_template.specs.Matching.{bindings_of}
use Rattle.request_match.specs.Inner.Kept.{url_spec_of}
use Rattle.request_match.specs.Parts.Matching.{MeetsUrl, MeetPairs}
use Rattle.request_match.proofs.url_test.meets_kind.Goals as goal

pub returns-in-UrlPathTemplate-clause-answer : goal.returns-in-UrlPathTemplate-clause-answer
returns-in-UrlPathTemplate-clause-answer c =
    let template = c.in-UrlPathTemplate.template in
    let parameters = c.in-UrlPathTemplate.parameters.items in
    subst (λ k. IfOk c.meets_template.result (λ b. IsTrue b ↔ MeetsUrl (url_spec_of k) c.args.request.now.url))
    (sym c.in-UrlPathTemplate.is)
    (subst (λ p. IfOk c.meets_template.result (λ b. IsTrue b
    ↔ IsSomeAnd (bindings_of template p) (MeetPairs parameters))) c.path-in-UrlPathTemplate.ensures
    (subst (λ ps. IfOk c.meets_template.result (λ b. IsTrue b
    ↔ IsSomeAnd (bindings_of template c.path-in-UrlPathTemplate.result.now) (MeetPairs ps)))
    c.as_mut_slice.ensures.value c.meets_template.ensures.answer))
