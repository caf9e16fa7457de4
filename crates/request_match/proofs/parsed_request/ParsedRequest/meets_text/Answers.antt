use Rattle.std.proofs.Common.{◌↔◌, IfOk, IsTrue, subst}
use Rattle.mock_request.specs.Request.{Request}
use Rattle.request_match.proofs.ReadLemmas.{are_of}
use Rattle.request_match.specs.Parts.Matching.{MeetsText}
use Rattle.request_match.proofs.parsed_request.ParsedRequest.meets_text.Goals as goal

pub returns-clause-answer : goal.returns-clause-answer
returns-clause-answer c =
    let is = are_of c.read_values.new.values c.values_read-values.result.now c.self.inside.snapshot.now c.args.self.now
    c.in_ok-read_values.ensures.read c.values_read-values.ensures c.self.view_is in
    subst (λ (r : Request). IfOk c.meets_text.result (λ b. IsTrue b ↔ MeetsText c.args.matcher.now r.body)) is
    c.meets_text.ensures.answer
