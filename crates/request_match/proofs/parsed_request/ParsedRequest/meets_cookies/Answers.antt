use Rattle.std.proofs.Common.{◌↔◌, IfOk, IsTrue, subst}
use Rattle.mock_request.specs.Cookies.{cookie_pairs}
use Rattle.mock_request.specs.Request.{Request}
use Rattle.request_match.proofs.ReadLemmas.{are_of}
use Rattle.request_match.specs.Parts.Matching.{MeetPairs}
use Rattle.request_match.proofs.parsed_request.ParsedRequest.meets_cookies.Goals as goal

pub returns-clause-answer : goal.returns-clause-answer
returns-clause-answer c =
    let is = are_of c.read_values.new.values c.values_read-values.result.now c.self.inside.snapshot.now c.args.self.now
    c.in_ok-read_values.ensures.read c.values_read-values.ensures c.self.view_is in
    subst (λ (r : Request).
    IfOk c.meet_pairs.result (λ b. IsTrue b ↔ MeetPairs c.args.tests.now (cookie_pairs r.headers))) is
    (subst (λ pairs. IfOk c.meet_pairs.result (λ b. IsTrue b ↔ MeetPairs c.args.tests.now pairs)) c.cookies.ensures
    c.meet_pairs.ensures.answer)
