use Rattle.std.proofs.Common.{◌↔◌, IfOk, IsTrue, subst, ◌∙◌}
use Rattle.mock_request.specs.Request.{Request}
use Rattle.request_match.specs.Matching.{MeetsRequest}
use Rattle.book_history.proofs.pick.meets.Goals as goal

pub returns-clause-answer : goal.returns-clause-answer
returns-clause-answer c =
    subst (λ (r : Request). IfOk c.matches.result (λ yes. IsTrue yes ↔ MeetsRequest c.args.matcher.now r))
    (c.new-parsed.ensures ∙ c.request.ensures) c.matches.ensures.answer
