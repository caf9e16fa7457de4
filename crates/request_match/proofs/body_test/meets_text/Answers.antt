use Rattle.std.proofs.Common.{ap, sym, ◌∙◌}
use Rattle.std.specs.Str.Lossy.{utf8_lossy}
use Rattle.request_match.proofs.RestLemmas.{text_or_none, empty_of_length}
use Rattle.request_match.proofs.body_test.meets_text.Goals as goal

pub returns-then-is_empty-clause-answer : goal.returns-then-is_empty-clause-answer
returns-then-is_empty-clause-answer c =
    text_or_none c.args.matcher.now c.matches.new.self (utf8_lossy c.args.request.now.body) c.body_text.result.now
    c.args.request.now.body c.matches-then-is_empty.result c.in_ok-matches.ensures.same c.body_text.ensures
    (empty_of_length c.args.request.now.body c.body.result.now
    (c.body.ensures.value ∙ ap (λ r. r.body) c.snapshot.ensures)
    (sym c.is_empty.ensures ∙ c.if-is_empty.true))
    (λ h. absurd cc (sym c.if-branch.false ∙ c.in_ok-matches.ensures.answer.1 h))
    c.matches-then-is_empty.ensures.answer
