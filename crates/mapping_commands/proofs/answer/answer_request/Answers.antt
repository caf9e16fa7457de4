use Rattle.std.proofs.Common.{◌≤◌, length, subst}
use Rattle.request_journal.specs.Choice.{IsChoice}
use Rattle.request_journal.specs.Live.{live}
use Rattle.request_journal.specs.declared.limits.TheConstants.{LIVE_LIMIT}
use Rattle.mapping_commands.proofs.answer.answer_request.Goals as goal

pub returns-clause-reply : goal.returns-clause-reply
returns-clause-reply c =
    let fresh = c.in_ok-book.ensures.ok in
    let request = c.in_ok-request.request in
    let answer = c.in_ok-answer.answer in (
      c.in_ok-reply.reply,
      record {
        mappings = fresh.0;
        spelled = fresh.1;
        few = subst (λ p. length (live p) ≤ LIVE_LIMIT) fresh.2 fresh.3;
        request = request;
        asked = c.in_ok-request.ensures.ok;
        answer = answer;
        chosen = subst (λ p. IsChoice p request answer) fresh.2 c.in_ok-answer.ensures.ok;
        replied = c.in_ok-reply.ensures;
      },
      c.in_ok-reply_text.ensures,
    )
