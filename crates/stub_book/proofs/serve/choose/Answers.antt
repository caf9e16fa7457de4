use Rattle.std.proofs.lemmas.Result.{IfOk-weaker}
use Rattle.request_journal.specs.Choice.{IsChoice}
use Rattle.request_journal.specs.Past.{Past}
use Rattle.request_journal.specs.declared.event.ServeAnswer.{ServeAnswer}
use Rattle.stub_book.specs.Inner.Kept.{Agrees, IsUnchosen}
use Rattle.stub_book.proofs.ChoiceLemmas.{is_chosen, is_unchosen}
use Rattle.stub_book.proofs.serve.choose.Goals as goal

pub returns-in-Some-clause-answer : goal.returns-in-Some-clause-answer
returns-in-Some-clause-answer c = λ past fits.
    is_chosen past c.args.store.now c.args.scenarios.now c.args.recording.now fits c.args.request.now c.in-Some.mapping
    (rw c.in-Some.is at c.in_ok-found.ensures.found)

pub returns-in-None-clause-answer : goal.returns-in-None-clause-answer
returns-in-None-clause-answer c =
    IfOk-weaker c.unchosen.result (IsUnchosen c.args.recording.now)
    (λ (answer : ServeAnswer). (past : Past)
    → Agrees past c.args.store.now c.args.scenarios.now c.args.recording.now
    → IsChoice past c.args.request.now answer)
    (λ answer h past fits.
    is_unchosen past c.args.store.now c.args.scenarios.now c.args.recording.now fits c.args.request.now answer
    (rw c.in-None.is at c.in_ok-found.ensures.found) h)
    c.unchosen.ensures
