use Rattle.hyper_service.proofs.site_answers.SiteAnswers.forward.Goals as goal

pub returns-in_ok-response-in-Err-clause-ok : goal.returns-in_ok-response-in-Err-clause-ok
returns-in_ok-response-in-Err-clause-ok g c =
    let failure = c.in-Err.ensures.none in
    (c.in-Err.failed.reply, failure.1, rw failure.0 at c.in_ok-response-in-Err.ensures.ok)
