use Rattle.error_code.specs.declared.error_code.ErrorCode.TheVariants as code
use Rattle.stub_response.specs.ErrorReply.{error_reply}
use Rattle.answering.proofs.finish.finish.Goals as goal

pub returns-in_ok-error_response-in-Err-clause-ok : goal.returns-in_ok-error_response-in-Err-clause-ok
returns-in_ok-error_response-in-Err-clause-ok g c =
    (error_reply 503 code.OutOfMemory, c.in-Err.ensures.memory, c.in_ok-error_response-in-Err.ensures)
