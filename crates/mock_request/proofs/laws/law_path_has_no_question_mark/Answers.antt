use Rattle.mock_request.proofs.UrlLemmas.{no_question_mark}
use Rattle.mock_request.proofs.laws.law_path_has_no_question_mark.Goals as goal

pub returns : goal.returns
returns c = no_question_mark
