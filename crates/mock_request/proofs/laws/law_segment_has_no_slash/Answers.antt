use Rattle.mock_request.proofs.UrlLemmas.{no_slash}
use Rattle.mock_request.proofs.laws.law_segment_has_no_slash.Goals as goal

pub returns : goal.returns
returns c = no_slash
