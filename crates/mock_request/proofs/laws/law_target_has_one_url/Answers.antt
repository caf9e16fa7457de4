use Rattle.mock_request.proofs.TargetLemmas.{one_url}
use Rattle.mock_request.proofs.laws.law_target_has_one_url.Goals as goal

pub returns : goal.returns
returns c = one_url
