use Rattle.mock_request.proofs.TargetLemmas.{cut_at_first}
use Rattle.mock_request.proofs.target.split_authority.Goals as goal

pub returns-clause-authority : goal.returns-clause-authority
returns-clause-authority c =
    rw (c.split_at.ensures.front, c.unwrap_or.ensures)
    (cut_at_first c.args.text.now c.find-end.result c.find-end.ensures.cases).before

pub returns-clause-rest : goal.returns-clause-rest
returns-clause-rest c =
    rw (c.split_at.ensures.back, c.unwrap_or.ensures)
    (cut_at_first c.args.text.now c.find-end.result c.find-end.ensures.cases).after
