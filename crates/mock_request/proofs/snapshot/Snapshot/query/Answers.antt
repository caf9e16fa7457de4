use Rattle.std.proofs.Common.{◌≡◌, None, sym, subst}
use Rattle.mock_request.specs.Url.{query_of}
use Rattle.mock_request.proofs.UrlLemmas.{query_of_none}
use Rattle.mock_request.proofs.snapshot.Snapshot.query.Goals as goal

pub returns-in_err-_path : goal.returns-in_err-_path
returns-in_err-_path c =
    let absent = query_of_none c.url.result.now c.in_err-_path.ensures.cases in
    rw c.from_residual.ensures (sym (subst (λ url. query_of url ≡ None) c.url.ensures.value absent))
