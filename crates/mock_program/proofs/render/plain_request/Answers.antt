use Rattle.std.proofs.Common.{◌≡◌, [], Err, None, ap, arith}
use Rattle.std.proofs.lemmas.Result.{err_from_is_err_and}
use Rattle.request_data.specs.RequestTree.{request_tree}
use Rattle.mock_program.specs.Rendering.{IsDataOf}
use Rattle.mock_program.proofs.RequestRefusals.{of_data, of_snapshot}
use Rattle.mock_program.proofs.render.plain_request.Goals as goal

pub returns-in_err-snapshot-clause-refusal : goal.returns-in_err-snapshot-clause-refusal
returns-in_err-snapshot-clause-refusal c =
    let p = err_from_is_err_and c.from_residual.result c.from_residual.ensures.1 in
    rw (p.1, p.2) (of_snapshot c.args.method.now c.args.target.now c.in_err-snapshot.field-0.0
    (λ is. c.in_err-snapshot.ensures.bad_url.0 (ap Err is))
    (λ is. let large = c.in_err-snapshot.ensures.too_large.0 (ap Err is) in absurd
    (omega (arith, large.1))))

pub returns-in_err-request_data-clause-refusal : goal.returns-in_err-request_data-clause-refusal
returns-in_err-request_data-clause-refusal c =
    let p =
    err_from_is_err_and c.from_residual-in_err-request_data.result c.from_residual-in_err-request_data.ensures.1 in
    let request = c.in_ok-snapshot.snapshot in
    let plain : request ≡ record { method = c.args.method.now; url = request.url; headers = []; body = [] } =
    c.in_ok-snapshot.ensures.kept in
    let asked : IsDataOf c.args.method.now c.args.target.now (request_tree request None) =
    (request.url, c.in_ok-snapshot.ensures.url, ap (λ r. request_tree r None) plain) in
    rw (p.1, p.2) (of_data c.args.method.now c.args.target.now
    (request_tree request None) c.in_err-request_data.field-0.0 asked c.in_err-request_data.ensures.refusal)
