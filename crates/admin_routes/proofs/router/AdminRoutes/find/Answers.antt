use Rattle.admin_routes.proofs.RowLemmas.{found_is_path, none_is_path}
use Rattle.admin_routes.proofs.router.AdminRoutes.find.Goals as goal

pub returns-in-Ok-clause-found : goal.returns-in-Ok-clause-found
returns-in-Ok-clause-found c =
    let at = rw c.self.invariant at c.in-Ok.ensures.found in
    let shows = rw c.in-Ok.ensures.path at c.first_parameter.ensures in
    found_is_path c.args.path.now c.first_parameter.result.now _ c.utf8.path at shows

pub returns-in-Err-clause-unknown : goal.returns-in-Err-clause-unknown
returns-in-Err-clause-unknown c none = none_is_path c.args.path.now (rw c.self.invariant at c.in-Err.ensures.missing)
