use Rattle.std.proofs.Common.{ap, subst, ◌∙◌}
use Rattle.admin_routes.proofs.RouteLemmas.{found_is_named, none_is_named}
use Rattle.admin_routes.specs.Inner.Methods.{call_at}
use Rattle.admin_routes.specs.Places.{IsPath}
use Rattle.admin_routes.proofs.router.AdminRoutes.route_of.Goals as goal

pub returns-in-Some-clause-found : goal.returns-in-Some-clause-found
returns-in-Some-clause-found c =
    found_is_named c.args.method.now c.args.url.now c.in-Some.place c.in-Some.parameter.now c.call_at.result
    (subst (IsPath c.in-Some.place c.in-Some.parameter.now) c.path_of.ensures c.in-Some.ensures.found)
    (c.call_at.ensures ∙ ap (call_at c.args.method.now c.in-Some.place) c.new.ensures)

pub returns-in-Some-clause-unknown : goal.returns-in-Some-clause-unknown
returns-in-Some-clause-unknown c =
    none_is_named c.args.method.now c.args.url.now c.in-Some.place c.in-Some.parameter.now c.call_at.result
    (subst (IsPath c.in-Some.place c.in-Some.parameter.now) c.path_of.ensures c.in-Some.ensures.found)
    (c.call_at.ensures ∙ ap (call_at c.args.method.now c.in-Some.place) c.new.ensures)
