-- What a route and a body are, with the method and the URL that name the route.
use Rattle.std.proofs.Common.{ℕ, List, Result, Ok, Err, IfOk, IfErr}
use Rattle.admin_routes.specs.Calls.{IsCall, IsCallOf, IsAdminError, IsRefusalOf}
use Rattle.admin_routes.specs.declared.call.AdminCall.{AdminCall}
use Rattle.admin_routes.specs.declared.error.AdminError.{AdminError}
use Rattle.admin_routes.specs.declared.error.AdminError.TheVariants as error
use Rattle.template_tree.specs.declared.escape.Escape.{Escape}
use Rattle.admin_routes.specs.Routes.{Names}
use Rattle.admin_routes.specs.declared.route.Route.{Route}

pub is_call
    : (escape : Escape) (method url body : List ℕ) (r : Route) (result : Result AdminCall AdminError)
    → Names method url r → IfOk result (IsCallOf escape r body) → IfOk result (IsCall escape method url body)
is_call escape method url body r (Ok found) names holds = (r, names, holds)
is_call escape method url body r (Err why) names holds = tt

refused
    : (escape : Escape) (method url body : List ℕ) (r : Route) (why : AdminError) → Names method url r
    → IsRefusalOf escape r body why → IsAdminError escape method url body why
refused escape method url body r error.UnknownCall names holds = absurd holds
refused escape method url body r error.UnknownMapping names holds = (r, names, holds)
refused escape method url body r (error.Mapping why) names holds = (r, names, holds)
refused escape method url body r (error.Matcher why) names holds = (r, names, holds)
refused escape method url body r (error.State why) names holds = (r, names, holds)
refused escape method url body r (error.Start why) names holds = (r, names, holds)
refused escape method url body r error.OutOfMemory names holds = (r, names, holds)

pub is_refused
    : (escape : Escape) (method url body : List ℕ) (r : Route) (result : Result AdminCall AdminError)
    → Names method url r
    → IfErr result (IsRefusalOf escape r body) → IfErr result (IsAdminError escape method url body)
is_refused escape method url body r (Ok found) names holds = tt
is_refused escape method url body r (Err why) names holds = refused escape method url body r why names holds
