use Rattle.std.proofs.Common.{◌≤◌, IfSome, arith, subst}
use Rattle.data_tree.specs.Json.{size}
use Rattle.stub_response.proofs.GrowthLemmas.{keep-smaller}
use Rattle.stub_response.specs.Response.{templates_of}
use Rattle.stub_response.proofs.templated.is_kept_to.Goals as goal

pub returns-then-most-le-SIZE_LIMIT : goal.returns-then-most-le-SIZE_LIMIT
returns-then-most-le-SIZE_LIMIT c = λ yes root least.
    let small : size root ≤ c.in-Some.most = subst (λ bound. IfSome bound (λ most. size root ≤ most)) c.in-Some.is least in (
      omega (arith, small, c.if-most-le-SIZE_LIMIT.true),
      keep-smaller c.args.limits
          (templates_of c.args.headers.now c.args.body.now) (size root) c.in-Some.most small (c.keep_to.ensures.0 yes),
    )
