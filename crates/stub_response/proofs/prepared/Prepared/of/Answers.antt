use Rattle.std.proofs.Common.{IfSome, sym, subst}
use Rattle.stub_response.specs.Prepared.{HoldsHeaders, IsPreparedOf}
use Rattle.stub_response.specs.declared.prepared.Prepared.TheVariants.{Headers}
use Rattle.stub_response.proofs.prepared.Prepared.of.Goals as goal

pub returns-in-Some : goal.returns-in-Some
returns-in-Some c =
    let made = c.in-Some.made in
    subst (λ content. IsPreparedOf c.args.response.now.status content (Headers made)) (sym c.in-Templated.is)
    (subst (λ lines. HoldsHeaders lines made) c.as_slice-in-Templated.ensures.value
    (subst (λ all. IfSome all (HoldsHeaders c.as_slice-in-Templated.result.now)) c.in-Some.is
    c.in_ok-made-in-Templated.ensures))
