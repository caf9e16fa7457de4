use Rattle.std.proofs.Common.{◌≡◌, ◌≤◌, ◌∙◌, sym, length, arith}
use Rattle.std.proofs.lemmas.Bool.{eqb-false}
use Rattle.mock_request.proofs.AuthorityLemmas.{port_read}
use Rattle.mock_request.proofs.authority.port.Goals as goal

pub returns : goal.returns
returns c =
    let digits = c.args.digits.now in
    let first : c.starts_with.result ≡ _ = c.starts_with.ensures.byte (omega arith) (omega arith) (λ w o e. e) in
    let few : length digits ≤ 5 = omega arith in
    c.ok.ensures.value
    ∙ port_read digits c.parse.result c.parse.ensures.value.0 few
    (eqb-false _ _ (sym first ∙ c.if-starts_with.false))
