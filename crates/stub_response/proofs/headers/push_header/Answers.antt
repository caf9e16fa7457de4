use Rattle.std.proofs.Common.{◌≡◌, sym, ap, ◌∙◌, subst}
use Rattle.http_header.specs.FieldName.{IsFieldName}
use Rattle.http_header.specs.FieldValue.{IsFieldValue, plain_value}
use Rattle.http_header.specs.HeaderMap.{append}
use Rattle.http_header.specs.Token.{lowercase}
use Rattle.stub_response.proofs.HeaderLemmas.{held}
use Rattle.stub_response.proofs.headers.push_header.Goals as goal

pub returns : goal.returns
returns c =
    let named : c.as_bytes.result.now ≡ c.args.name.now = c.as_bytes.ensures.value ∙ c.as_str.ensures.value in
    let name : ¬ ¬ (IsFieldName c.args.name.now) =
    λ no. let e = c.in-Ok.ensures.invalid.1 (λ is. no (subst IsFieldName named is)) in absurd (cc) in
    let value : ¬ ¬ (IsFieldValue c.args.value) =
    λ no. let e = c.in-Ok-from_vec.ensures.invalid.1 (λ is. no (subst IsFieldValue c.into_vec.ensures is)) in
    absurd (cc) in
    let old = c.args.headers.now in
    c.in-Ok-append.ensures.ok
    ∙ ap (λ n. append old n c.in-Ok-from_vec.value) (c.in-Ok.ensures.ok ∙ ap lowercase named)
    ∙ ap (λ v. append old (lowercase c.args.name.now) v)
    (c.in-Ok-from_vec.ensures.ok ∙ ap plain_value c.into_vec.ensures)
    ∙ sym (held old (record { name = c.args.name.now; value = c.args.value }) name value)
