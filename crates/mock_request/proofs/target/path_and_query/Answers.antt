use Rattle.std.proofs.Common.{◌≡◌, ◌++◌, codes, ap, sym, ◌∙◌, refl, arith}
use Rattle.std.proofs.lemmas.Bool.{eqb-true}
use Rattle.std.proofs.lemmas.List.{nil_from_length}
use Rattle.mock_request.proofs.TargetLemmas.{has_origin, has_no_authority, not_nil, has_url_absolute}
use Rattle.mock_request.proofs.target.path_and_query.Goals as goal

pub returns-then-starts_with-clause-found : goal.returns-then-starts_with-clause-found
returns-then-starts_with-clause-found c =
    let h : (c.starts_with.result ≡ _) = c.starts_with.ensures.byte (omega arith) (omega arith) (λ w o e. e) in
    (λ _. has_origin c.args.target.now (eqb-true _ _ (sym h ∙ c.if-starts_with.true)), λ _. refl)

pub returns-then-is_empty-clause-found : goal.returns-then-is_empty-clause-found
returns-then-is_empty-clause-found c =
    let text = c.in_ok-strip_prefix.field-0.now in
    let none = nil_from_length c.split_authority.result.0.now (eqb-true _ _ (sym c.if-is_empty.ensures)) in
    let same : text ≡ c.split_authority.result.1.now =
    c.split_authority.ensures.whole ∙ ap (λ a. a ++ c.split_authority.result.1.now) none in
    let cut = c.in_ok-strip_prefix.ensures.cases in
    let spelled = cut.1.1 ∙ ap (λ t. codes "http://" ++ t) (sym cut.2 ∙ same) in
    let rest = c.split_authority.result.1.now in
    let none = has_no_authority c.args.target.now rest spelled c.split_authority.ensures.rest in
    (λ e. cc, λ has. absurd (none has))

pub returns-clause-found : goal.returns-clause-found
returns-clause-found c =
    let cut = c.in_ok-strip_prefix.ensures.cases in
    let authority = c.split_authority.result.0.now in
    let spelled = cut.1.1 ∙ ap (λ t. codes "http://" ++ t) (sym cut.2 ∙ c.split_authority.ensures.whole) in
    let named = not_nil authority c.if-is_empty.ensures in
    let url =
    has_url_absolute c.args.target.now authority c.split_authority.result.1.now spelled
    (named, c.split_authority.ensures.authority) c.split_authority.ensures.rest in
    (λ _. url, λ _. refl)
