use Rattle.std.proofs.Common.{◌≡◌, subst, ◌∙◌, ◌↔◌, IsSome, IfSome, List, ℕ}
use Rattle.http_header.specs.Token.{IsToken}
use Rattle.response_json.proofs.Lines.{named_is}
use Rattle.response_json.proofs.header_reading.field_name.Goals as goal

pub returns : goal.returns
returns c =
    let copied : c.from.result ≡ c.args.name.now = c.from.ensures ∙ c.in_ok-from_str.ensures.ok in
    named_is c.new.result c.args.name.now
    (subst (λ (n : List ℕ). IsSome c.new.result ↔ IsToken n) copied c.new.ensures.some)
    (subst (λ (n : List ℕ). IfSome c.new.result (λ f. f ≡ n)) copied c.new.ensures.value)
