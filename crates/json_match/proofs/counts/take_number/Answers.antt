use Rattle.std.proofs.Common.{◌≡◌, nat_lt, sym, ap, ◌∙◌, rules}
use Rattle.std.specs.Prelude.{unwrap_or}
use Rattle.json_match.specs.Inner.Counts.{of_number}
use Rattle.json_match.proofs.counts.take_number.Goals as goal

pub returns-then-before-eq0-clause-found : goal.returns-then-before-eq0-clause-found
returns-then-before-eq0-clause-found c =
    let before : c.unwrap_or-before.result ≡ of_number c.args.numbers.now c.args.number =
    c.unwrap_or-before.ensures ∙ ap (λ o. unwrap_or o 0) (c.copied.ensures ∙ c.get.ensures.value)
    ∙ ap (of_number c.args.numbers.now) (search rules) in
    ap (nat_lt 0) (sym c.if-before-eq0.true ∙ before)
