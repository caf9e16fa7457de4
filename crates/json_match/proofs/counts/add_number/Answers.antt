use Rattle.std.proofs.Common.{◌≡◌, ap, ◌∙◌, arith, rules}
use Rattle.std.specs.Prelude.{unwrap_or}
use Rattle.json_match.specs.Inner.Counts.{of_number}
use Rattle.json_match.proofs.counts.add_number.Goals as goal

pub overflow_add-before : goal.overflow_add-before
overflow_add-before c =
    let before : c.unwrap_or-before.result ≡ of_number c.args.numbers.now c.args.number =
    c.unwrap_or-before.ensures ∙ ap (λ o. unwrap_or o 0) (c.copied.ensures ∙ c.get.ensures.value)
    ∙ ap (of_number c.args.numbers.now) (search rules) in
    let room = c.requires c.args.number in
    omega (arith, before, room)
