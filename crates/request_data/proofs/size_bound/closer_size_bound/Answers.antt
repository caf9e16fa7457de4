use Rattle.std.proofs.Common.{◌≡◌, length, option_copied, arith, ap, sym, ◌∙◌}
use Rattle.std.specs.Str.Lossy.{utf8_lossy}
use Rattle.std.proofs.lemmas.Str.{utf8_lossy-IsUtf8}
use Rattle.json.specs.Print.{escape}
use Rattle.request_data.proofs.TreeBounds.{tree_most}
use Rattle.request_data.proofs.size_bound.closer_size_bound.Goals as goal

pub returns : goal.returns
returns c =
    let body = c.args.snapshot.now.body in
    let bytes : c.body.result.now ≡ body = c.body.ensures.value in
    let text : c.in-Ok.text.now ≡ body = c.in-Ok.ensures.cases.0 ∙ bytes in
    let lossy : utf8_lossy body ≡ body =
    sym (ap utf8_lossy bytes) ∙ utf8_lossy-IsUtf8 c.body.result.now c.in-Ok.ensures.cases.1 ∙ bytes in
    omega (
      arith,
      tree_most c.args.snapshot.now (option_copied c.args.template),
      ap length lossy,
      ap (λ bs. length (escape bs)) lossy,
      ap length text,
      ap (λ bs. length (escape bs)) text,
      c.escape_count.ensures,
      c.in_ok-of_escapes.ensures.1,
      c.in_ok-checked_mul.ensures.1,
      c.in_ok-of_body.ensures.1,
      c.in_ok-of_head.ensures,
      c.in_ok-checked_add.ensures.1,
    )
