use Rattle.std.proofs.Common.{◌≡◌, ◌+◌, ◌-◌, ap, ◌∙◌, arith}
use Rattle.std.specs.Prelude.{unwrap_or}
use Rattle.std.proofs.lemmas.Map.Text.{btree_map_updates_str}
use Rattle.json_match.specs.Inner.Counts.{of_text}
use Rattle.json_match.proofs.Counting.{text_taken}
use Rattle.json_match.proofs.counts.take_text.Goals as goal

pub returns-clause-left : goal.returns-clause-left
returns-clause-left c = λ some.
    let before : c.unwrap_or-before.result ≡ of_text c.args.texts.now c.args.text.now =
    c.unwrap_or-before.ensures ∙ ap (λ o. unwrap_or o 0) (c.copied.ensures ∙ c.get.ensures.value) in
    let more = c.if-before-eq0.false in
    let less : c.unwrap_or-before.result - 1 + 1 ≡ c.unwrap_or-before.result = omega arith in
    text_taken c.args.texts.now c.insert.new.self c.args.text.now (c.unwrap_or-before.result - 1)
    (btree_map_updates_str c.args.text.now c.args.texts.now c.insert.new.self _ c.in_ok-insert.ensures.updates)
    (less ∙ before)
