use Rattle.std.proofs.Common.{◌≡◌, ◌+◌, ap, ◌∙◌}
use Rattle.std.specs.Prelude.{unwrap_or}
use Rattle.std.proofs.lemmas.Map.Text.{btree_map_updates_str}
use Rattle.json_match.specs.Inner.Counts.{of_text}
use Rattle.json_match.proofs.Counting.{text_added}
use Rattle.json_match.proofs.counts.add_text.Goals as goal

pub returns : goal.returns
returns c =
    let before : c.unwrap_or-before.result ≡ of_text c.args.texts.now c.args.text.now =
    c.unwrap_or-before.ensures ∙ ap (λ o. unwrap_or o 0) (c.copied.ensures ∙ c.get.ensures.value) in
    text_added c.args.texts.now c.insert.new.self c.args.text.now (c.unwrap_or-before.result + 1)
    (btree_map_updates_str c.args.text.now c.args.texts.now c.insert.new.self _ c.in_ok-insert.ensures.updates)
    (ap (λ n. n + 1) before)
