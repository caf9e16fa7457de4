use Rattle.std.proofs.Common.{◌≡◌, ap, sym, subst, ◌∙◌, OnOk, codes, map, Some}
use Rattle.json_reading.specs.Written.{with_field}
use Rattle.request_json.proofs.Parts.{not_left_out}
use Rattle.request_json.specs.BodyWritten.{json_of_pattern}
use Rattle.serde_json.specs.Data.{array}
use Rattle.serde_json.specs.View.{members_view, items_of}
use Rattle.request_json.proofs.write_request.put_body.Goals as goal

pub returns : goal.returns
returns c =
    let patterns = c.args.patterns.now in
    let there = not_left_out patterns (array (items_of (map json_of_pattern patterns)))
    (sym c.is_empty.ensures ∙ c.if-is_empty.false) in
    subst (λ o. OnOk c.put.result
    (members_view c.put.new.map.entries
    ≡ with_field (codes "bodyPatterns") o (members_view c.args.members.now.entries)))
    (ap Some c.in_ok-write_patterns.ensures ∙ sym there) c.put.ensures.ok
