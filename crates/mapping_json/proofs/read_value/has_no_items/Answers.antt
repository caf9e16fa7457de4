use Rattle.std.proofs.Common.{◌≡◌, length, sym, ap, arith}
use Rattle.mapping_json.proofs.Listed.{some_items}
use Rattle.mapping_json.proofs.read_value.has_no_items.Goals as goal

pub returns-in-len1-up : goal.returns-in-len1-up
returns-in-len1-up c =
    let items = c.args.items.now.items in
    let same : length c.as_slice.result.now ≡ length c.args.items.now.items = ap length c.as_slice.ensures.value in
    sym (some_items items (omega (arith, same, c.in-len1-up.len_at_least)))
