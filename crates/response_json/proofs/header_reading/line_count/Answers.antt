use Rattle.std.proofs.Common.{◌≡◌, ◌∙◌, ap, length, rules, sym, vec_len}
use Rattle.response_json.specs.Inner.Counts.{line_count}
use Rattle.response_json.proofs.Counts.{count_of_items}
use Rattle.serde_json.proofs.Views.{view-Array}
use Rattle.response_json.proofs.header_reading.line_count.Goals as goal

pub returns-in-Array : goal.returns-in-Array
returns-in-Array c =
    let count : vec_len c.in-Array.values ≡ length c.in-Array.values.items = search rules in
    rw c.in-Array.is (c.len.ensures ∙ count ∙ sym (count_of_items c.in-Array.values.items)
    ∙ sym (ap line_count (view-Array c.in-Array.values)))
