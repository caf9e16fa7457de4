use Rattle.std.proofs.Common.{◌≡◌, is_some, true, rules, string_bytes, refl, subst, sym}
use Rattle.json_bridge.specs.Reading.{tree_of_value}
use Rattle.json_reading.proofs.Taken.{no_float}
use Rattle.json_reading.proofs.Whole.{whole}
use Rattle.json_reading.specs.Numbers.{IsWholeJson}
use Rattle.serde_json.specs.View.{view}
use Rattle.serde_json.specs.Written.{compact_text}
use Rattle.json_reading.proofs.numbers.json_text_of.Goals as goal

pub new-requires : goal.new-requires
new-requires c =
    let taken : is_some (tree_of_value (view c.args.value.now)) ≡ true = search rules in
    let made = c.in_ok-to_string.ensures in
    subst IsWholeJson (sym c.from-text.ensures)
    (whole (string_bytes c.in_ok-to_string.field-0) (view c.args.value.now) taken made.order made.reads_back)

pub returns : goal.returns
returns c =
    let taken : is_some (tree_of_value (view c.args.value.now)) ≡ true = search rules in
    let text : string_bytes c.in_ok-to_string.field-0 ≡ compact_text (view c.args.value.now) =
    c.in_ok-to_string.ensures.text (no_float (view c.args.value.now) taken) in
    rw (taken, c.new.ensures, c.from-text.ensures, text) refl
