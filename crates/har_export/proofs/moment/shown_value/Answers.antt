use Rattle.std.proofs.Common.{◌≡◌, ◌++◌, ◌∙◌, ap, refl, codes, false, string_bytes, Some, rules}
use Rattle.jiff_fmt.specs.Text.{datetime_text}
use Rattle.serde_json.specs.Data.{string}
use Rattle.serde_json.specs.View.{view}
use Rattle.serde_json.specs.declared.value.Value.{the_lemmas}
use Rattle.serde_json.specs.declared.value.Value as Value
use Rattle.har_export.proofs.moment.shown_value.Goals as goal

pub returns : goal.returns
returns c =
    let printer = c.precision.result in
    let lowercase : printer.lowercase ≡ false =
    ap (λ o. o.0) c.precision.ensures ∙ ap (λ o. o.0) c.new.ensures in
    let separator : printer.separator ≡ 84 = ap (λ o. o.1) c.precision.ensures ∙ ap (λ o. o.1) c.new.ensures in
    let places : printer.precision ≡ Some 3 = ap (λ o. o.2) c.precision.ensures in
    let shown : datetime_text printer.lowercase printer.separator printer.precision c.args.shown
    ≡ datetime_text false 84 (Some 3) c.args.shown = rw (lowercase, separator, places) refl in
    let before = c.in_ok-moment.ensures.ok ∙ c.as_str.ensures.value ∙ c.datetime_text-text.ensures ∙ shown in
    let moment = c.push_str.new.self in
    let seen : view (Value.String moment) ≡ string (string_bytes moment) = search (rules, the_lemmas) in
    seen ∙ ap string (c.in_ok-push_str.ensures.bytes ∙ ap (λ s. s ++ codes "Z") before)
