use Rattle.std.proofs.Common.{◌≡◌, Some, None, IfSome, true, false, sym, ap, subst, ◌∙◌, option_and_then}
use Rattle.serde_json.specs.Read.{number_from}
use Rattle.fast_float.specs.Text.{scan}
use Rattle.json_bridge.specs.Reading.{whole_number}
use Rattle.json_bridge.specs.Inner.Direct.{whole_of}
use Rattle.json_bridge.specs.Inner.NextStep.{after_byte, part_view}
use Rattle.json_bridge.proofs.TreeSteps.{with_minus, without_minus}
use Rattle.json_bridge.proofs.direct.whole_of.Goals as goal

pub returns-in-Some : goal.returns-in-Some
returns-in-Some c =
    let s = c.args.text.now in
    let found : after_byte 45 s ≡ Some c.in-Some.digits.now = sym c.after_byte.ensures ∙ ap part_view c.in-Some.is in
    let parts : c.scan.result ≡ scan c.in-Some.digits.now = c.scan.ensures.parts ∙ ap scan c.as_bytes.ensures.value in
    let same : whole_of s ≡ option_and_then whole_number (number_from true c.scan.result) =
    ap (option_and_then whole_number) (with_minus s c.in-Some.digits.now found ∙ ap (number_from true) (sym parts)) in
    subst (λ o. IfSome c.below_zero.result (λ number. o ≡ Some number)) (sym same) c.below_zero.ensures

pub returns-in-None : goal.returns-in-None
returns-in-None c =
    let s = c.args.text.now in
    let none : after_byte 45 s ≡ None = sym c.after_byte.ensures ∙ ap part_view c.in-None.is in
    let parts : c.scan-in-None.result ≡ scan s = c.scan-in-None.ensures.parts ∙ ap scan
    c.as_bytes-in-None.ensures.value in
    let same : whole_of s ≡ option_and_then whole_number (number_from false c.scan-in-None.result) =
    ap (option_and_then whole_number) (without_minus s none ∙ ap (number_from false) (sym parts)) in
    subst (λ o. IfSome c.from_zero.result (λ number. o ≡ Some number)) (sym same) c.from_zero.ensures
