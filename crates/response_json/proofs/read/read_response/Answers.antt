use Rattle.std.proofs.Common.{true, false, sym, ap, ◌∙◌}
use Rattle.json_reading.specs.Reading.{wrong_also}
use Rattle.json_reading.specs.declared.kind.Kind.TheVariants.{NumberNotWhole}
use Rattle.response_json.proofs.Judged.{judged}
use Rattle.serde_json.specs.View.{view}
use Rattle.response_json.proofs.read.read_response.Goals as goal

pub returns-then-are_taken : goal.returns-then-are_taken
returns-then-are_taken c =
    c.in_ok-response.ensures
    ∙ sym (judged (view c.args.value.now) true (sym c.are_taken.ensures ∙ c.if-are_taken.true))

pub returns-else-are_taken : goal.returns-else-are_taken
returns-else-are_taken c =
    c.wrong_also.ensures ∙ ap (wrong_also NumberNotWhole) c.in_ok-response.ensures
    ∙ sym (judged (view c.args.value.now) false (sym c.are_taken.ensures ∙ c.if-are_taken.false))
