use Rattle.std.proofs.Common.{refl}
use Rattle.std.proofs.lemmas.Result.{IfOk-weaker}
use Rattle.har_export.specs.Moment.{moment_text}
use Rattle.har_export.proofs.moment.moment_value.Goals as goal

pub returns : goal.returns
returns c =
    let shown = c.clock_at.result in
    IfOk-weaker c.shown_value.result _ _
    (λ value e. (moment_text shown, record { shown = shown; at = c.clock_at.ensures; spelled = refl }, e))
    c.shown_value.ensures
