use Rattle.std.proofs.Common.{ap, ◌∙◌}
use Rattle.std.proofs.lemmas.Result.{IfOk-weaker}
use Rattle.har_export.specs.Document.{json_of_entry}
use Rattle.har_export.specs.Moment.{moment_text}
use Rattle.serde_json.specs.Written.{compact_text, has_float}
use Rattle.har_export.proofs.FloatLemmas.{entry_plain}
use Rattle.har_export.proofs.entries.timed_text.Goals as goal

pub returns : goal.returns
returns c =
    let started = moment_text c.args.timed.now.shown in
    let same = c.in_ok-entry_started.ensures started c.in_ok-started.ensures
    ∙ ap (λ e. json_of_entry c.args.target.now started e) c.exchange.ensures in
    IfOk-weaker c.to_string.result _ _
    (λ text made.
    made (ap has_float same ∙ entry_plain c.args.target.now started c.args.timed.now.exchange)
    ∙ ap compact_text same) c.to_string.ensures.text
