use Rattle.serde_json.specs.View.{view}
use Rattle.har_export.proofs.FloatLemmas.{har_plain}
use Rattle.har_export.proofs.har.har_text.Goals as goal

pub returns-clause-text : goal.returns-clause-text
returns-clause-text c =
    let is = c.in_ok-document.ensures.document in (
      view c.in_ok-document.document,
      is,
      c.in_ok-to_string.ensures.text
          (har_plain c.args.target.now c.args.exchanges.now (view c.in_ok-document.document) is),
    )
