use Rattle.admin_answers.proofs.ReadLemmas.{listed}
use Rattle.admin_json.specs.Recordings.{json_of_recorded}
use Rattle.admin_answers.proofs.change.recorded_listing.Goals as goal

pub returns : goal.returns
returns c =
    let made = c.of_recorded.ensures in
    listed (json_of_recorded c.args.mappings.now c.args.skipped) c.of_recorded.result made.text made.reads_back
