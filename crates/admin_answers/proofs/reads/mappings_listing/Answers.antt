use Rattle.admin_answers.proofs.ReadLemmas.{listed}
use Rattle.admin_json.specs.Mappings.{json_of_mappings}
use Rattle.admin_answers.proofs.reads.mappings_listing.Goals as goal

pub returns : goal.returns
returns c =
    let made = c.of_mappings.ensures in
    listed (json_of_mappings c.args.mappings.now) c.of_mappings.result made.text made.reads_back
