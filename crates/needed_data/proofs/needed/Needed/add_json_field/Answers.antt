use Rattle.needed_data.proofs.NeededFacts.{covers_last_json}
use Rattle.needed_data.proofs.needed.Needed.add_json_field.Goals as goal

pub returns-else-is_full-clause-field : goal.returns-else-is_full-clause-field
returns-else-is_full-clause-field c =
    let i = c.self.inside in
    covers_last_json i.everything i.json c.args.name i.json_names.items c.push.new.self.items i.fields
    c.push.ensures.items
