use Rattle.needed_data.specs.Fields.{name_of}
use Rattle.needed_data.proofs.NeededFacts.{includes_fields, covers_field}
use Rattle.needed_data.proofs.needed.Needed.add_known_field.Goals as goal

pub returns-clause-more : goal.returns-clause-more
returns-clause-more c =
    let i = c.self.inside in
    rw (← c.self.view_is)
    (includes_fields i.everything i.json i.json_names.items i.fields c.union-self-inside.result c.union-self-inside.ensures.first)

pub returns-clause-field : goal.returns-clause-field
returns-clause-field c =
    let i = c.self.inside in
    covers_field i.everything i.json i.json_names.items c.union-self-inside.result (name_of c.args.field)
    (c.union-self-inside.ensures.second (name_of c.args.field) c.set_of.ensures)
