use Rattle.needed_data.proofs.NeededFacts.{parts_first, parts_second}
use Rattle.needed_data.proofs.needed.Needed.add_kept_parts.Goals as goal

pub returns-clause-more : goal.returns-clause-more
returns-clause-more c =
    let i = c.self.inside in
    let k = c.kept.inside in
    rw (← c.self.view_is)
    (parts_first i.everything i.json k.everything k.json i.json_names.items i.fields c.union-self-inside.result
    c.union-self-inside.ensures.first)

pub returns-clause-parts : goal.returns-clause-parts
returns-clause-parts c =
    let i = c.self.inside in
    let k = c.kept.inside in
    rw (← c.kept.view_is)
    (parts_second i.everything i.json k.everything k.json i.json_names.items k.json_names.items k.fields
    c.union-self-inside.result c.union-self-inside.ensures.second)
