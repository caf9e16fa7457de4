use Rattle.std.proofs.Common.{rules}
use Rattle.std.proofs.lemmas.List.{length-map}
use Rattle.data_tree.proofs.Views.{items-List, items-Named, items-Values, items-Fields}
use Rattle.data_tree.proofs.data.Data.items_len.Goals as goal

pub returns-in-List : goal.returns-in-List
returns-in-List c = rw (c.in-List.is, items-List c.in-List.items, length-map) (search rules)

pub returns-in-Named : goal.returns-in-Named
returns-in-Named c = rw (c.in-Named.is, items-Named c.in-Named.parts, length-map) (search rules)

pub returns-in-Values : goal.returns-in-Values
returns-in-Values c = rw (c.in-Values.is, items-Values c.in-Values.items, length-map) (search rules)

pub returns-in-Fields : goal.returns-in-Fields
returns-in-Fields c = rw (c.in-Fields.is, items-Fields c.in-Fields.fields, length-map) (search rules)
