use Rattle.std.proofs.Common.{rules}
use Rattle.data_tree.proofs.Views.{view-List, view-Fields}
use Rattle.json_match.proofs.Lists.{something_list, something_fields}
use Rattle.json_match.proofs.find.is_something.Goals as goal

pub returns-in-List : goal.returns-in-List
returns-in-List c =
    rw (c.in-List.is, view-List c.in-List.items, c.is_empty.ensures)
    (something_list _ c.in-List.items.items (search rules))

pub returns-in-Fields : goal.returns-in-Fields
returns-in-Fields c =
    rw (c.in-Fields.is, view-Fields c.in-Fields.fields, c.is_empty-in-Fields.ensures)
    (something_fields _ c.in-Fields.fields.items (search rules))
