use Rattle.std.proofs.Common.{◌≡◌, map, string_bytes}
use Rattle.data_tree.specs.Tree.{view}
use Rattle.request_data.specs.Grouped.{values_tree}
use Rattle.request_data.proofs.GroupLemmas.{entry_tree}
use Rattle.request_data.proofs.grouped.fields_of.Given as goal

abbrev pub invariant-loop-name : goal.invariant-loop-name
invariant-loop-name l =
    map (λ field. (field.0, view field.1)) l.fields.items ≡ map
    (entry_tree string_bytes values_tree) l.yielded
