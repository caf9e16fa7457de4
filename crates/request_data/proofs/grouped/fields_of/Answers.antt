use Rattle.std.proofs.Common.{◌≡◌, map, string_bytes, ap, sym, ◌∙◌}
use Rattle.std.proofs.lemmas.Iterator.Consumers.{YieldsList-from_rest, YieldsList-end}
use Rattle.std.proofs.lemmas.List.{map-id}
use Rattle.data_tree.proofs.Views.{view-Fields}
use Rattle.data_tree.specs.Tree.{fields, members_of}
use Rattle.request_data.specs.Grouped.{values_tree}
use Rattle.request_data.proofs.GroupLemmas.{entry_tree, grouped_entries}
use Rattle.request_data.proofs.grouped.fields_of.Goals as goal

pub returns : goal.returns
returns c =
    let entries = c.args.groups.entries in
    let same = c.into_iter-name-iterator.ensures.into_iter_gives in
    let end =
    YieldsList-end (YieldsList-from_rest entries same.0) c.loop-name.yielded _ c.loop-name.yielded_by _ _
    c.in-None.is c.next.ensures.steps in
    let whole : c.loop-name.yielded ≡ entries = sym (map-id c.loop-name.yielded) ∙ end.0 in
    λ pairs each among.
    view-Fields c.loop-name.fields
    ∙ ap (λ ms. fields (members_of ms)) c.loop-name.invariant
    ∙ ap (λ es. fields (members_of
    (map (entry_tree string_bytes values_tree) es))) whole
    ∙ ap fields (
    grouped_entries string_bytes values_tree pairs entries same.5 each among
    )
