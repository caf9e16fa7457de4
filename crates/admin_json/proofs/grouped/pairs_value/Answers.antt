use Rattle.std.proofs.Common.{◌≡◌, [], ap, sym, ◌∙◌}
use Rattle.admin_json.proofs.GroupLemmas.{groups_of_entries, with_values_of}
use Rattle.admin_json.proofs.Groups.{groups_in, with_groups}
use Rattle.mock_request.specs.Values.{pairs_of}
use Rattle.request_data.specs.Grouped.{names_in}
use Rattle.serde_json.proofs.Views.{view-Object}
use Rattle.serde_json.specs.Data.{object, no_members}
use Rattle.serde_json.specs.View.{members_view}
use Rattle.admin_json.proofs.grouped.pairs_value.Goals as goal

pub returns : goal.returns
returns c =
    let pairs = pairs_of c.args.pairs.items in
    let same = c.into_iter-name-iterator.ensures.into_iter_gives in
    let groups =
    groups_of_entries pairs c.in_ok-items.items.entries same.5 c.in_ok-items.ensures.values
    c.in_ok-items.ensures.names in
    let none : c.loop-name.name-iterator ≡ [] = c.in-None.ensures.steps.0 in
    let written =
    sym (ap (λ es. with_groups (groups_in es) (members_view c.loop-name.members.entries)) none)
    ∙ sym c.loop-name.invariant in
    view-Object c.loop-name.members
    ∙ ap object (
    written ∙ ap (λ es. with_groups (groups_in es) no_members) same.0
    ∙ ap (λ gs. with_groups gs no_members) groups
    ∙ with_values_of (names_in pairs) pairs no_members)
