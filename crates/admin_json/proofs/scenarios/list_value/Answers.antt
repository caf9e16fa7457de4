use Rattle.std.proofs.Common.{◌≡◌, ap, map, sym, ◌∙◌}
use Rattle.std.proofs.lemmas.Iterator.Consumers.{YieldsList-from_rest, YieldsList-end}
use Rattle.std.proofs.lemmas.List.{map-id}
use Rattle.admin_json.proofs.GroupLemmas.{groups_of_entries, values_of_entries, values_of_names}
use Rattle.admin_json.proofs.Groups.{group_of, group_json}
use Rattle.mock_request.specs.Values.{pairs_of}
use Rattle.request_data.specs.Grouped.{names_in}
use Rattle.serde_json.proofs.Views.{view-Array}
use Rattle.serde_json.specs.Data.{array}
use Rattle.serde_json.specs.View.{items_of}
use Rattle.admin_json.proofs.scenarios.list_value.Goals as goal

pub returns : goal.returns
returns c =
    let states = c.args.states.now in
    let pairs = pairs_of c.args.named.items in
    let entries = c.in_ok-items.items.entries in
    let same = c.into_iter-name-iterator.ensures.into_iter_gives in
    let groups =
    groups_of_entries pairs entries same.5 c.in_ok-items.ensures.values c.in_ok-items.ensures.names in
    let end =
    YieldsList-end (YieldsList-from_rest entries same.0) c.loop-name.yielded _ c.loop-name.yielded_by _ _
    c.in-None.is c.next.ensures.steps in
    let whole : c.loop-name.yielded ≡ entries = sym (map-id c.loop-name.yielded) ∙ end.0 in
    view-Array c.loop-name.values
    ∙ ap (λ ds. array (items_of ds)) (
    c.loop-name.invariant
    ∙ ap (λ es. map (λ e. group_json states (group_of e)) es) whole
    ∙ values_of_entries states entries
    ∙ ap (λ gs. map (group_json states) gs) groups
    ∙ values_of_names states (names_in pairs) pairs)
