use Rattle.std.proofs.Common.{◌≡◌, map, string_bytes, ap, sym, ◌∙◌}
use Rattle.std.proofs.lemmas.Iterator.Consumers.{YieldsList-from_rest, YieldsList-end}
use Rattle.std.proofs.lemmas.List.{map-id}
use Rattle.data_tree.specs.Tree.{members_of}
use Rattle.mock_request.specs.Values.{pairs_of}
use Rattle.request_data.specs.Grouped.{first_text}
use Rattle.request_data.proofs.GroupLemmas.{entry_tree, grouped_entries}
use Rattle.request_data.proofs.grouped.firsts.Goals as goal

pub returns : goal.returns
returns c =
    let entries = c.in_ok-items.items.entries in
    let same = c.into_iter-name-iterator.ensures.into_iter_gives in
    let end =
    YieldsList-end (YieldsList-from_rest entries same.0) c.loop-name.yielded _ c.loop-name.yielded_by _ _
    c.in-None.is c.next.ensures.steps in
    let whole : c.loop-name.yielded ≡ entries = sym (map-id c.loop-name.yielded) ∙ end.0 in
    ap members_of c.loop-name.invariant
    ∙ ap (λ es. members_of (map (entry_tree string_bytes first_text) es)) whole
    ∙ grouped_entries string_bytes first_text
    (pairs_of c.args.pairs.items) entries same.5
    c.in_ok-items.ensures.values c.in_ok-items.ensures.names
