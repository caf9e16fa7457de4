use Rattle.std.proofs.Common.{◌≡◌, length, option_map}
use Rattle.std.specs.Vec.Iter.{into_iter_items, into_iter_len}
use Rattle.serde_json.specs.View as seen
use Rattle.json_bridge.specs.Reading.{items_of, members_of}
use Rattle.json_bridge.proofs.Grown.{items_before, members_before}
use Rattle.json_bridge.proofs.read.+data_of.Given as goal

-- what is found, followed by what is left, is the whole
abbrev pub invariant-list_of-loop-item : goal.invariant-list_of-loop-item
invariant-list_of-loop-item l = record {
  counted : into_iter_len l.item-iterator ≡ length (into_iter_items l.item-iterator);
  whole : items_of (seen.items_view l.fn.items.items) ≡ option_map (items_before l.found.items)
      (items_of (seen.items_view (into_iter_items l.item-iterator)));
}

abbrev pub invariant-fields_of-loop-name : goal.invariant-fields_of-loop-name
invariant-fields_of-loop-name l =
    members_of (seen.members_view l.fn.members.entries) ≡ option_map (members_before l.found.items)
    (members_of (seen.members_view l.name-iterator))
