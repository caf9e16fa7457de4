use Rattle.std.proofs.Common.{◌≡◌, is_some, drop}
use Rattle.json_bridge.specs.Reading.{items_of, members_of}
use Rattle.serde_json.specs.View.{items_view, members_view}
use Rattle.json_reading.proofs.numbers.+is_taken.Given as goal

-- what is left decides

abbrev pub invariant-are_taken-loop-item : goal.invariant-are_taken-loop-item
invariant-are_taken-loop-item l =
    is_some (items_of (items_view l.fn.items.items))
    ≡ is_some (items_of (items_view (drop l.item-index l.item-items)))

abbrev pub invariant-have_taken-loop-name : goal.invariant-have_taken-loop-name
invariant-have_taken-loop-name l =
    is_some (members_of (members_view l.fn.members.entries)) ≡ is_some (members_of (members_view l._name-iterator))
