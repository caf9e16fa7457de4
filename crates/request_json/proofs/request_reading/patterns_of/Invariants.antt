use Rattle.std.proofs.Common.{◌≡◌, drop}
use Rattle.json_reading.proofs.Lists.{joined}
use Rattle.json_reading.specs.Fields.{each_item}
use Rattle.request_json.specs.BodyReading.{reading_of_body}
use Rattle.serde_json.specs.View.{items_view}
use Rattle.request_json.proofs.request_reading.patterns_of.Given as goal

-- what is read, joined with the items that are left, is the whole
abbrev pub invariant-loop-item : goal.invariant-loop-item
invariant-loop-item l =
    each_item reading_of_body (items_view l.item-items)
    ≡ joined l.patterns (each_item reading_of_body (items_view (drop l.item-index l.item-items)))
