use Rattle.std.proofs.Common.{◌≡◌, drop}
use Rattle.json_reading.specs.Fields.{each_item}
use Rattle.json_reading.proofs.Lists.{joined}
use Rattle.response_json.specs.Reading.{line_of}
use Rattle.serde_json.specs.View.{items_view}
use Rattle.response_json.proofs.header_reading.each_line.Given as goal

-- the lines so far, and those of the values that are left
abbrev pub invariant-loop-value : goal.invariant-loop-value
invariant-loop-value l =
    each_item (line_of l.name) (items_view l.fn.values.items)
    ≡ joined l.lines (each_item (line_of l.name) (items_view (drop l.value-index l.value-items)))
