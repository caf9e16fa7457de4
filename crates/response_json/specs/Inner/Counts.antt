-- For private clauses: how many header lines the members of an object are, before any of them is read.
use Rattle.std.specs.Prelude.{ℕ, ◌+◌}
use Rattle.serde_json.specs.Data.{Data, array, Items, no_items, item, Members, no_members, member}

abbrev pub item_count : Items → ℕ
item_count no_items = 0
item_count (item d ds) = 1 + item_count ds

-- a list is a line for each item, any other value is one line
abbrev pub line_count : Data → ℕ
line_count (array ds) = item_count ds
line_count d = 1

abbrev pub count_in : Members → ℕ
count_in no_members = 0
count_in (member name d ms) = line_count d + count_in ms
