use Rattle.std.proofs.Common.{◌≡◌, ℕ, ◌+◌, ◌*◌, ◌≤◌, length, None}
use Rattle.json.specs.Json.{items, members, value, parse_map}
use Rattle.serde_json.specs.Read.{converted}
use Rattle.data_tree.specs.Tree.{no_members}
use Rattle.json_bridge.specs.Inner.Direct.{put_all, items_of_json, members_of_json, AreFewInOrder}
use Rattle.json_bridge.proofs.Grown.{items_before}
use Rattle.json_bridge.proofs.direct.+read.Given as goal

abbrev pub decreases-read : goal.decreases-read
decreases-read l = 2 * l.depth

abbrev pub decreases-read_items : goal.decreases-read_items
decreases-read_items l = 2 * l.depth + 1

abbrev pub decreases-read_members : goal.decreases-read_members
decreases-read_members l = 2 * l.depth + 1

-- what is found, followed by what is left, is the whole; and where nothing is left that can be read, nothing was before
abbrev pub invariant-read_items-items : goal.invariant-read_items-items
invariant-read_items-items l =
    (n : ℕ) × (length l.reader ≤ n)
    × (converted items_of_json (items (value l.depth) (length l.initial.reader) l.initial.reader)
    ≡ parse_map (items_before l.found.items) (converted items_of_json (items (value l.depth) n l.reader)))
    × (items (value l.depth) n l.reader ≡ None
    → items (value l.depth) (length l.initial.reader) l.initial.reader ≡ None)
    × (length l.reader ≤ length l.initial.reader)

abbrev pub decreases-read_items-items : goal.decreases-read_items-items
decreases-read_items-items l = length l.reader

abbrev pub invariant-read_members-members : goal.invariant-read_members-members
invariant-read_members-members l =
    (n : ℕ) × (length l.reader ≤ n)
    × (converted (λ ms. members_of_json ms no_members)
    (members (value l.depth) (length l.initial.reader) l.initial.reader)
    ≡ converted (λ ms. members_of_json ms (put_all l.found.items no_members)) (members (value l.depth) n l.reader))
    × (members (value l.depth) n l.reader ≡ None
    → members (value l.depth) (length l.initial.reader) l.initial.reader ≡ None)
    × (length l.reader ≤ length l.initial.reader)
    × AreFewInOrder l.found.items

abbrev pub decreases-read_members-members : goal.decreases-read_members-members
decreases-read_members-members l = length l.reader
