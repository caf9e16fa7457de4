use Rattle.std.proofs.Common.{◌≡◌, ℕ, ◌+◌, ◌*◌, ◌≤◌, length, None}
use Rattle.json.specs.Json.{items, members, value, parse_map}
use Rattle.serde_json.specs.Read.{converted}
use Rattle.data_tree.specs.Tree.{Items, Members, no_members}
use Rattle.json_bridge.specs.Inner.Direct.{items_of_json, members_of_json}
use Rattle.json_bridge.proofs.judged.+judge.Given as goal

abbrev pub decreases-judge : goal.decreases-judge
decreases-judge l = 2 * l.depth

abbrev pub decreases-judge_items : goal.decreases-judge_items
decreases-judge_items l = 2 * l.depth + 1

abbrev pub decreases-judge_members : goal.decreases-judge_members
decreases-judge_members l = 2 * l.depth + 1

-- what was passed, followed by what is left, is the whole; and where nothing is left that can be read, nothing was
-- before
abbrev pub invariant-judge_items-items : goal.invariant-judge_items-items
invariant-judge_items-items l =
    (n : ℕ) × (length l.reader ≤ n)
    × ((passed : Items → Items)
    × (converted items_of_json (items (value l.depth) (length l.initial.reader) l.initial.reader)
    ≡ parse_map passed (converted items_of_json (items (value l.depth) n l.reader))))
    × (items (value l.depth) n l.reader ≡ None
    → items (value l.depth) (length l.initial.reader) l.initial.reader ≡ None)
    × (length l.reader ≤ length l.initial.reader)

abbrev pub decreases-judge_items-items : goal.decreases-judge_items-items
decreases-judge_items-items l = length l.reader

abbrev pub invariant-judge_members-members : goal.invariant-judge_members-members
invariant-judge_members-members l =
    (n : ℕ) × (length l.reader ≤ n)
    × ((passed : Members)
    × (converted (λ ms. members_of_json ms no_members)
    (members (value l.depth) (length l.initial.reader) l.initial.reader)
    ≡ converted (λ ms. members_of_json ms passed) (members (value l.depth) n l.reader)))
    × (members (value l.depth) n l.reader ≡ None
    → members (value l.depth) (length l.initial.reader) l.initial.reader ≡ None)
    × (length l.reader ≤ length l.initial.reader)

abbrev pub decreases-judge_members-members : goal.decreases-judge_members-members
decreases-judge_members-members l = length l.reader
