use Rattle.std.proofs.Common.{◌≡◌, ℕ, ◌≤◌, length, map, None}
use Rattle.json.specs.Json.{members, value}
use Rattle.serde_json.specs.Read.{converted}
use Rattle.data_tree.specs.Parts.{names_of}
use Rattle.data_tree.specs.Tree.{Members, no_members}
use Rattle.data_tree.specs.WellFormed.{IsAscending}
use Rattle.json_bridge.specs.Inner.Direct.{put_all, members_of_json}
use Rattle.json_bridge.specs.Part.{is_kept, kept}
use Rattle.json_bridge.proofs.part.read_kept.Given as goal

-- the members so far are `passed`, of which the kept ones are found; followed by what is left, they are the whole
abbrev pub invariant-members : goal.invariant-members
invariant-members l =
    (n : ℕ) × (length l.reader ≤ n)
    × ((passed : Members)
    × (converted (λ ms. members_of_json ms no_members)
    (members (value 126) (length l.initial.reader) l.initial.reader)
    ≡ converted (λ ms. members_of_json ms passed) (members (value 126) n l.reader))
    × IsAscending (names_of passed)
    × (put_all l.found.items no_members ≡ kept (is_kept (map (λ name. name.now) l.names)) passed))
    × (members (value 126) n l.reader ≡ None
    → members (value 126) (length l.initial.reader) l.initial.reader ≡ None)

abbrev pub decreases-members : goal.decreases-members
decreases-members l = length l.reader
