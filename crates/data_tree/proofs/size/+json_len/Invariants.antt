use Rattle.std.proofs.Common.{◌≡◌, ◌+◌, ◌<◌, ◌^◌, true, length, drop}
use Rattle.data_tree.specs.Tree.{items_view, members_view}
use Rattle.data_tree.specs.Json.{items_json, members_json}
use Rattle.data_tree.specs.Capped.{capped}
use Rattle.data_tree.proofs.size.+json_len.Given as goal

-- so far, and what is left, give the whole
abbrev pub invariant-items_len-loop-item : goal.invariant-items_len-loop-item
invariant-items_len-loop-item l = record {
  fits : l.len < 2 ^ 64;
  whole : capped (l.len + length (items_json true (items_view (drop l.item-index l.item-items))))
      ≡ capped (length (items_json true (items_view l.item-items)));
}

abbrev pub invariant-members_len-loop-name : goal.invariant-members_len-loop-name
invariant-members_len-loop-name l = record {
  fits : l.len < 2 ^ 64;
  whole : capped (l.len + length (members_json true (members_view (drop l.name-index l.name-items))))
      ≡ capped (length (members_json true (members_view l.name-items)));
}
