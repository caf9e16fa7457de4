use Rattle.std.proofs.Common.{◌≡◌, ◌++◌, drop, false, codes}
use Rattle.data_tree.specs.Json.{items_json, members_json}
use Rattle.data_tree.specs.Tree.{items_view, members_view}
use Rattle.data_tree.proofs.print.+write.Given as goal

-- what is written, followed by what is left, is the whole
abbrev pub invariant-write_items-loop-item : goal.invariant-write_items-loop-item
invariant-write_items-loop-item l = record {
  before : l.out.0 ≡ l.fn.out.0;
  whole : l.out.1 ++ items_json l.later (items_view (drop l.item-index l.item-items))
      ≡ l.fn.out.1 ++ (codes "[" ++ items_json false (items_view l.item-items));
}

abbrev pub invariant-write_members-loop-name : goal.invariant-write_members-loop-name
invariant-write_members-loop-name l = record {
  before : l.out.0 ≡ l.fn.out.0;
  whole : l.out.1 ++ members_json l.later (members_view (drop l.name-index l.name-items))
      ≡ l.fn.out.1 ++ (codes "{" ++ members_json false (members_view l.name-items));
}
