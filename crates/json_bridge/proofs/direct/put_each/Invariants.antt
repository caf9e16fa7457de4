use Rattle.std.proofs.Common.{◌≡◌, length}
use Rattle.std.specs.Vec.Iter.{into_iter_items, into_iter_len}
use Rattle.data_tree.specs.Parts.{names_of}
use Rattle.data_tree.specs.Tree.{members_view, no_members}
use Rattle.data_tree.specs.WellFormed.{IsAscending}
use Rattle.json_bridge.specs.Inner.Direct.{put_all}
use Rattle.json_bridge.proofs.direct.put_each.Given as goal

-- what is made, with what is left put into it, is the whole
abbrev pub invariant-loop-name : goal.invariant-loop-name
invariant-loop-name l = record {
  up : IsAscending (names_of (members_view l.made.items));
  counted : into_iter_len l.name-iterator ≡ length (into_iter_items l.name-iterator);
  whole : put_all l.fn.found.items no_members
      ≡ put_all (into_iter_items l.name-iterator) (members_view l.made.items);
}
