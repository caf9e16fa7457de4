use Rattle.std.proofs.Common.{◌≡◌, length, map}
use Rattle.std.specs.Vec.Iter.{into_iter_items, into_iter_len}
use Rattle.data_tree.specs.Tree.{members_view}
use Rattle.json_bridge.specs.Part.{is_kept, kept}
use Rattle.json_bridge.proofs.Grown.{members_before}
use Rattle.json_bridge.proofs.part.kept_of.Given as goal

-- what is found, followed by what is kept of what is left, is what is kept of the whole
abbrev pub invariant-loop-name : goal.invariant-loop-name
invariant-loop-name l = record {
  counted : into_iter_len l.name-iterator ≡ length (into_iter_items l.name-iterator);
  whole : kept (is_kept (map (λ name. name.now) l.names)) (members_view l.fn.members.items)
      ≡ members_before l.found.items
      (kept (is_kept (map (λ name. name.now) l.names)) (members_view (into_iter_items l.name-iterator)));
}
