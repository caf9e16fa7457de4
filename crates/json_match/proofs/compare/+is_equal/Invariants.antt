use Rattle.std.proofs.Common.{◌≡◌, drop, vec_len}
use Rattle.data_tree.specs.Tree.{view, items_view, members_view}
use Rattle.json_match.specs.Inner.Taken.{first_left}
use Rattle.json_match.proofs.Takings.{left_of}
use Rattle.json_match.specs.Inner.Walk.{is_equal, are_equal, each_takes_one, have_equal}
use Rattle.json_match.proofs.compare.+is_equal.Given as goal

-- ---- what is left decides

abbrev pub invariant-are_equal-loop-i : goal.invariant-are_equal-loop-i
invariant-are_equal-loop-i l =
    are_equal l.flags (items_view l.fn.expected.items) (items_view l.actual.items)
    ≡ are_equal l.flags (items_view (drop l.i l.item-items)) (items_view (drop l.i l.actual.items))

abbrev pub invariant-each_takes_one-loop-item : goal.invariant-each_takes_one-loop-item
invariant-each_takes_one-loop-item l = record {
  counted : vec_len l.taken ≡ vec_len l.actual;
  left : each_takes_one l.flags (items_view l.fn.expected.items) (items_view l.actual.items)
      ≡ each_takes_one l.flags (items_view (drop l.item-index l.item-items))
      (left_of l.taken.items (items_view l.actual.items));
}

abbrev pub invariant-first_left-loop-i : goal.invariant-first_left-loop-i
invariant-first_left-loop-i l =
    first_left (is_equal l.flags (view l.expected)) 0 l.taken.items (items_view l.fn.actual.items)
    ≡ first_left (is_equal l.flags (view l.expected)) l.i (drop l.i l.taken.items)
    (items_view (drop l.i l.item-items))

abbrev pub invariant-have_equal-loop-name : goal.invariant-have_equal-loop-name
invariant-have_equal-loop-name l =
    have_equal l.flags (members_view l.fn.expected.items) (members_view l.fn.actual.items)
    ≡ have_equal l.flags (members_view (drop l.name-index l.name-items)) (members_view l.rest)
