-- Those so far, and the conditions that are left, give the whole.
use Rattle.std.proofs.Common.{◌≡◌, ◌++◌, length, map}
use Rattle.std.specs.Vec.Iter.{into_iter_items, into_iter_len}
use Rattle.match_difference.proofs.difference.each_with_found.Given as goal

abbrev pub invariant-loop-condition : goal.invariant-loop-condition
invariant-loop-condition l = record {
  counted : into_iter_len l.condition-iterator ≡ length (into_iter_items l.condition-iterator);
  whole : map (λ d. d.condition) l.list.items ++ into_iter_items l.condition-iterator ≡ l.fn.conditions.items;
}
