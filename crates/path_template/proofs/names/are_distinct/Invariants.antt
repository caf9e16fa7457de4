use Rattle.std.proofs.Common.{◌≡◌, ℕ, List, Bor, map, take}
use Rattle.std.specs.BTreeSet.{contains_by}
use Rattle.std.specs.Cmp.Lexicographic.{slice_cmp}
use Rattle.std.specs.Ordering.{nat_cmp}
use Rattle.path_template.proofs.Distinct.{AreDistinct, has}
use Rattle.path_template.proofs.names.are_distinct.Given as goal

abbrev pub invariant-loop-name : goal.invariant-loop-name
invariant-loop-name l = record {
  distinct : AreDistinct (map (λ name. name.now) (take l.name-index l.names));
  seen : (q : Bor (List ℕ)) → contains_by (λ k. slice_cmp nat_cmp q.now k.now) l.seen
      ≡ has q.now (map (λ name. name.now) (take l.name-index l.names));
}
