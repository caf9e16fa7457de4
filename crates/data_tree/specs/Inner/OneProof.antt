-- That a value is well formed has at most one proof, which a ghost field asks of its fact.
use Rattle.std.specs.Prelude.{ℕ, List, [], ◌∷◌}
use Rattle.std.specs.Coded.{×_prop, Unit-prop}
use Rattle.std.specs.Ordering.{Ordering-set}
use Rattle.std.proofs.Props.{props}
use Rattle.data_tree.specs.Tree.{Tree, nothing, truth, number, text, list, fields, named, Items, no_items, item}
use Rattle.data_tree.specs.Tree.{Members, no_members, member}
use Rattle.data_tree.specs.Parts.{names_of}
use Rattle.data_tree.specs.WellFormed.{IsAscending, IsWellFormed, AreWellFormed, HaveWellFormedValues}

IsAscending-prop : (names : List (List ℕ)) → IsProp (IsAscending names)
IsAscending-prop [] = Unit-prop
IsAscending-prop (name ∷ []) = Unit-prop
IsAscending-prop (name ∷ next ∷ names) = ×_prop (Ordering-set _ _) (IsAscending-prop (next ∷ names))

mutual
  pub IsWellFormed-prop : (t : Tree) → IsProp (IsWellFormed t)
  IsWellFormed-prop nothing = Unit-prop
  IsWellFormed-prop (truth b) = Unit-prop
  IsWellFormed-prop (number n) = Prim.hlevel props
  IsWellFormed-prop (text s) = Unit-prop
  IsWellFormed-prop (list ts) = AreWellFormed-prop ts
  IsWellFormed-prop (fields ms) = ×_prop (IsAscending-prop (names_of ms)) (HaveWellFormedValues-prop ms)
  IsWellFormed-prop (named s ts ms) =
      Prim.hlevel (AreWellFormed-prop ts, IsAscending-prop (names_of ms), HaveWellFormedValues-prop ms)

  AreWellFormed-prop : (ts : Items) → IsProp (AreWellFormed ts)
  AreWellFormed-prop no_items = Unit-prop
  AreWellFormed-prop (item t ts) = ×_prop (IsWellFormed-prop t) (AreWellFormed-prop ts)

  HaveWellFormedValues-prop : (ms : Members) → IsProp (HaveWellFormedValues ms)
  HaveWellFormedValues-prop no_members = Unit-prop
  HaveWellFormedValues-prop (member name t ms) = ×_prop (IsWellFormed-prop t) (HaveWellFormedValues-prop ms)
