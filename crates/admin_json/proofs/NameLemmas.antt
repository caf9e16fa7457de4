-- Texts that are put into a map one by one.
use Rattle.std.proofs.Common.{◌≡◌, ℕ, List, [], ◌∷◌, map, String, string_bytes, refl, ◌∙◌}
use Rattle.std.specs.declared.alloc.Global.{Global}
use Rattle.std.specs.declared.cmp.Ordering.{Ordering}
use Rattle.std.specs.declared.cmp.Ordering.TheVariants.{Less, Equal, Greater}
use Rattle.std.specs.BTreeMap.{insert_entry}
use Rattle.std.specs.Map.{keys_of}
use Rattle.std.specs.Ordering.{match_ordering}
use Rattle.std.specs.String.{string_cmp}
use Rattle.request_data.specs.Grouped.{with_name}

module _ {X : Type 0} where
  abbrev pub names_of : List (String Global × X) → List (List ℕ)
  names_of entries = map string_bytes (keys_of entries)

  by_order
      : (o : Ordering) (a b c : List (String Global × X))
      → names_of (match_ordering o a b c) ≡ match_ordering o (names_of a) (names_of b) (names_of c)
  by_order Less a b c = refl
  by_order Equal a b c = refl
  by_order Greater a b c = refl

  pub names_of-insert_entry
      : (entries : List (String Global × X)) (k : String Global) (x : X)
      → names_of (insert_entry string_cmp entries k x) ≡ with_name (string_bytes k) (names_of entries)
  names_of-insert_entry [] k x = refl
  names_of-insert_entry (e ∷ entries) k x =
      by_order (string_cmp k e.0) _ _ _ ∙ rw (names_of-insert_entry entries k x) refl
