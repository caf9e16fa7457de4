-- What a value prints as, and whether it counts as true.
use Rattle.std.specs.Prelude.{ℕ, ℤ, pos, negsuc, suc, zero, Bool, true, false, List, [], ◌∷◌}
use Rattle.std.specs.Fmt.{signed_decimal}
use Rattle.data_tree.specs.Tree.{Tree, nothing, truth, number, text, list, fields, named, Items, no_items, item}
use Rattle.data_tree.specs.Json.{json, truth_text}

abbrev pub print : Tree → List ℕ
print nothing = []
print (truth b) = truth_text b
print (number n) = signed_decimal n
print (text s) = s
print (list ts) = json (list ts)
print (fields ms) = json (fields ms)
print (named s ts ms) = s

abbrev pub is_not_zero : ℤ → Bool
is_not_zero (pos zero) = false
is_not_zero (pos (suc n)) = true
is_not_zero (negsuc n) = true

abbrev pub is_not_empty : List ℕ → Bool
is_not_empty [] = false
is_not_empty (b ∷ bs) = true

abbrev pub has_item : Items → Bool
has_item no_items = false
has_item (item t ts) = true

abbrev pub is_true : Tree → Bool
is_true nothing = false
is_true (truth b) = b
is_true (number n) = is_not_zero n
is_true (text s) = is_not_empty s
is_true (list ts) = has_item ts
is_true (fields ms) = true
is_true (named s ts ms) = is_not_empty s
