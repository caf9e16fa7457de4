-- For private clauses: how often each value that is no list or object is in a list.
use Rattle.std.specs.Prelude.{ℕ, ℤ, ◌+◌, Bool, true, false, ◌&&◌, List, unwrap_or}
use denote.Ref.{Bor}
use Rattle.std.specs.BTreeMap.{BTreeMap, get_by}
use Rattle.std.specs.Cmp.Lexicographic.{slice_cmp}
use Rattle.std.specs.Option.{option_map_or}
use Rattle.std.specs.Ordering.{int_eq, int_cmp, nat_cmp}
use Rattle.std.specs.Str.{bytes_eq}
use Rattle.data_tree.specs.Tree.{Tree, nothing, truth, number, text, list, fields, named, Items, no_items, item}
use Rattle.json_match.specs.Matching.{without_first, truth_eq}
use Rattle.json_match.specs.declared.counts.Counts.{Counts}

-- no list or object
abbrev pub is_scalar : Tree → Bool
is_scalar (list ts) = false
is_scalar (fields ms) = false
is_scalar (named s ts ms) = false
is_scalar t = true

abbrev pub are_scalars : Items → Bool
are_scalars no_items = true
are_scalars (item t ts) = is_scalar t && are_scalars ts

-- equal, and no list or object
abbrev pub same : Tree → Tree → Bool
same nothing nothing = true
same (truth b) (truth c) = truth_eq b c
same (number n) (number m) = int_eq n m
same (text s) (text t) = bytes_eq s t
same s t = false

-- each expected item takes the first that is the same
abbrev pub each_takes_same : Items → Items → Bool
each_takes_same no_items left = true
each_takes_same (item e es) left = option_map_or (each_takes_same es) (without_first (same e) left) false

abbrev pub once : Bool → ℕ
once true = 1
once false = 0

-- how many of the items are the same
abbrev pub times : Tree → Items → ℕ
times s no_items = 0
times s (item t ts) = once (same s t) + times s ts

-- how many are counted of a number, of a text
abbrev pub of_number : BTreeMap ℤ ℕ → ℤ → ℕ
of_number numbers n = unwrap_or (get_by (int_cmp n) numbers) 0

abbrev pub of_text : BTreeMap (Bor (List ℕ)) ℕ → List ℕ → ℕ
of_text texts s = unwrap_or (get_by (λ k. slice_cmp nat_cmp s k.now) texts) 0

-- how many are counted
abbrev pub counted : Counts → Tree → ℕ
counted c nothing = c.nothings
counted c (truth true) = c.trues
counted c (truth false) = c.falses
counted c (number n) = of_number c.numbers n
counted c (text s) = of_text c.texts s
counted c t = 0
