-- A value's parts are no larger than the value.
use Rattle.std.proofs.Common.{◌≡◌, ℕ, zero, suc, ◌+◌, ◌≤◌, Bool, true, false, cond, List, []}
use Rattle.std.proofs.Common.{◌∷◌, ◌++◌, length, Some, refl, ap, arith, length-append, slice_get, codes}
use Rattle.std.specs.List.{sum_by}
use Rattle.std.proofs.lemmas.List.Sums.{sum_by-cons}
use Rattle.json.specs.Print.{escape_byte, escape, quoted}
use Rattle.data_tree.specs.Tree.{Tree, nothing, truth, number, text, list, fields, named, Items, no_items, item}
use Rattle.data_tree.specs.Tree.{Members, no_members, member}
use Rattle.data_tree.specs.Json.{json, items_json, members_json, comma_if, size}
use Rattle.data_tree.specs.Print.{print}
use Rattle.data_tree.specs.Parts.{trees_of, values_of, names_of, items, keys}

escape_byte_by : (short control : Bool) (y : ℕ) (xs ys zs : List ℕ)
    → 1 ≤ length (cond short (92 ∷ xs) (cond control (92 ∷ ys) (y ∷ zs)))
escape_byte_by true control y xs ys zs = omega arith
escape_byte_by false true y xs ys zs = omega arith
escape_byte_by false false y xs ys zs = omega arith

-- a byte in a string becomes at least one
pub length_escape_byte : (x : ℕ) → 1 ≤ length (escape_byte x)
unfolding escape_byte
length_escape_byte x = search escape_byte_by

-- a text is no longer than its escape
pub length_escape : (s : List ℕ) → length s ≤ length (escape s)
length_escape [] = omega arith
length_escape (x ∷ s) = omega (arith, length-append (escape_byte x) (escape s), length_escape_byte x, length_escape s)

-- a text is shorter than it is between quotes, by 2 at least
pub length_quoted : (s : List ℕ) → length s + 2 ≤ length (quoted s)
length_quoted s = omega (arith, length-append (escape s) (34 ∷ []), length_escape s)

-- ---- what a list, an object and their parts take in JSON

-- the sizes of items, each counted with a comma before it
pub size_later_items : (ts : Items) → sum_by size (trees_of ts) ≤ length (items_json true ts)
size_later_items no_items = omega arith
size_later_items (item t ts) =
    omega (arith, sum_by-cons size t (trees_of ts), length-append (json t) (items_json true ts), size_later_items ts)

-- the sizes of all items, of which the first has no comma
pub size_items : (ts : Items) → sum_by size (trees_of ts) ≤ length (items_json false ts) + 1
size_items no_items = omega arith
size_items (item t ts) =
    omega (arith, sum_by-cons size t (trees_of ts), length-append (json t) (items_json true ts), size_later_items ts)

-- the sizes of members, each counted with what is before it
pub size_members : (later : Bool) (ms : Members) → sum_by size (values_of ms) ≤ length (members_json later ms)
size_members later no_members = omega arith
size_members later (member k t ms) =
    omega (
      arith,
      sum_by-cons size t (values_of ms),
      length-append (comma_if later) (quoted k ++ (codes ":" ++ (json t ++ members_json true ms))),
      length-append (quoted k) (codes ":" ++ (json t ++ members_json true ms)),
      length-append (json t) (members_json true ms),
      size_members true ms,
    )

-- each name takes its bytes
pub length_name : (later : Bool) (ms : Members) (i : ℕ) (k : List ℕ) → slice_get (names_of ms) i ≡ Some k
    → length k ≤ length (members_json later ms)
length_name later no_members i k found = absurd cc
length_name later (member j t ms) zero k found =
    omega (
      arith,
      ap length (some_inj j k found),
      length-append (comma_if later) (quoted j ++ (codes ":" ++ (json t ++ members_json true ms))),
      length-append (quoted j) (codes ":" ++ (json t ++ members_json true ms)),
      length_quoted j,
    )
  where
    some_inj : (a b : List ℕ) → Some a ≡ Some b → a ≡ b
    some_inj a b e = cc
length_name later (member j t ms) (suc i) k found =
    omega (
      arith,
      length-append (comma_if later) (quoted j ++ (codes ":" ++ (json t ++ members_json true ms))),
      length-append (quoted j) (codes ":" ++ (json t ++ members_json true ms)),
      length-append (json t) (members_json true ms),
      length_name true ms i k found,
    )

-- a list's JSON is that of its items and two brackets
pub length_list : (ts : Items) → length (json (list ts)) ≡ length (items_json false ts) + 2
length_list ts = omega (arith, length-append (items_json false ts) (codes "]"))

-- an object's JSON is that of its members and two brackets
pub length_fields : (ms : Members) → length (json (fields ms)) ≡ length (members_json false ms) + 2
length_fields ms = omega (arith, length-append (members_json false ms) (codes "}"))

-- a named text's JSON is that of its text, its items and its fields, and 32 bytes
pub length_named : (s : List ℕ) (ts : Items) (ms : Members)
    → length (json (named s ts ms)) ≡ length (quoted s) + length (items_json false ts) + length
    (members_json false ms) + 32
length_named s ts ms =
    omega (
      arith,
      length-append (members_json false ms)
          (codes "},\"items\":[" ++ (items_json false ts ++ (codes "],\"text\":" ++ (quoted s ++ codes "}")))),
      length-append (items_json false ts) (codes "],\"text\":" ++ (quoted s ++ codes "}")),
      length-append (quoted s) (codes "}"),
    )

-- ---- a value against its parts

-- a value prints as no more than its JSON
pub length_print_json : (t : Tree) → length (print t) ≤ length (json t)
length_print_json nothing = omega arith
length_print_json (truth b) = omega arith
length_print_json (number n) = omega arith
length_print_json (text s) = omega (arith, length_quoted s)
length_print_json (list ts) = omega arith
length_print_json (fields ms) = omega arith
length_print_json (named s ts ms) = omega (arith, length_named s ts ms, length_quoted s)

-- what a value prints as is at most its size
pub length_print : (t : Tree) → length (print t) ≤ size t
length_print t = omega (arith, length_print_json t)

-- each name of an item is at most the value's size
pub length_key : (t : Tree) (i : ℕ) (k : List ℕ) → slice_get (keys t) i ≡ Some k → length k ≤ size t
length_key nothing i k found = absurd cc
length_key (truth b) i k found = absurd cc
length_key (number n) i k found = absurd cc
length_key (text s) i k found = absurd cc
length_key (list ts) i k found = absurd cc
length_key (fields ms) i k found = omega (arith, length_fields ms, length_name false ms i k found)
length_key (named s ts ms) i k found = absurd cc

-- the sizes of a value's items add up to at most its size
pub size_sum : (t : Tree) → sum_by size (items t) ≤ size t
size_sum nothing = omega arith
size_sum (truth b) = omega arith
size_sum (number n) = omega arith
size_sum (text s) = omega arith
size_sum (list ts) = omega (arith, length_list ts, size_items ts)
size_sum (fields ms) = omega (arith, length_fields ms, size_members false ms)
size_sum (named s ts ms) = omega (arith, length_named s ts ms, size_items ts)

-- each size is at least 1, so there are no more than their sum
pub length_sizes : (ts : List Tree) → length ts ≤ sum_by size ts
length_sizes [] = omega arith
length_sizes (t ∷ ts) = omega (arith, sum_by-cons size t ts, length_sizes ts)

-- a value has no more items than its size
pub length_items : (t : Tree) → length (items t) ≤ size t
length_items t = omega (arith, length_sizes (items t), size_sum t)

-- one of several is no larger than their sum
pub size_one : (ts : List Tree) (i : ℕ) (t : Tree) → slice_get ts i ≡ Some t → size t ≤ sum_by size ts
size_one [] i t found = absurd cc
size_one (u ∷ ts) zero t found = omega (arith, sum_by-cons size u ts, ap size (some_inj u t found))
  where
    some_inj : (a b : Tree) → Some a ≡ Some b → a ≡ b
    some_inj a b e = cc
size_one (u ∷ ts) (suc i) t found = omega (arith, sum_by-cons size u ts, size_one ts i t found)

-- each item is at most as large as the value
pub size_item : (t : Tree) (i : ℕ) (u : Tree) → slice_get (items t) i ≡ Some u → size u ≤ size t
size_item t i u found = omega (arith, size_one (items t) i u found, size_sum t)

-- an object has a name for each of its items
pub length_names : (ms : Members) → length (names_of ms) ≡ length (values_of ms)
length_names no_members = refl
length_names (member k t ms) = omega (arith, length_names ms)
