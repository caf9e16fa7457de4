-- The JSON text of a tree reads back as the tree, where no named text is in it and it nests at most 127 deep.
use Rattle.std.proofs.Common.{◌≡◌, ℕ, ◌-◌, ◌^◌, ◌<◌, ◌≤◌, nat_lt, ℤ, pos, negsuc, List, []}
use Rattle.std.proofs.Common.{◌∷◌, ◌++◌, Option, Some, None, option_map, option_and_then, T, Bool, true}
use Rattle.std.proofs.Common.{false, cond, Less, Greater, nat_cmp, refl, sym, ap, ◌∙◌, arith, append-nil}
use Rattle.std.proofs.lemmas.Bool.{or_parts, leb-true, true≢false}
use Rattle.std.proofs.lemmas.Cmp.{nat_list_cmp_total}
use Rattle.std.specs.Cmp.Lexicographic.{slice_cmp}
use Rattle.std.specs.Fmt.{signed_decimal}
use Rattle.std.specs.Int.Signed.{◌≤ℤ◌}
use Rattle.std.specs.Option.{option_or}
use Rattle.std.specs.Ordering.{ordering_reverse}
use Rattle.json.proofs.Printed.Tokens.{tokens-print}
use Rattle.json.proofs.Printed.Trees.{ArePrintable-json_tokens, value-json_tokens}
use Rattle.json.specs.Lex.{tokens as lexed}
use Rattle.json.specs.Json as json
use Rattle.json.specs.Print.{print, IsNumber}
use Rattle.json.specs.Token.{Token}
use Rattle.json.specs.Tree as written
use Rattle.serde_json.proofs.Numbers.{number_of-decimal, number_of-negative}
use Rattle.serde_json.specs.Data as value
use Rattle.serde_json.specs.Find.{of_integer}
use Rattle.serde_json.specs.Read.{number_of, of_json, of_items, of_members, max_depth}
use Rattle.data_tree.proofs.Numerals.{IsNumber-signed_decimal_wide}
use Rattle.data_tree.proofs.Printed.{print-tree_tokens}
use Rattle.data_tree.specs.Json as text
use Rattle.data_tree.specs.Parts.{names_of}
use Rattle.data_tree.proofs.Tokens as tokens
use Rattle.data_tree.specs.Tree as tree
use Rattle.data_tree.specs.Tree.{Tree}
use Rattle.data_tree.specs.WellFormed.{IsAscending, IsWellFormed, AreWellFormed, HaveWellFormedValues}
use Rattle.json_bridge.specs.Reading as spec
use Rattle.json_bridge.specs.Writing.{has_named, items_have_named, members_have_named, depth, items_depth}
use Rattle.json_bridge.specs.Writing.{members_depth}

-- ---- the tree as JSON, and as the value that it reads as

abbrev mutual
  json_for : Tree → json.Json
  json_for tree.nothing = json.null
  json_for (tree.truth b) = json.boolean b
  json_for (tree.number n) = json.number (signed_decimal n)
  json_for (tree.text s) = json.string s
  json_for (tree.list ts) = json.array (items_for ts)
  json_for (tree.fields ms) = json.object (members_for ms)
  json_for (tree.named s ts ms) = json.null

  items_for : tree.Items → json.Items
  items_for tree.no_items = json.no_items
  items_for (tree.item t ts) = json.item (json_for t) (items_for ts)

  members_for : tree.Members → json.Members
  members_for tree.no_members = json.no_members
  members_for (tree.member k t ms) = json.member k (json_for t) (members_for ms)

abbrev mutual
  value_for : Tree → value.Data
  value_for tree.nothing = value.null
  value_for (tree.truth b) = value.boolean b
  value_for (tree.number n) = value.number (of_integer n)
  value_for (tree.text s) = value.string s
  value_for (tree.list ts) = value.array (value_items ts)
  value_for (tree.fields ms) = value.object (value_members ms)
  value_for (tree.named s ts ms) = value.null

  value_items : tree.Items → value.Items
  value_items tree.no_items = value.no_items
  value_items (tree.item t ts) = value.item (value_for t) (value_items ts)

  value_members : tree.Members → value.Members
  value_members tree.no_members = value.no_members
  value_members (tree.member k t ms) = value.member k (value_for t) (value_members ms)

-- ---- its tokens

mutual
  tokens_for : (t : Tree) → has_named t ≡ false → tokens.tree_tokens t ≡ written.json_tokens (json_for t)
  tokens_for tree.nothing h = refl
  tokens_for (tree.truth b) h = refl
  tokens_for (tree.number n) h = refl
  tokens_for (tree.text s) h = refl
  tokens_for (tree.list ts) h = ap (λ us. Token.begin_array ∷ us) (items_tokens_for ts h)
  tokens_for (tree.fields ms) h = ap (λ us. Token.begin_object ∷ us) (members_tokens_for ms h)
  tokens_for (tree.named s ts ms) h = absurd (true≢false h)

  items_tokens_for : (ts : tree.Items) → items_have_named ts ≡ false
      → tokens.items_tokens ts ≡ written.items_tokens (items_for ts)
  items_tokens_for tree.no_items h = refl
  items_tokens_for (tree.item t ts) h =
      let p = or_parts (has_named t) (items_have_named ts) h in
      let first = tokens_for t p.0 in
      let rest = items_tokens_for ts p.1 in
      (λ i. first i ++ rest i)

  members_tokens_for : (ms : tree.Members) → members_have_named ms ≡ false
      → tokens.members_tokens ms ≡ written.members_tokens (members_for ms)
  members_tokens_for tree.no_members h = refl
  members_tokens_for (tree.member k t ms) h =
      let p = or_parts (has_named t) (members_have_named ms) h in
      let first = tokens_for t p.0 in
      let rest = members_tokens_for ms p.1 in
      (λ i. Token.key k ∷ (first i ++ rest i))

-- ---- its numbers

true_of : (b : Bool) → T b → b ≡ true
true_of true t = refl
true_of false t = absurd t

below_unsigned : (n : ℕ) → pos n ≤ℤ pos (2 ^ 64 - 1) → n < 2 ^ 64
below_unsigned n h = omega (arith, leb-true n (2 ^ 64 - 1) (true_of _ h.le))

above_signed : (n : ℕ) → negsuc (2 ^ 63 - 1) ≤ℤ negsuc n → n < 2 ^ 63
above_signed n h = omega (arith, leb-true n (2 ^ 63 - 1) (true_of _ h.le))

number_written : (n : ℤ) → IsWellFormed (tree.number n) → IsNumber (signed_decimal n)
number_written (pos n) h =
    IsNumber-signed_decimal_wide (pos n) (record { sfits = omega (arith, below_unsigned n h.1) })
number_written (negsuc n) h =
    IsNumber-signed_decimal_wide (negsuc n) (record { sfits = omega (arith, above_signed n h.0) })

number_read : (n : ℤ) → IsWellFormed (tree.number n) → number_of (signed_decimal n) ≡ Some (of_integer n)
number_read (pos n) h = number_of-decimal n (below_unsigned n h.1)
number_read (negsuc n) h = number_of-negative n (above_signed n h.0)

whole_again : (n : ℤ) → spec.whole_number (of_integer n) ≡ Some n
whole_again (pos n) = either (nat_lt n (2 ^ 63))
  where
    either : (t : Bool) → option_or (cond t (Some (pos n)) None) (Some (pos n)) ≡ Some (pos n)
    either true = refl
    either false = refl
whole_again (negsuc n) = refl

mutual
  has_numbers : (t : Tree) → IsWellFormed t → written.HasNumbers (json_for t)
  has_numbers tree.nothing h = tt
  has_numbers (tree.truth b) h = tt
  has_numbers (tree.number n) h = number_written n h
  has_numbers (tree.text s) h = tt
  has_numbers (tree.list ts) h = items_have_numbers ts h
  has_numbers (tree.fields ms) h = members_have_numbers ms h.1
  has_numbers (tree.named s ts ms) h = tt

  items_have_numbers : (ts : tree.Items) → AreWellFormed ts → written.ItemsHaveNumbers (items_for ts)
  items_have_numbers tree.no_items h = tt
  items_have_numbers (tree.item t ts) h = (has_numbers t h.0, items_have_numbers ts h.1)

  members_have_numbers : (ms : tree.Members) → HaveWellFormedValues ms → written.MembersHaveNumbers (members_for ms)
  members_have_numbers tree.no_members h = tt
  members_have_numbers (tree.member k t ms) h = (has_numbers t h.0, members_have_numbers ms h.1)

-- ---- its depth

mutual
  depth_for : (t : Tree) → written.depth (json_for t) ≤ depth t
  depth_for tree.nothing = omega arith
  depth_for (tree.truth b) = omega arith
  depth_for (tree.number n) = omega arith
  depth_for (tree.text s) = omega arith
  depth_for (tree.list ts) = omega (arith, items_depth_for ts)
  depth_for (tree.fields ms) = omega (arith, members_depth_for ms)
  depth_for (tree.named s ts ms) = omega arith

  items_depth_for : (ts : tree.Items) → written.items_depth (items_for ts) ≤ items_depth ts
  items_depth_for tree.no_items = omega arith
  items_depth_for (tree.item t ts) = omega (arith, depth_for t, items_depth_for ts)

  members_depth_for : (ms : tree.Members) → written.members_depth (members_for ms) ≤ members_depth ms
  members_depth_for tree.no_members = omega arith
  members_depth_for (tree.member k t ms) = omega (arith, depth_for t, members_depth_for ms)

-- ---- its names: each goes after those that are there

abbrev join : value.Members → value.Members → value.Members
join value.no_members rest = rest
join (value.member k d ms) rest = value.member k d (join ms rest)

-- the name is above all of these
abbrev IsAbove : List ℕ → value.Members → Type 0
IsAbove name value.no_members = Unit {0}
IsAbove name (value.member k d ms) = (slice_cmp nat_cmp name k ≡ Greater) × IsAbove name ms

abbrev AreAbove : tree.Members → value.Members → Type 0
AreAbove tree.no_members found = Unit {0}
AreAbove (tree.member k t ms) found = IsAbove k found × AreAbove ms found

put_above : (k : List ℕ) (d : value.Data) (found : value.Members) → IsAbove k found
    → value.put k d found ≡ join found (value.member k d value.no_members)
put_above k d value.no_members h = refl
put_above k d (value.member l e ms) h = rw h.0 (ap (value.member l e) (put_above k d ms h.1))

above_join : (name k : List ℕ) (d : value.Data) (found : value.Members) → IsAbove name found
    → slice_cmp nat_cmp name k ≡ Greater → IsAbove name (join found (value.member k d value.no_members))
above_join name k d value.no_members h is = (is, tt)
above_join name k d (value.member l e ms) h is = (h.0, above_join name k d ms h.1 is)

greater_of : (a b : List ℕ) → slice_cmp nat_cmp a b ≡ Less → slice_cmp nat_cmp b a ≡ Greater
greater_of a b e = nat_list_cmp_total.antisymm b a ∙ ap ordering_reverse e

-- later names are above an earlier one
above_first : (k : List ℕ) (d : value.Data) (found : value.Members) (ms : tree.Members)
    → IsAscending (k ∷ names_of ms) → AreAbove ms found
    → AreAbove ms (join found (value.member k d value.no_members))
above_first k d found tree.no_members h above = tt
above_first k d found (tree.member l t ms) h above = (
  above_join l k d found above.0 (greater_of k l h.0),
  above_first k d found ms
      (without_next k l (names_of ms) h) above.1,
)
  where
    without_next : (a b : List ℕ) (names : List (List ℕ)) → IsAscending (a ∷ b ∷ names)
        → IsAscending (a ∷ names)
    without_next a b [] h = tt
    without_next a b (c ∷ names) h = (nat_list_cmp_total.trans a b c h.0 h.1.0, h.1.1)

none_above : (ms : tree.Members) → AreAbove ms value.no_members
none_above tree.no_members = tt
none_above (tree.member k t ms) = (tt, none_above ms)

join_last : (found : value.Members) (k : List ℕ) (d : value.Data) (rest : value.Members)
    → join (join found (value.member k d value.no_members)) rest ≡ join found (value.member k d rest)
join_last value.no_members k d rest = refl
join_last (value.member l e ms) k d rest = ap (value.member l e) (join_last ms k d rest)

join_none : (found : value.Members) → join found value.no_members ≡ found
join_none value.no_members = refl
join_none (value.member k d ms) = ap (value.member k d) (join_none ms)

ascending_tail : (k : List ℕ) (names : List (List ℕ)) → IsAscending (k ∷ names) → IsAscending names
ascending_tail k [] h = tt
ascending_tail k (name ∷ names) h = h.1

-- ---- it reads as its value, and its value is the tree

mutual
  read_for : (t : Tree) → has_named t ≡ false → IsWellFormed t → of_json (json_for t) ≡ Some (value_for t)
  read_for tree.nothing plain h = refl
  read_for (tree.truth b) plain h = refl
  read_for (tree.number n) plain h = ap (option_map value.number) (number_read n h)
  read_for (tree.text s) plain h = refl
  read_for (tree.list ts) plain h = ap (option_map value.array) (read_items ts plain h)
  read_for (tree.fields ms) plain h =
      ap (option_map value.object) (read_members ms value.no_members plain h.0 h.1 (none_above ms))
  read_for (tree.named s ts ms) plain h = absurd (true≢false plain)

  read_items : (ts : tree.Items) → items_have_named ts ≡ false → AreWellFormed ts
      → of_items (items_for ts) ≡ Some (value_items ts)
  read_items tree.no_items plain h = refl
  read_items (tree.item t ts) plain h =
      let p = or_parts (has_named t) (items_have_named ts) plain in
      rw (read_for t p.0 h.0, read_items ts p.1 h.1) refl

  read_members : (ms : tree.Members) (found : value.Members) → members_have_named ms ≡ false
      → IsAscending (names_of ms) → HaveWellFormedValues ms → AreAbove ms found
      → of_members (members_for ms) found ≡ Some (join found (value_members ms))
  read_members tree.no_members found plain order h above = ap Some (sym (join_none found))
  read_members (tree.member k t ms) found plain order h above =
      let p = or_parts (has_named t) (members_have_named ms) plain in
      let d = value_for t in
      let last = put_above k d found above.0 in
      let later =
      read_members ms (join found (value.member k d value.no_members)) p.1
      (ascending_tail k (names_of ms) order) h.1 (above_first k d found ms order above.1) in
      rw (read_for t p.0 h.0, last) (later ∙ ap Some (join_last found k d (value_members ms)))

mutual
  tree_again : (t : Tree) → has_named t ≡ false → spec.tree_of_value (value_for t) ≡ Some t
  tree_again tree.nothing plain = refl
  tree_again (tree.truth b) plain = refl
  tree_again (tree.number n) plain = ap (option_map tree.number) (whole_again n)
  tree_again (tree.text s) plain = refl
  tree_again (tree.list ts) plain = ap (option_map tree.list) (items_again ts plain)
  tree_again (tree.fields ms) plain = ap (option_map tree.fields) (members_again ms plain)
  tree_again (tree.named s ts ms) plain = absurd (true≢false plain)

  items_again : (ts : tree.Items) → items_have_named ts ≡ false → spec.items_of (value_items ts) ≡ Some ts
  items_again tree.no_items plain = refl
  items_again (tree.item t ts) plain =
      let p = or_parts (has_named t) (items_have_named ts) plain in
      rw (tree_again t p.0, items_again ts p.1) refl

  members_again : (ms : tree.Members) → members_have_named ms ≡ false
      → spec.members_of (value_members ms) ≡ Some ms
  members_again tree.no_members plain = refl
  members_again (tree.member k t ms) plain =
      let p = or_parts (has_named t) (members_have_named ms) plain in
      rw (tree_again t p.0, members_again ms p.1) refl

abbrev Whole : Type 0
Whole = Option (json.Json × List Token)

-- the value that all the tokens are
abbrev all_of : Whole → Option json.Json
all_of o = option_and_then (λ p. json.if_last p.0 p.1) o

json_again : (j : json.Json) → written.HasNumbers j → written.depth j ≤ max_depth
    → all_of (json.value max_depth (lexed (print (written.json_tokens j)))) ≡ Some j
json_again j numbers shallow =
    let ts = written.json_tokens j in
    ap (λ us. all_of (json.value max_depth us))
    (tokens-print ts (ArePrintable-json_tokens j numbers) ∙ sym (append-nil ts)) ∙ ap all_of
    (value-json_tokens j max_depth [] shallow)

pub reads_back : (t : Tree) → IsWellFormed t → has_named t ≡ false → depth t ≤ 127
    → spec.tree_of_text (text.json t) ≡ Some t
reads_back t formed plain shallow =
    let printed : text.json t ≡ print (written.json_tokens (json_for t)) =
    sym (print-tree_tokens t) ∙ ap print (tokens_for t plain) in
    ap spec.tree_of_text printed
    ∙ ap (λ o. option_and_then spec.tree_of_value (option_and_then of_json o))
    (json_again (json_for t) (has_numbers t formed) (omega (arith, depth_for t, shallow)))
    ∙ ap (option_and_then spec.tree_of_value) (read_for t plain formed) ∙ tree_again t plain
