-- What `json` prints for the tokens of a tree is the tree's JSON text.
use Rattle.std.proofs.Common.{◌≡◌, ℕ, List, [], ◌∷◌, ◌++◌, Bool, true, false, codes, refl, sym, ap}
use Rattle.std.proofs.Common.{◌∙◌, append_assoc, append-nil}
use Rattle.json.specs.Token.{Token}
use Rattle.json.specs.Print.{print, print_from, quoted, escape_byte}
use Rattle.data_tree.specs.Tree.{Tree, nothing, truth, number, text, list, fields, named, Items, no_items, item}
use Rattle.data_tree.specs.Tree.{Members, no_members, member}
use Rattle.data_tree.specs.Json.{json, items_json, members_json, comma_if}
use Rattle.data_tree.proofs.Tokens.{tree_tokens, items_tokens, members_tokens}

-- ---- the same pieces, bracketed to the left

item_pieces : (a b c d : List ℕ) → a ++ (b ++ (c ++ d)) ≡ (a ++ (b ++ c)) ++ d
item_pieces a b c d = simp append_assoc

member_pieces : (a b c d e f : List ℕ) → a ++ ((b ++ c) ++ (d ++ (e ++ f))) ≡ (a ++ (b ++ (c ++ (d ++ e)))) ++ f
member_pieces a b c d e f = simp append_assoc

named_pieces : (a b c d e f g rest : List ℕ)
    → a ++ (b ++ (c ++ (d ++ (e ++ (f ++ (g ++ rest)))))) ≡ (a ++ (b ++ (c ++ (d ++ (e ++ (f ++ g)))))) ++ rest
named_pieces a b c d e f g rest = simp append_assoc

-- after a value, a comma comes first
print_later : (t : Tree) (rest : List Token)
    → print_from true (tree_tokens t ++ rest) ≡ 44 ∷ print_from false (tree_tokens t ++ rest)
unfolding print_from
print_later nothing rest = refl
print_later (truth b) rest = refl
print_later (number n) rest = refl
print_later (text s) rest = refl
print_later (list ts) rest = refl
print_later (fields ms) rest = refl
print_later (named s ts ms) rest = refl

print_item : (later : Bool) (t : Tree) (rest : List Token)
    → print_from false (tree_tokens t ++ rest) ≡ json t ++ print_from true rest
    → print_from later (tree_tokens t ++ rest) ≡ comma_if later ++ (json t ++ print_from true rest)
print_item true t rest value = print_later t rest ∙ ap (λ s. 44 ∷ s) value
print_item false t rest value = value

print_member : (later : Bool) (k : List ℕ) (t : Tree) (ms : Members) (rest : List Token)
    → print_from false (tree_tokens t ++ (members_tokens ms ++ rest)) ≡ json t ++ print_from true
    (members_tokens ms ++ rest)
    → print_from true (members_tokens ms ++ rest) ≡ members_json true ms ++ (125 ∷ print_from true rest)
    → comma_if later ++
    ((quoted k ++ codes ":") ++ print_from false
    ((tree_tokens t ++ members_tokens ms) ++ rest)) ≡ members_json later (member k t ms) ++
    (125 ∷ print_from true rest)
print_member later k t ms rest value others =
    ap (λ s. comma_if later ++ ((quoted k ++ codes ":") ++ s))
    (ap (print_from false) (append_assoc (tree_tokens t) (members_tokens ms) rest) ∙ value ∙ ap
    (λ s. json t ++ s) others)
    ∙ member_pieces (comma_if later) (quoted k) (codes ":") (json t) (members_json true ms)
    (125 ∷ print_from true rest)

mutual
  unfolding print_from escape_byte

  print_tree : (t : Tree) (rest : List Token)
      → print_from false (tree_tokens t ++ rest) ≡ json t ++ print_from true rest
  print_tree nothing rest = refl
  print_tree (truth true) rest = refl
  print_tree (truth false) rest = refl
  print_tree (number n) rest = refl
  print_tree (text s) rest = refl
  print_tree (list ts) rest =
      ap (λ s. 91 ∷ s)
      (print_items false ts rest ∙ sym (append_assoc (items_json false ts) (93 ∷ []) (print_from true rest)))
  print_tree (fields ms) rest =
      ap (λ s. 123 ∷ s)
      (print_members false ms rest ∙ sym (append_assoc (members_json false ms) (125 ∷ []) (print_from true rest)))
  print_tree (named s ts ms) rest =
      let last = Token.key (codes "text") ∷ Token.string s ∷ Token.end_object ∷ [] in
      let middle = Token.key (codes "items") ∷ Token.begin_array ∷ (items_tokens ts ++ last) in
      let items_print =
      ap (print_from false) (append_assoc (items_tokens ts) last rest) ∙ print_items false ts (last ++ rest) in
      let members_print =
      ap (print_from false) (append_assoc (members_tokens ms) middle rest) ∙ print_members false ms
      (middle ++ rest) in
      ap (λ s. codes "{\"fields\":{" ++ s)
      (members_print ∙ ap (λ s. members_json false ms ++ (codes "},\"items\":[" ++ s)) items_print)
      ∙ named_pieces (codes "{\"fields\":{") (members_json false ms) (codes "},\"items\":[") (items_json false ts)
      (codes "],\"text\":") (quoted s) (codes "}") (print_from true rest)

  print_items : (later : Bool) (ts : Items) (rest : List Token)
      → print_from later (items_tokens ts ++ rest) ≡ items_json later ts ++ (93 ∷ print_from true rest)
  print_items true no_items rest = refl
  print_items false no_items rest = refl
  print_items later (item t ts) rest =
      ap (print_from later) (append_assoc (tree_tokens t) (items_tokens ts) rest)
      ∙ print_item later t (items_tokens ts ++ rest) (print_tree t (items_tokens ts ++ rest))
      ∙ ap (λ s. comma_if later ++ (json t ++ s)) (print_items true ts rest)
      ∙ item_pieces (comma_if later) (json t) (items_json true ts) (93 ∷ print_from true rest)

  print_members : (later : Bool) (ms : Members) (rest : List Token)
      → print_from later (members_tokens ms ++ rest) ≡ members_json later ms ++ (125 ∷ print_from true rest)
  print_members true no_members rest = refl
  print_members false no_members rest = refl
  print_members true (member k t ms) rest =
      print_member true k t ms rest (print_tree t (members_tokens ms ++ rest)) (print_members true ms rest)
  print_members false (member k t ms) rest =
      print_member false k t ms rest (print_tree t (members_tokens ms ++ rest)) (print_members true ms rest)

pub print-tree_tokens : (t : Tree) → print (tree_tokens t) ≡ json t
unfolding print_from
print-tree_tokens t = ap print (sym (append-nil (tree_tokens t))) ∙ print_tree t [] ∙ append-nil (json t)
