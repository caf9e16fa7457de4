-- What `serde_json` reads is well formed: its whole numbers fit, and an object's names are in byte order, each once.
use Rattle.std.proofs.Common.{◌≡◌, ℕ, zero, suc, ◌-◌, ◌^◌, ◌<◌, ◌≤◌, ◌==◌, ◌&&◌}
use Rattle.std.proofs.Common.{nat_lt, nat_le, ℤ, pos, negsuc, List, [], ◌∷◌, drop, slice_index, Option, Some}
use Rattle.std.proofs.Common.{None, option_map, option_and_then, T, Bool, true, false, cond, IfSome, Ordering, Less}
use Rattle.std.proofs.Common.{Equal, Greater, Float, nat_cmp, refl, sym, ap, subst, ◌∙◌, arith}
use Rattle.std.proofs.lemmas.Bool.{and_parts, ltb-true, leb-true, le-leb}
use Rattle.std.proofs.lemmas.Cmp.{nat_list_cmp_total}
use Rattle.std.specs.Cmp.Lexicographic.{slice_cmp}
use Rattle.std.specs.Ordering.{match_ordering, ordering_reverse}
use Rattle.std.specs.Option.{option_or}
use Rattle.std.specs.Float.{binary64, float_is_finite}
use Rattle.std.specs.Int.Signed.{◌≤ℤ◌, le_z, le_z_yes}
use Rattle.std.specs.Prelude.{⊤}
use Rattle.fast_float.specs.Text.{minus, Parts, scan, digits_of, nearest, with_sign}
use Rattle.json.specs.Json as json
use Rattle.json.specs.Lex.{tokens}
use Rattle.serde_json.specs.Data as value
use Rattle.serde_json.specs.Read.{is_integer, number_from, float_of, number_of, of_json, of_items, of_members, read}
use Rattle.serde_json.specs.Read.{max_depth}
use Rattle.data_tree.specs.declared.data.Data.{Data}
use Rattle.data_tree.specs.Tree.{Tree, Members, list, fields, number, item, member, view}
use Rattle.data_tree.specs.Parts.{names_of}
use Rattle.data_tree.specs.WellFormed.{IsAscending, IsWellFormed, AreWellFormed, HaveWellFormedValues}
use Rattle.json_bridge.specs.Reading as spec

-- ---- numbers

abbrev Fits : ℤ → Type 0
Fits z = (negsuc (2 ^ 63 - 1) ≤ℤ z) × (z ≤ℤ pos (2 ^ 64 - 1))

abbrev NumFits : value.Num → Type 0
NumFits (value.unsigned n) = n < 2 ^ 64
NumFits (value.negative z) = Fits z
NumFits (value.float x) = ⊤

le_z_true : (a b : ℤ) → le_z a b ≡ true → a ≤ℤ b
le_z_true a b e = le_z_yes (subst T (sym e) tt)

pub unsigned_fits : (n : ℕ) → n < 2 ^ 64 → Fits (pos n)
unsigned_fits n h = (le_z_yes tt, le_z_true (pos n) (pos (2 ^ 64 - 1)) (le-leb n (2 ^ 64 - 1) (omega (arith, h))))

signed_fits : (n : ℕ) → n ≤ 2 ^ 63 → Fits (with_sign true n)
signed_fits zero h = (le_z_yes tt, le_z_yes tt)
signed_fits (suc n) h =
    (le_z_true (negsuc (2 ^ 63 - 1)) (negsuc n) (le-leb n (2 ^ 63 - 1) (omega (arith, h))), le_z_yes tt)

float_fits : (t : Bool) (x : Float) → IfSome (cond t (Some (value.float x)) None) NumFits
float_fits true x = tt
float_fits false x = tt

unsigned_from : (t : Bool) (n : ℕ) (o : Option value.Num) → (t ≡ true → n < 2 ^ 64) → IfSome o NumFits
    → IfSome (cond t (Some (value.unsigned n)) o) NumFits
unsigned_from true n o small other = small refl
unsigned_from false n o small other = other

negative_from : (t : Bool) (n : ℕ) (o : Option value.Num) → (t ≡ true → n ≤ 2 ^ 63) → IfSome o NumFits
    → IfSome (cond t (Some (value.negative (with_sign true n))) o) NumFits
negative_from true n o small other = signed_fits n (small refl)
negative_from false n o small other = other

number_from_fits : (sign : Bool) (p : Parts) → IfSome (number_from sign p) NumFits
number_from_fits false p =
    unsigned_from (is_integer p && nat_lt (digits_of p) (2 ^ 64)) (digits_of p) (float_of false p)
    (λ e. ltb-true (digits_of p) (2 ^ 64) (and_parts (is_integer p) (nat_lt (digits_of p) (2 ^ 64)) e).1)
    (float_fits (float_is_finite (nearest binary64 false p)) (nearest binary64 false p))
number_from_fits true p =
    negative_from (is_integer p && nat_lt 0 (digits_of p) && nat_le (digits_of p) (2 ^ 63)) (digits_of p)
    (float_of true p)
    (λ e. leb-true (digits_of p) (2 ^ 63)
    (and_parts (is_integer p && nat_lt 0 (digits_of p)) (nat_le (digits_of p) (2 ^ 63)) e).1)
    (float_fits (float_is_finite (nearest binary64 true p)) (nearest binary64 true p))

either_sign : (t : Bool) (a b : Option value.Num) → IfSome a NumFits → IfSome b NumFits
    → IfSome (cond t a b) NumFits
either_sign true a b p q = p
either_sign false a b p q = q

number_of_fits : (s : List ℕ) → IfSome (number_of s) NumFits
unfolding number_of
number_of_fits s =
    either_sign (slice_index s 0 == minus) (number_from true (scan (drop 1 s))) (number_from false (scan s))
    (number_from_fits true (scan (drop 1 s))) (number_from_fits false (scan s))

-- ---- names

abbrev keys : value.Members → List (List ℕ)
keys value.no_members = []
keys (value.member k d ms) = k ∷ keys ms

after_first_put : (o : Ordering) (l k m : List ℕ) (d e : value.Data) (ms : value.Members)
    → slice_cmp nat_cmp l k ≡ Less → slice_cmp nat_cmp l m ≡ Less
    → IsAscending
    (keys (match_ordering o (value.member k d (value.member m e ms)) (value.member m d ms)
    (value.member m e (value.put k d ms))))
    → IsAscending
    (l ∷ keys (match_ordering o (value.member k d (value.member m e ms)) (value.member m d ms)
    (value.member m e (value.put k d ms))))
after_first_put Less l k m d e ms below next h = (below, h)
after_first_put Equal l k m d e ms below next h = (next, h)
after_first_put Greater l k m d e ms below next h = (next, h)

before_put : (l k : List ℕ) (d : value.Data) (ms : value.Members) → slice_cmp nat_cmp l k ≡ Less
    → IsAscending (l ∷ keys ms) → IsAscending (keys (value.put k d ms))
    → IsAscending (l ∷ keys (value.put k d ms))
before_put l k d value.no_members below h done = (below, done)
before_put l k d (value.member m e ms) below h done =
    after_first_put (slice_cmp nat_cmp k m) l k m d e ms below h.0 done

tail_ascends : (l : List ℕ) (names : List (List ℕ)) → IsAscending (l ∷ names) → IsAscending names
tail_ascends l [] h = h
tail_ascends l (name ∷ names) h = h.1

ascends_put_at : (o : Ordering) (k l : List ℕ) (d e : value.Data) (ms : value.Members) → slice_cmp nat_cmp k l ≡ o
    → IsAscending (l ∷ keys ms) → IsAscending (keys (value.put k d ms))
    → IsAscending
    (keys (match_ordering o (value.member k d (value.member l e ms)) (value.member l d ms)
    (value.member l e (value.put k d ms))))
ascends_put_at Less k l d e ms is h later = (is, h)
ascends_put_at Equal k l d e ms is h later = h
ascends_put_at Greater k l d e ms is h later =
    before_put l k d ms (nat_list_cmp_total.antisymm l k ∙ ap ordering_reverse is) h later

ascends_put : (k : List ℕ) (d : value.Data) (ms : value.Members) → IsAscending (keys ms)
    → IsAscending (keys (value.put k d ms))
ascends_put k d value.no_members h = tt
ascends_put k d (value.member l e ms) h =
    ascends_put_at (slice_cmp nat_cmp k l) k l d e ms refl h (ascends_put k d ms (tail_ascends l (keys ms) h))

-- ---- values

abbrev mutual
  IsRead : value.Data → Type 0
  IsRead value.null = ⊤
  IsRead (value.boolean b) = ⊤
  IsRead (value.number n) = NumFits n
  IsRead (value.string s) = ⊤
  IsRead (value.array ds) = AreRead ds
  IsRead (value.object ms) = IsAscending (keys ms) × HaveRead ms

  AreRead : value.Items → Type 0
  AreRead value.no_items = ⊤
  AreRead (value.item d ds) = IsRead d × AreRead ds

  HaveRead : value.Members → Type 0
  HaveRead value.no_members = ⊤
  HaveRead (value.member k d ms) = IsRead d × HaveRead ms

have_read_at : (o : Ordering) (a b c : value.Members) → HaveRead a → HaveRead b → HaveRead c
    → HaveRead (match_ordering o a b c)
have_read_at Less a b c p q r = p
have_read_at Equal a b c p q r = q
have_read_at Greater a b c p q r = r

have_read_put : (k : List ℕ) (d : value.Data) (ms : value.Members) → IsRead d → HaveRead ms
    → HaveRead (value.put k d ms)
have_read_put k d value.no_members p h = (p, tt)
have_read_put k d (value.member l e ms) p h =
    have_read_at (slice_cmp nat_cmp k l) (value.member k d (value.member l e ms)) (value.member l d ms)
    (value.member l e (value.put k d ms))
    (p, h) (p, h.1) (h.0, have_read_put k d ms p h.1)

some_map : {A B : Type 0} (P : A → Type 0) (Q : B → Type 0) (f : A → B) → ((a : A) → P a → Q (f a))
    → (o : Option A) → IfSome o P → IfSome (option_map f o) Q
some_map P Q f k None h = tt
some_map P Q f k (Some a) h = k a h

some_then : {A B : Type 0} (P : A → Type 0) (Q : B → Type 0) (f : A → Option B)
    → ((a : A) → P a → IfSome (f a) Q) → (o : Option A) → IfSome o P → IfSome (option_and_then f o) Q
some_then P Q f k None h = tt
some_then P Q f k (Some a) h = k a h

abbrev Ascends : value.Members → Type 0
Ascends ms = IsAscending (keys ms) × HaveRead ms

mutual
  is_read : (j : json.Json) → IfSome (of_json j) IsRead
  is_read json.null = tt
  is_read (json.boolean b) = tt
  is_read (json.number s) = some_map NumFits IsRead value.number (λ n h. h) (number_of s) (number_of_fits s)
  is_read (json.string s) = tt
  is_read (json.array js) = some_map AreRead IsRead value.array (λ ds h. h) (of_items js) (are_read js)
  is_read (json.object ms) =
      some_map Ascends IsRead value.object (λ es h. h) (of_members ms value.no_members)
      (ascend_read ms value.no_members (tt, tt))

  are_read : (js : json.Items) → IfSome (of_items js) AreRead
  are_read json.no_items = tt
  are_read (json.item j js) =
      some_then IsRead AreRead _
      (λ d p. some_map AreRead AreRead (value.item d) (λ ds h. (p, h)) (of_items js) (are_read js)) (of_json j)
      (is_read j)

  ascend_read : (ms : json.Members) (found : value.Members) → Ascends found → IfSome (of_members ms found) Ascends
  ascend_read json.no_members found h = h
  ascend_read (json.member k j ms) found h =
      some_then IsRead Ascends _
      (λ d p. ascend_read ms (value.put k d found) (ascends_put k d found h.0, have_read_put k d found p h.1))
      (of_json j) (is_read j)

read_is_read : (s : List ℕ) → IfSome (read s) IsRead
read_is_read s =
    some_then (λ j. ⊤) IsRead of_json (λ j h. is_read j)
    (option_and_then (λ p. json.if_last p.0 p.1) (json.value max_depth (tokens s))) (anything _)
  where
    anything : {A : Type 0} (o : Option A) → IfSome o (λ a. ⊤)
    anything None = tt
    anything (Some a) = tt

-- ---- their trees

whole_number_fits : (n : value.Num) → NumFits n → IfSome (spec.whole_number n) Fits
whole_number_fits (value.unsigned n) h = either (nat_lt n (2 ^ 63))
  where
    either : (t : Bool) → IfSome (option_or (cond t (Some (pos n)) None) (Some (pos n))) Fits
    either true = unsigned_fits n h
    either false = unsigned_fits n h
whole_number_fits (value.negative z) h = h
whole_number_fits (value.float x) h = tt

-- the names stay
abbrev Keeps : List (List ℕ) → Members → Type 0
Keeps names ms = (names_of ms ≡ names) × HaveWellFormedValues ms

mutual
  tree_well_formed : (d : value.Data) → IsRead d → IfSome (spec.tree_of_value d) IsWellFormed
  tree_well_formed value.null h = tt
  tree_well_formed (value.boolean b) h = tt
  tree_well_formed (value.number n) h =
      some_map Fits IsWellFormed number (λ z fits. fits) (spec.whole_number n) (whole_number_fits n h)
  tree_well_formed (value.string s) h = tt
  tree_well_formed (value.array ds) h =
      some_map AreWellFormed IsWellFormed list (λ ts formed. formed) (spec.items_of ds) (items_well_formed ds h)
  tree_well_formed (value.object ms) h =
      some_map (Keeps (keys ms)) IsWellFormed fields (λ ts kept. (subst IsAscending (sym kept.0) h.0, kept.1))
      (spec.members_of ms) (members_well_formed ms h.1)

  items_well_formed : (ds : value.Items) → AreRead ds → IfSome (spec.items_of ds) AreWellFormed
  items_well_formed value.no_items h = tt
  items_well_formed (value.item d ds) h =
      some_then IsWellFormed AreWellFormed _
      (λ t formed. some_map AreWellFormed AreWellFormed (item t) (λ ts more. (formed, more)) (spec.items_of ds)
      (items_well_formed ds h.1)) (spec.tree_of_value d) (tree_well_formed d h.0)

  members_well_formed : (ms : value.Members) → HaveRead ms → IfSome (spec.members_of ms) (Keeps (keys ms))
  members_well_formed value.no_members h = (refl, tt)
  members_well_formed (value.member k d ms) h =
      some_then IsWellFormed (Keeps (k ∷ keys ms)) _
      (λ t formed. some_map (Keeps (keys ms)) (Keeps (k ∷ keys ms)) (member k t)
      (λ ts kept. (ap (λ names. k ∷ names) kept.0, (formed, kept.1))) (spec.members_of ms)
      (members_well_formed ms h.1))
      (spec.tree_of_value d) (tree_well_formed d h.0)

pub found_well_formed : (s : List ℕ) (d : value.Data) (found : Data) → read s ≡ Some d
    → Some (view found) ≡ spec.tree_of_value d → IsWellFormed (view found)
found_well_formed s d found is h =
    let formed : IfSome (read s) IsRead = read_is_read s in
    let read_d : IfSome (Some d) IsRead = subst (λ o. IfSome o IsRead) is formed in
    subst (λ o. IfSome o IsWellFormed) (sym h) (tree_well_formed d read_d)

pub text_well_formed : (s : List ℕ) (t : Tree) → spec.tree_of_text s ≡ Some t → IsWellFormed t
text_well_formed s t e =
    let formed : IfSome (spec.tree_of_text s) IsWellFormed =
    some_then IsRead IsWellFormed spec.tree_of_value tree_well_formed (read s) (read_is_read s) in
    subst (λ o. IfSome o IsWellFormed) e formed
