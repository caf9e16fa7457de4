-- Values whose objects have their names in order: their text has no float where no number is one, and reads back.
use Rattle.std.proofs.Common.{◌≡◌, ℕ, pos, negsuc, ◌≤◌, ◌<◌, ◌^◌, List, [], false, Some, Ordering, Less, Equal, Greater}
use Rattle.std.proofs.Common.{nat_cmp, refl, sym, ap, ◌∙◌, subst, append-nil}
use Rattle.std.specs.Prelude.{⊤, option_map, option_and_then}
use Rattle.std.specs.Cmp.Lexicographic.{slice_cmp}
use Rattle.std.specs.Ordering.{match_ordering, ordering_reverse}
use Rattle.std.proofs.lemmas.Cmp.{nat_list_cmp_total}
use Rattle.json.specs.Lex.{tokens}
use Rattle.json.specs.Json as json
use Rattle.json.specs.Tree as tree
use Rattle.json.proofs.Printed.Decimals.{IsNumber-decimal, IsNumber-signed_decimal}
use Rattle.json.proofs.Printed.Tokens.{tokens-print}
use Rattle.json.proofs.Printed.Trees.{value-json_tokens, ArePrintable-json_tokens}
use Rattle.json_reading.proofs.Whole.{same_depth}
use Rattle.serde_json.specs.Data.{Num, unsigned, negative, float, Data, null, boolean, number, string, array, object}
use Rattle.serde_json.specs.Data.{Items, no_items, item, Members, no_members, member, put, depth}
use Rattle.serde_json.specs.Find.{is_float}
use Rattle.serde_json.specs.Read.{read, of_json, of_items, of_members, max_depth}
use Rattle.serde_json.specs.Written.{outline, items_outline, members_outline, has_float, items_have_float}
use Rattle.serde_json.specs.Written.{members_have_float, compact_text}
use Rattle.serde_json.proofs.Numbers.{number_of-decimal, number_of-negative}
use Rattle.serde_json.proofs.Texts.{print-outline}

abbrev pub is_below : List ℕ → List ℕ → Type 0
is_below k l = slice_cmp nat_cmp k l ≡ Less

-- each name is above that one
abbrev pub AreAbove : List ℕ → Members → Type 0
AreAbove k no_members = ⊤
AreAbove k (member l d ms) = is_below k l × AreAbove k ms

abbrev pub AreOrdered : Members → Type 0
AreOrdered no_members = ⊤
AreOrdered (member k d ms) = AreAbove k ms × AreOrdered ms

module _ (P : Num → Type 0) where
  -- each number is such a one, and the names of objects are in order
  abbrev mutual
    pub IsRegular : Data → Type 0
    IsRegular null = ⊤
    IsRegular (boolean b) = ⊤
    IsRegular (number n) = P n
    IsRegular (string s) = ⊤
    IsRegular (array ds) = AreRegular ds
    IsRegular (object ms) = AreOrdered ms × HasRegular ms

    pub AreRegular : Items → Type 0
    AreRegular no_items = ⊤
    AreRegular (item d ds) = IsRegular d × AreRegular ds

    pub HasRegular : Members → Type 0
    HasRegular no_members = ⊤
    HasRegular (member k d ms) = IsRegular d × HasRegular ms

  has_put_at
      : (o : Ordering) (k l : List ℕ) (d e : Data) (ms : Members) → IsRegular d → IsRegular e → HasRegular ms
      → HasRegular (put k d ms)
      → HasRegular (match_ordering o (member k d (member l e ms)) (member l d ms) (member l e (put k d ms)))
  has_put_at Less k l d e ms here first rest later = (here, (first, rest))
  has_put_at Equal k l d e ms here first rest later = (here, rest)
  has_put_at Greater k l d e ms here first rest later = (first, later)

  pub has_put : (k : List ℕ) (d : Data) (ms : Members) → IsRegular d → HasRegular ms → HasRegular (put k d ms)
  has_put k d no_members here rest = (here, tt)
  has_put k d (member l e ms) here rest =
      has_put_at (slice_cmp nat_cmp k l) k l d e ms here rest.0 rest.1 (has_put k d ms here rest.1)

-- ---- order

below_trans : (j k l : List ℕ) → is_below j k → is_below k l → is_below j l
below_trans j k l = nat_list_cmp_total.trans j k l

above_trans : (j k : List ℕ) (ms : Members) → is_below j k → AreAbove k ms → AreAbove j ms
above_trans j k no_members below above = tt
above_trans j k (member l d ms) below above = (below_trans j k l below above.0, above_trans j k ms below above.1)

above_put_at
    : (o : Ordering) (j k l : List ℕ) (d e : Data) (ms : Members) → is_below j k → is_below j l → AreAbove j ms
    → AreAbove j (put k d ms)
    → AreAbove j (match_ordering o (member k d (member l e ms)) (member l d ms) (member l e (put k d ms)))
above_put_at Less j k l d e ms here first rest later = (here, (first, rest))
above_put_at Equal j k l d e ms here first rest later = (first, rest)
above_put_at Greater j k l d e ms here first rest later = (first, later)

above_put : (j k : List ℕ) (d : Data) (ms : Members) → is_below j k → AreAbove j ms → AreAbove j (put k d ms)
above_put j k d no_members here rest = (here, tt)
above_put j k d (member l e ms) here rest =
    above_put_at (slice_cmp nat_cmp k l) j k l d e ms here rest.0 rest.1 (above_put j k d ms here rest.1)

ordered_put_at
    : (o : Ordering) (k l : List ℕ) (d e : Data) (ms : Members) → slice_cmp nat_cmp k l ≡ o
    → AreAbove l ms → AreOrdered ms → AreOrdered (put k d ms)
    → AreOrdered (match_ordering o (member k d (member l e ms)) (member l d ms) (member l e (put k d ms)))
ordered_put_at Less k l d e ms is above rest later = ((is, above_trans k l ms is above), (above, rest))
ordered_put_at Equal k l d e ms is above rest later = (above, rest)
ordered_put_at Greater k l d e ms is above rest later =
    let below : is_below l k = nat_list_cmp_total.antisymm l k ∙ ap ordering_reverse is in
    (above_put l k d ms below above, later)

pub ordered_put : (k : List ℕ) (d : Data) (ms : Members) → AreOrdered ms → AreOrdered (put k d ms)
ordered_put k d no_members rest = (tt, tt)
ordered_put k d (member l e ms) rest =
    ordered_put_at (slice_cmp nat_cmp k l) k l d e ms refl rest.0 rest.1 (ordered_put k d ms rest.1)

-- ---- no float

abbrev pub is_whole : Num → Type 0
is_whole n = is_float n ≡ false

module _ (P : Num → Type 0) (whole : (n : Num) → P n → is_whole n) where
  mutual
    pub plain : (d : Data) → IsRegular P d → has_float d ≡ false
    plain null is = refl
    plain (boolean b) is = refl
    plain (number n) is = whole n is
    plain (string s) is = refl
    plain (array ds) is = items_plain ds is
    plain (object ms) is = members_plain ms is.1

    items_plain : (ds : Items) → AreRegular P ds → items_have_float ds ≡ false
    items_plain no_items are = refl
    items_plain (item d ds) are = rw (plain d are.0, items_plain ds are.1) refl

    members_plain : (ms : Members) → HasRegular P ms → members_have_float ms ≡ false
    members_plain no_members are = refl
    members_plain (member k d ms) are = rw (plain d are.0, members_plain ms are.1) refl

-- ---- read back

-- a number of 64 bits
abbrev pub FitsWord : Num → Type 0
FitsWord (unsigned n) = n < 2 ^ 64
FitsWord (negative (pos n)) = ⊥
FitsWord (negative (negsuc n)) = n < 2 ^ 63
FitsWord (float x) = ⊥

pub word_is_whole : (n : Num) → FitsWord n → is_whole n
word_is_whole (unsigned n) fits = refl
word_is_whole (negative z) fits = refl
word_is_whole (float x) fits = absurd fits

abbrev after : Members → Members → Members
after no_members ms = ms
after (member k d done) ms = member k d (after done ms)

after_none : (ms : Members) → after ms no_members ≡ ms
after_none no_members = refl
after_none (member k d ms) = ap (member k d) (after_none ms)

after_more : (done : Members) (k : List ℕ) (d : Data) (ms : Members)
    → after (after done (member k d no_members)) ms ≡ after done (member k d ms)
after_more no_members k d ms = refl
after_more (member l e done) k d ms = ap (member l e) (after_more done k d ms)

below_middle : (j : List ℕ) (done : Members) (k : List ℕ) (d : Data) (ms : Members)
    → AreAbove j (after done (member k d ms)) → is_below j k
below_middle j no_members k d ms above = above.0
below_middle j (member l e done) k d ms above = below_middle j done k d ms above.1

put_last : (done : Members) (k : List ℕ) (d : Data) (ms : Members) → AreOrdered (after done (member k d ms))
    → put k d done ≡ after done (member k d no_members)
put_last no_members k d ms ordered = refl
put_last (member l e done) k d ms ordered =
    let above : slice_cmp nat_cmp k l ≡ Greater =
    nat_list_cmp_total.antisymm k l ∙ ap ordering_reverse (below_middle l done k d ms ordered.0) in
    rw above (ap (member l e) (put_last done k d ms ordered.1))

mutual
  reads : (d : Data) → IsRegular FitsWord d → of_json (outline d) ≡ Some d
  reads null is = refl
  reads (boolean b) is = refl
  reads (number (unsigned n)) is = ap (option_map number) (number_of-decimal n is)
  reads (number (negative (pos n))) is = absurd is
  reads (number (negative (negsuc n))) is = ap (option_map number) (number_of-negative n is)
  reads (number (float x)) is = absurd is
  reads (string s) is = refl
  reads (array ds) is = ap (option_map array) (items_read ds is)
  reads (object ms) is = ap (option_map object) (members_read no_members ms is.0 is.1)

  items_read : (ds : Items) → AreRegular FitsWord ds → of_items (items_outline ds) ≡ Some ds
  items_read no_items are = refl
  items_read (item d ds) are =
      ap (option_and_then (λ e. option_map (item e) (of_items (items_outline ds)))) (reads d are.0)
      ∙ ap (option_map (item d)) (items_read ds are.1)

  members_read : (done ms : Members) → AreOrdered (after done ms) → HasRegular FitsWord ms
      → of_members (members_outline ms) done ≡ Some (after done ms)
  members_read done no_members ordered are = ap Some (sym (after_none done))
  members_read done (member k d ms) ordered are =
      ap (option_and_then (λ e. of_members (members_outline ms) (put k e done))) (reads d are.0)
      ∙ ap (of_members (members_outline ms)) (put_last done k d ms ordered)
      ∙ members_read (after done (member k d no_members)) ms
      (subst AreOrdered (sym (after_more done k d ms)) ordered) are.1
      ∙ ap Some (after_more done k d ms)

mutual
  numbered : (d : Data) → IsRegular FitsWord d → tree.HasNumbers (outline d)
  numbered null is = tt
  numbered (boolean b) is = tt
  numbered (number (unsigned n)) is = IsNumber-decimal n is
  numbered (number (negative (pos n))) is = absurd is
  numbered (number (negative (negsuc n))) is = IsNumber-signed_decimal (negsuc n) is
  numbered (number (float x)) is = absurd is
  numbered (string s) is = tt
  numbered (array ds) is = items_numbered ds is
  numbered (object ms) is = members_numbered ms is.1

  items_numbered : (ds : Items) → AreRegular FitsWord ds → tree.ItemsHaveNumbers (items_outline ds)
  items_numbered no_items are = tt
  items_numbered (item d ds) are = (numbered d are.0, items_numbered ds are.1)

  members_numbered : (ms : Members) → HasRegular FitsWord ms → tree.MembersHaveNumbers (members_outline ms)
  members_numbered no_members are = tt
  members_numbered (member k d ms) are = (numbered d are.0, members_numbered ms are.1)

-- its compact text reads back
pub reads_back : (d : Data) → IsRegular FitsWord d → depth d ≤ max_depth → read (compact_text d) ≡ Some d
reads_back d is shallow =
    let ts = tree.json_tokens (outline d) in
    let lexed : tokens (compact_text d) ≡ ts =
    ap tokens (sym (print-outline d)) ∙ tokens-print ts (ArePrintable-json_tokens (outline d) (numbered d is)) in
    let parsed : json.value max_depth (tokens (compact_text d)) ≡ Some (outline d, []) =
    ap (json.value max_depth) (lexed ∙ sym (append-nil ts))
    ∙ value-json_tokens (outline d) max_depth [] (subst (λ n. n ≤ max_depth) (sym (same_depth d)) shallow) in
    ap (λ o. option_and_then of_json (option_and_then (λ p. json.if_last p.0 p.1) o)) parsed ∙ reads d is
