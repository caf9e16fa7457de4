-- Where a text has whole numbers alone, the value that it is written as has numbers of 64 bits, and names in order.
use Rattle.std.proofs.Common.{◌≡◌, ℕ, zero, suc, ◌^◌, ◌<◌, ◌≤◌, ◌&&◌, ◌==◌, nat_lt, nat_le, List, Bool, true, false}
use Rattle.std.proofs.Common.{cond, Option, Some, None, option_map, option_and_then, IfSome, unwrap_or, drop, refl}
use Rattle.std.proofs.Common.{slice_index, arith, true≢false}
use Rattle.std.proofs.lemmas.Bool.{and_parts, or_parts, ltb-true, leb-true}
use Rattle.std.specs.Float.{binary64, float_is_finite}
use Rattle.std.specs.Prelude.{⊤, Float}
use Rattle.fast_float.specs.Text.{minus, Parts, scan, digits_of, nearest, with_sign}
use Rattle.json.specs.Json as json
use Rattle.json.specs.Lex.{tokens}
use Rattle.admin_json.proofs.Regular.{IsRegular, AreRegular, HasRegular, FitsWord, has_put, ordered_put}
use Rattle.json_reading.specs.Numbers.{is_taken, IsWholeJson}
use Rattle.json_reading.proofs.Taken.{no_float}
use Rattle.response_json.specs.Writing.{json_of_text}
use Rattle.serde_json.specs.Data.{Num, unsigned, negative, float, Data, null, boolean, number, string, array, object}
use Rattle.serde_json.specs.Data.{Items, no_items, item, Members, no_members, member, put}
use Rattle.serde_json.specs.Find.{is_float}
use Rattle.serde_json.specs.Read.{is_integer, number_from, float_of, number_of, of_json, of_items, of_members}
use Rattle.serde_json.specs.Read.{max_depth, read}
use Rattle.serde_json.specs.Written.{has_float, items_have_float, members_have_float}

-- ---- numbers that are read

abbrev Fits : Num → Type 0
Fits n = is_float n ≡ false → FitsWord n

float_fits : (t : Bool) (x : Float) → IfSome (cond t (Some (float x)) None) Fits
float_fits true x = λ whole. absurd (true≢false whole)
float_fits false x = tt

unsigned_fits
    : (t : Bool) (n : ℕ) (o : Option Num) → (t ≡ true → n < 2 ^ 64) → IfSome o Fits
    → IfSome (cond t (Some (unsigned n)) o) Fits
unsigned_fits true n o small other = λ whole. small refl
unsigned_fits false n o small other = other

below_zero : (n : ℕ) → 0 < n → n ≤ 2 ^ 63 → FitsWord (negative (with_sign true n))
below_zero zero some small = absurd (omega (arith, some))
below_zero (suc n) some small = omega (arith, small)

negative_fits
    : (t : Bool) (n : ℕ) (o : Option Num) → (t ≡ true → (0 < n) × (n ≤ 2 ^ 63)) → IfSome o Fits
    → IfSome (cond t (Some (negative (with_sign true n))) o) Fits
negative_fits true n o small other = λ whole. below_zero n (small refl).0 (small refl).1
negative_fits false n o small other = other

number_from_fits : (sign : Bool) (p : Parts) → IfSome (number_from sign p) Fits
number_from_fits false p =
    unsigned_fits (is_integer p && nat_lt (digits_of p) (2 ^ 64)) (digits_of p) (float_of false p)
    (λ e. ltb-true (digits_of p) (2 ^ 64) (and_parts (is_integer p) (nat_lt (digits_of p) (2 ^ 64)) e).1)
    (float_fits (float_is_finite (nearest binary64 false p)) (nearest binary64 false p))
number_from_fits true p =
    let some = is_integer p && nat_lt 0 (digits_of p) in
    let small = nat_le (digits_of p) (2 ^ 63) in
    negative_fits (some && small) (digits_of p) (float_of true p)
    (λ e. let parts = and_parts some small e in (
      ltb-true 0 (digits_of p) (and_parts (is_integer p) (nat_lt 0 (digits_of p)) parts.0).1,
      leb-true (digits_of p) (2 ^ 63) parts.1,
    ))
    (float_fits (float_is_finite (nearest binary64 true p)) (nearest binary64 true p))

of_either_sign : (t : Bool) (o p : Option Num) → IfSome o Fits → IfSome p Fits → IfSome (cond t o p) Fits
of_either_sign true o p here there = here
of_either_sign false o p here there = there

number_of_fits : (s : List ℕ) → IfSome (number_of s) Fits
unfolding number_of
number_of_fits s =
    of_either_sign (slice_index s 0 == minus) (number_from true (scan (drop 1 s))) (number_from false (scan s))
    (number_from_fits true (scan (drop 1 s))) (number_from_fits false (scan s))

-- ---- values that are read

mapped
    : {A B : Type 0} (P : A → Type 0) (Q : B → Type 0) (f : A → B) → ((a : A) → P a → Q (f a))
    → (o : Option A) → IfSome o P → IfSome (option_map f o) Q
mapped P Q f keeps None holds = tt
mapped P Q f keeps (Some a) holds = keeps a holds

followed
    : {A B : Type 0} (P : A → Type 0) (Q : B → Type 0) (f : A → Option B) → ((a : A) → P a → IfSome (f a) Q)
    → (o : Option A) → IfSome o P → IfSome (option_and_then f o) Q
followed P Q f keeps None holds = tt
followed P Q f keeps (Some a) holds = keeps a holds

abbrev IsRead : Data → Type 0
IsRead d = IsRegular Fits d

abbrev AreRead : Members → Type 0
AreRead ms = IsRegular Fits (object ms)

mutual
  is_read : (j : json.Json) → IfSome (of_json j) IsRead
  is_read json.null = tt
  is_read (json.boolean b) = tt
  is_read (json.number s) = mapped Fits IsRead number (λ n fits. fits) (number_of s) (number_of_fits s)
  is_read (json.string s) = tt
  is_read (json.array js) = mapped (AreRegular Fits) IsRead array (λ ds are. are) (of_items js) (items_read js)
  is_read (json.object ms) =
      mapped AreRead IsRead object (λ found are. are) (of_members ms no_members) (members_read ms no_members (tt, tt))

  items_read : (js : json.Items) → IfSome (of_items js) (AreRegular Fits)
  items_read json.no_items = tt
  items_read (json.item j js) =
      followed IsRead (AreRegular Fits) _
      (λ d is. mapped (AreRegular Fits) (AreRegular Fits) (item d) (λ ds are. (is, are)) (of_items js) (items_read js))
      (of_json j) (is_read j)

  members_read : (ms : json.Members) (found : Members) → AreRead found → IfSome (of_members ms found) AreRead
  members_read json.no_members found are = are
  members_read (json.member k j ms) found are =
      followed IsRead AreRead _
      (λ d is. members_read ms (put k d found) (ordered_put k d found are.0, has_put Fits k d found is are.1))
      (of_json j) (is_read j)

anything : {A : Type 0} (o : Option A) → IfSome o (λ a. ⊤)
anything None = tt
anything (Some a) = tt

text_read : (text : List ℕ) → IfSome (read text) IsRead
text_read text =
    followed (λ j. ⊤) IsRead of_json (λ j any. is_read j)
    (option_and_then (λ p. json.if_last p.0 p.1) (json.value max_depth (tokens text))) (anything _)

-- ---- with no float

mutual
  whole_fits : (d : Data) → has_float d ≡ false → IsRead d → IsRegular FitsWord d
  whole_fits null whole is = tt
  whole_fits (boolean b) whole is = tt
  whole_fits (number n) whole is = is whole
  whole_fits (string s) whole is = tt
  whole_fits (array ds) whole is = items_fit ds whole is
  whole_fits (object ms) whole is = (is.0, members_fit ms whole is.1)

  items_fit : (ds : Items) → items_have_float ds ≡ false → AreRegular Fits ds → AreRegular FitsWord ds
  items_fit no_items whole are = tt
  items_fit (item d ds) whole are =
      let parts = or_parts (has_float d) (items_have_float ds) whole in
      (whole_fits d parts.0 are.0, items_fit ds parts.1 are.1)

  members_fit : (ms : Members) → members_have_float ms ≡ false → HasRegular Fits ms → HasRegular FitsWord ms
  members_fit no_members whole are = tt
  members_fit (member k d ms) whole are =
      let parts = or_parts (has_float d) (members_have_float ms) whole in
      (whole_fits d parts.0 are.0, members_fit ms parts.1 are.1)

read_fits
    : (o : Option Data) (text : List ℕ) → IfSome o IsRead → IfSome o (λ d. is_taken d ≡ true)
    → IsRegular FitsWord (unwrap_or o (string text))
read_fits None text is taken = tt
read_fits (Some d) text is taken = whole_fits d (no_float d taken) is

pub word_text : (text : List ℕ) → IsWholeJson text → IsRegular FitsWord (json_of_text text)
word_text text whole = read_fits (read text) text (text_read text) whole
