-- Which texts are indexes: those that `decimal` writes of a number below 10 ^ 9; and what the code's own test makes
-- of them.
use Rattle.std.proofs.Common.{◌≡◌, ℕ, zero, suc, ◌+◌, ◌/◌, ◌%◌, ◌^◌, ◌<◌, ◌≤◌}
use Rattle.std.proofs.Common.{◌==◌, nat_lt, nat_le, List, [], ◌∷◌, ◌++◌, length, slice_index, get_or}
use Rattle.std.proofs.Common.{Some, Result, Ok, Bool, true, false, not, ◌&&◌, ◌||◌, decimal, refl, ap, arith}
use Rattle.std.proofs.lemmas.Bool.{eqb-true, eqb-false, ne_eqb, and_parts, and_from, leb-true, ltb-true, lt-ltb}
use Rattle.std.proofs.lemmas.Bool.{le-leb, false≢true}
use Rattle.std.proofs.lemmas.Fmt.{decimal_is_IsNumeral, decimal-digits_value, decimal_by_steps_wide, length-decimal-le}
use Rattle.std.proofs.lemmas.Str.Parse.{IsNumeralModel, numerals_by_value, tells_all_ascii_digits}
use Rattle.std.proofs.lemmas.Str.Parse.{digits_value_short, parse_gives}
use Rattle.std.specs.Fmt.{digits}
use Rattle.std.specs.Char.{is_ascii_digit}
use Rattle.std.specs.List.{list_all}
use Rattle.std.specs.Str.{all_ascii_digits}
use Rattle.std.specs.Str.Parse.{digits_value, ParsesUnsigned}
use Rattle.data_tree.specs.Digits.{is_index, index_of}

pub all_digits : (s : List ℕ) → list_all is_ascii_digit s ≡ all_ascii_digits s
all_digits [] = refl
all_digits (b ∷ s) = ap (λ t. is_ascii_digit b && t) (all_digits s)

pub own : IsNumeralModel (λ ds. all_ascii_digits ds ≡ true) (digits_value 10)
own = numerals_by_value (λ ds. all_ascii_digits ds ≡ true) tells_all_ascii_digits

-- what the test says of a text, piece by piece
pub record IsIndexText (s : List ℕ) : Type 0 where
  pub some : 0 < length s
  pub short : length s ≤ 9
  pub digits : all_ascii_digits s ≡ true
  pub no_zero : slice_index s 0 ≡ 48 → length s ≡ 1

first_zero : (t u : Bool) (s : List ℕ) → (length s == 1) ≡ t → (slice_index s 0 == 48) ≡ u
    → (t || not u) ≡ true → slice_index s 0 ≡ 48 → length s ≡ 1
first_zero true u s one is_zero h is = eqb-true (length s) 1 one
first_zero false true s one is_zero h is = absurd (false≢true h)
first_zero false false s one is_zero h is = absurd (eqb-false (slice_index s 0) 48 is_zero is)

pub index_parts : (s : List ℕ) → is_index s ≡ true → IsIndexText s
index_parts s h =
    let p =
    and_parts (nat_lt 0 (length s) && nat_le (length s) 9 && all_ascii_digits s)
    ((length s == 1) || not (slice_index s 0 == 48)) h in
    let q = and_parts (nat_lt 0 (length s) && nat_le (length s) 9) (all_ascii_digits s) p.0 in
    let r = and_parts (nat_lt 0 (length s)) (nat_le (length s) 9) q.0 in
    record {
      some = ltb-true 0 (length s) r.0;
      short = leb-true (length s) 9 r.1;
      digits = q.1;
      no_zero = first_zero
          (length s == 1) (slice_index s 0 == 48) s refl refl p.1;
    }

pub index_below : (s : List ℕ) → is_index s ≡ true → digits_value 10 s < 10 ^ 9
index_below s h = let p = index_parts s h in digits_value_short own s 9 p.digits p.short

-- a text that is an index is what `decimal` writes of its value
pub index_decimal : (s : List ℕ) → is_index s ≡ true → decimal (digits_value 10 s) ≡ s
index_decimal s h =
    let p = index_parts s h in decimal-digits_value own s p.digits p.some p.no_zero (omega (arith, index_below s h))

-- ---- and the other way round

abbrev BeginsAboveZero : ℕ → List ℕ → Type 0
BeginsAboveZero n ds = 0 < n → 48 < get_or ds 0 0

begins_one_more : (n : ℕ) (ds : List ℕ) → 10 ≤ n → BeginsAboveZero (n / 10) ds
    → BeginsAboveZero n (ds ++ ((48 + n % 10) ∷ []))
begins_one_more n [] h before = λ some. absurd (omega (arith, before (omega arith)))
begins_one_more n (d ∷ ds) h before = λ some. before (omega arith)

-- a number's decimal begins with no `0`, if it isn't zero
pub begins_above_zero : (n : ℕ) → n < 10 ^ 64 → 0 < n → 48 < get_or (decimal n) 0 0
begins_above_zero = decimal_by_steps_wide BeginsAboveZero (λ n h some. omega arith) begins_one_more

no_leading_zero : (n : ℕ) → n < 10 ^ 9
    → ((length (decimal n) == 1) || not (slice_index (decimal n) 0 == 48)) ≡ true
unfolding digits
no_leading_zero zero h = refl
no_leading_zero (suc n) h =
    or_later (length (decimal (suc n)) == 1) _
    (ap not (ne_eqb (slice_index (decimal (suc n)) 0) 48
    (λ e. omega (arith, begins_above_zero (suc n) (omega (arith, h)) (omega arith), e))))
  where
    or_later : (t u : Bool) → u ≡ true → (t || u) ≡ true
    or_later true u e = refl
    or_later false u e = e

pub decimal_digits : (n : ℕ) → n < 10 ^ 9 → all_ascii_digits (decimal n) ≡ true
decimal_digits n h = own.from (decimal n) (decimal_is_IsNumeral n (omega (arith, h))).0.1

pub decimal_some : (n : ℕ) → n < 10 ^ 9 → 0 < length (decimal n)
decimal_some n h = (decimal_is_IsNumeral n (omega (arith, h))).0.0

pub decimal_index : (n : ℕ) → n < 10 ^ 9 → is_index (decimal n) ≡ true
decimal_index n h =
    let short : length (decimal n) ≤ 9 = length-decimal-le 9 n (omega arith) h (omega (arith, h)) in
    and_from _ _ (and_from _ _
    (and_from _ _ (lt-ltb 0 (length (decimal n)) (decimal_some n h)) (le-leb (length (decimal n)) 9 short))
    (decimal_digits n h)) (no_leading_zero n h)

pub decimal_value : (n : ℕ) → n < 10 ^ 9 → digits_value 10 (decimal n) ≡ n
decimal_value n h = (decimal_is_IsNumeral n (omega (arith, h))).1

-- ---- the number that is read

-- an index is read as its value, which 32 bits hold
pub index_parses : {E : Type 0} (s : List ℕ) (r : Result ℕ E) → is_index s ≡ true → ParsesUnsigned 32 10 s r
    → r ≡ Ok (digits_value 10 s)
index_parses s r h parses =
    let p = index_parts s h in
    parse_gives own 32 s r parses p.digits p.some (omega (arith, index_below s h))

pub index_of_index : (s : List ℕ) → is_index s ≡ true → index_of s ≡ Some (digits_value 10 s)
index_of_index s h = rw h refl
