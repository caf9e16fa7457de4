-- Whole numbers of at most 18 digits fit into 64 bits.
use Rattle.std.proofs.Common.{◌≡◌, ℕ, ℤ, zero, suc, pos, ◌<◌, ◌^◌, nat_lt, nat_le, ◌&&◌, true, List, length, drop}
use Rattle.std.proofs.Common.{Option, Some, None, IfSome, option_map, Result, Ok, FitsSigned, w64, codes, refl, arith}
use Rattle.std.specs.Str.{all_ascii_digits}
use Rattle.std.specs.Str.Parse.{digits_value, ParsesSigned}
use Rattle.std.proofs.lemmas.Bool.{cond_both, and_parts, leb-true, ltb-true}
use Rattle.std.proofs.lemmas.Int.{fits_signed_from_abs}
use Rattle.std.proofs.lemmas.Result.{Ok-from_Ok_iff}
use Rattle.std.proofs.lemmas.Str.Parse.{digits_value_short, parse_signed_digits}
use Rattle.data_tree.proofs.Indexes.{own}
use Rattle.template_words.specs.Literals.{short_number, negative, whole_number}
use Rattle.template_words.specs.Marks.{begins}
use Rattle.template_words.specs.Words.{is_short_digits}

pub short_parses : {E : Type 0} (s : List ℕ) (r : Result ℤ E) → is_short_digits s ≡ true
    → ParsesSigned w64 10 s r → r ≡ Ok (pos (digits_value 10 s))
short_parses s r h parses =
    let p = and_parts (nat_lt 0 (length s) && nat_le (length s) 18) (all_ascii_digits s) h in
    let q = and_parts (nat_lt 0 (length s)) (nat_le (length s) 18) p.0 in
    let below : digits_value 10 s < 10 ^ 18 = digits_value_short own s 18 p.1 (leb-true (length s) 18 q.1) in
    Ok-from_Ok_iff r _ _ (parse_signed_digits own w64 s r parses p.1)
    (ltb-true 0 (length s) q.0, omega (arith, below))

pub short_number_is : (s : List ℕ) → is_short_digits s ≡ true → short_number s ≡ Some (digits_value 10 s)
short_number_is s h = rw h refl

short_below : (s : List ℕ) → is_short_digits s ≡ true → digits_value 10 s < 10 ^ 18
short_below s h =
    let p = and_parts (nat_lt 0 (length s) && nat_le (length s) 18) (all_ascii_digits s) h in
    let q = and_parts (nat_lt 0 (length s)) (nat_le (length s) 18) p.0 in
    digits_value_short own s 18 p.1 (leb-true (length s) 18 q.1)

short_fits : (s : List ℕ) → IfSome (short_number s) (λ n. n < 10 ^ 18)
short_fits s =
    cond_both (is_short_digits s) (Some (digits_value 10 s)) None (λ o. IfSome o (λ n. n < 10 ^ 18))
    (λ t. short_below s t) (λ f. tt)

positive_fits : (n : ℕ) → n < 10 ^ 18 → FitsSigned w64 (pos n)
positive_fits n below = fits_signed_from_abs w64 (pos n) (omega (arith, below))

negative_fits : (n : ℕ) → n < 10 ^ 18 → FitsSigned w64 (negative n)
negative_fits zero below = fits_signed_from_abs w64 (negative zero) (omega arith)
negative_fits (suc n) below = fits_signed_from_abs w64 (negative (suc n)) (omega (arith, below))

map_fits : (f : ℕ → ℤ) (o : Option ℕ) → ((n : ℕ) → n < 10 ^ 18 → FitsSigned w64 (f n))
    → IfSome o (λ n. n < 10 ^ 18) → IfSome (option_map f o) (FitsSigned w64)
map_fits f None fits h = tt
map_fits f (Some n) fits h = fits n h

pub number_fits : (text : List ℕ) → IfSome (whole_number text) (FitsSigned w64)
number_fits text =
    cond_both (begins (codes "-") text) (option_map negative (short_number (drop 1 text)))
    (option_map pos (short_number text)) (λ o. IfSome o (FitsSigned w64))
    (λ t. map_fits negative (short_number (drop 1 text)) negative_fits (short_fits (drop 1 text)))
    (λ f. map_fits pos (short_number text) positive_fits (short_fits text))
