-- How the code's cut at the last colon and its reading of digits meet the definition of a host and a port.
use Rattle.std.proofs.Common.{eqb, leb, ◌≡◌, ◌≢◌, ℕ, ◌<◌, ◌≤◌, Bool, true, false, not, cond}
use Rattle.std.proofs.Common.{if◌then◌else◌, List, [], ◌∷◌, ◌++◌, None, Some, Result, Ok, Err}
use Rattle.std.proofs.Common.{length, take, drop, get_or, All, sym, refl, ap, ◌∙◌, subst, arith}
use Rattle.std.specs.Result.{result_ok}
use Rattle.std.specs.List.{before_last, after_last, list_any}
use Rattle.std.specs.Str.{NoCharPasses, all_ascii_digits}
use Rattle.std.specs.Str.Parse.{digits_value, ParsesUnsigned}
use Rattle.std.specs.Str.Pattern.{RFindsChar, SplitsAroundMatch}
use Rattle.std.specs.Char.{is_ascii_digit}
use Rattle.std.proofs.lemmas.Bool.{eqb-true, and_parts, and_from, and_left, and_right, cond-true, cond-false}
use Rattle.std.proofs.lemmas.Bool.{not_from_false, leb-true, ltb-true, le-leb, lt-ltb, false_from_ne_true}
use Rattle.std.proofs.lemmas.List.{get_or_default, take-append-drop}
use Rattle.std.proofs.lemmas.Str.Pattern.{NoCharPasses-char, drop_at_char}
use Rattle.std.proofs.lemmas.Str.Parse.{IsNumeralModel, numerals_by_value, tells_all_ascii_digits, parse_plain}
use Rattle.mock_request.specs.Authority.{colon, default_port, greatest_port, port_digits}
use Rattle.mock_request.specs.Authority.{is_colon, is_port, has_port, host_of, port_of}
use Rattle.mock_request.proofs.LastLemmas.{before_last_at, after_last_at, any_at}
use Rattle.mock_request.proofs.UrlLemmas.{lacks_char}

-- ---- the last colon

-- what is before it and after it
pub record IsCutAtColon (text host digits : List ℕ) : Type 0 where
  pub there : list_any is_colon text ≡ true
  pub before : before_last is_colon text ≡ host
  pub after : after_last is_colon text ≡ digits

no_colon_in : (bs : List ℕ) → NoCharPasses (λ d. eqb d colon) bs → All (λ b. not (is_colon b) ≡ true) bs
no_colon_in bs none k d here =
    let same = get_or_default bs k d 0 here in
    let other = NoCharPasses-char colon bs k none (omega arith) here in
    not_from_false _ (false_from_ne_true _ (λ e. other (sym same ∙ byte_is e)))
  where
    byte_is : is_colon (get_or bs k d) ≡ true → get_or bs k d ≡ colon
    byte_is e = eqb-true _ _ e

pub cut_at_colon
    : (text host digits : List ℕ) → SplitsAroundMatch (RFindsChar colon) text host digits
    → IsCutAtColon text host digits
cut_at_colon text host digits (i, j, found, front, back, _, _, _) =
    let after : drop i text ≡ colon ∷ drop j text = drop_at_char colon text i j found.1 (omega arith) in
    let none = no_colon_in (drop j text) found.0 in
    let whole : take i text ++ (colon ∷ drop j text) ≡ text =
    ap (λ bs. take i text ++ bs) (sym after) ∙ take-append-drop i text in
    record {
      there = subst (λ bs. list_any is_colon bs ≡ true) whole
          (any_at is_colon (take i text) colon (drop j text) refl);
      before =
          subst (λ bs. before_last is_colon bs ≡ take i text) whole
          (before_last_at is_colon (take i text) colon (drop j text) refl none)
          ∙ sym front;
      after =
          subst (λ bs. after_last is_colon bs ≡ drop j text) whole
          (after_last_at is_colon (take i text) colon (drop j text) refl none)
          ∙ sym back;
    }

pub record Names (text host : List ℕ) (port : ℕ) : Type 0 where
  pub host_is : host ≡ host_of text
  pub port_is : port ≡ port_of text

some_is : (port value : ℕ) (b : Bool) → Some port ≡ (if b then Some value else None)
    → (b ≡ true) × (port ≡ value)
some_is port value true e = (refl, cc)
some_is port value false e = cc

none_is : (value : ℕ) (b : Bool) → None ≡ (if b then Some value else None) → b ≡ false
none_is value true e = cc
none_is value false e = refl

pub names_port
    : (text host digits : List ℕ) (port : ℕ) → IsCutAtColon text host digits
    → Some port ≡ (if is_port digits then Some (digits_value 10 digits) else None) → Names text host port
names_port text host digits port cut e =
    let got = some_is port (digits_value 10 digits) (is_port digits) e in
    let has : has_port text ≡ true = and_from _ _ cut.there (ap is_port cut.after ∙ got.0) in
    record {
      host_is = sym (cond-true (has_port text) (before_last is_colon text) text has ∙ cut.before);
      port_is =
          got.1 ∙ ap (digits_value 10) (sym cut.after)
          ∙ sym (cond-true (has_port text) (digits_value 10 (after_last is_colon text)) default_port has);
    }

names_itself : (text : List ℕ) → has_port text ≡ false → Names text text default_port
names_itself text none = record {
  host_is = sym (cond-false (has_port text) (before_last is_colon text) text none);
  port_is = sym (cond-false (has_port text) (digits_value 10 (after_last is_colon text)) default_port none);
}

pub names_no_port
    : (text host digits : List ℕ) → IsCutAtColon text host digits
    → None ≡ (if is_port digits then Some (digits_value 10 digits) else None) → Names text text default_port
names_no_port text host digits cut e =
    names_itself text (and_right _ _ (ap is_port cut.after ∙ none_is (digits_value 10 digits) (is_port digits) e))

pub names_no_colon : (text : List ℕ) → NoCharPasses (λ d. eqb d colon) text → Names text text default_port
names_no_colon text none = names_itself text (and_left _ _ (lacks_char colon text none (omega arith)))

-- ---- digits

own : IsNumeralModel (λ ds. all_ascii_digits ds ≡ true) (digits_value 10)
own = numerals_by_value _ tells_all_ascii_digits

-- the tests of a port, one by one
record PortParts (bs : List ℕ) : Type 0 where
  digits : all_ascii_digits bs ≡ true
  some : 0 < length bs
  few : length bs ≤ port_digits
  small : digits_value 10 bs ≤ greatest_port

port_parts : (bs : List ℕ) → is_port bs ≡ true → PortParts bs
port_parts bs e =
    let last = and_parts _ _ e in
    let third = and_parts _ _ last.0 in
    let second = and_parts _ _ third.0 in
    record { digits = second.0; some = ltb-true _ _ second.1; few = leb-true _ _ third.1; small = leb-true _ _ last.1 }

is_port_from : (bs : List ℕ) → PortParts bs → is_port bs ≡ true
is_port_from bs p =
    and_from _ _ (and_from _ _ (and_from _ _ p.digits (lt-ltb _ _ p.some)) (le-leb _ _ p.few)) (le-leb _ _ p.small)

pub no_port_long : (bs : List ℕ) → port_digits < length bs → is_port bs ≡ false
no_port_long bs long = false_from_ne_true _ (λ e. absurd (omega (arith, (port_parts bs e).few)))

pub no_port_signed : (bs : List ℕ) → get_or bs 0 0 ≡ 43 → is_port bs ≡ false
no_port_signed bs plus = false_from_ne_true _ (λ e. signed bs (port_parts bs e).digits plus)
  where
    signed : (ds : List ℕ) → all_ascii_digits ds ≡ true → get_or ds 0 0 ≡ 43 → ⊥
    signed [] e at = absurd (omega (arith, at))
    signed (d ∷ ds) e at =
        absurd
        (omega (
          arith,
          leb-true 48 d (and_parts (leb 48 d) (leb d 57) (and_parts (is_ascii_digit d) (all_ascii_digits ds) e).0).0,
          at,
        ))

pub port_read
    : {E : Type 0} (bs : List ℕ) (r : Result ℕ E) → ParsesUnsigned 16 10 bs r → length bs ≤ port_digits
    → get_or bs 0 0 ≢ 43
    → result_ok r ≡ (if is_port bs then Some (digits_value 10 bs) else None)
port_read {E} bs (Ok n) parsed few plain =
    let is = parse_plain own {E = E} 16 bs (Ok n) parsed plain in
    let port = is_port_from bs (record { digits = is.0.0; some = is.0.1; few = few; small = omega (arith, is.0.2) }) in
    rw port (ap Some is.1)
port_read {E} bs (Err e) parsed few plain =
    let is = parse_plain own {E = E} 16 bs (Err e) parsed plain in
    let none : is_port bs ≡ false =
    false_from_ne_true _
    (λ yes_port. let p = port_parts bs yes_port in is (p.digits, p.some, omega (arith, p.small))) in
    rw none refl

-- ---- the port of any text

pub port_at_most : (text : List ℕ) → port_of text ≤ greatest_port
port_at_most text = by (has_port text) refl
  where
    by : (b : Bool) → has_port text ≡ b
        → cond b (digits_value 10 (after_last is_colon text)) default_port ≤ greatest_port
    by true e = (port_parts (after_last is_colon text) (and_parts _ _ e).1).small
    by false e = omega arith
