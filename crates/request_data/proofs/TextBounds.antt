-- How long the JSON text of a text, of a list of texts and of an object is at most.
use Rattle.std.proofs.Common.{◌≡◌, ℕ, zero, suc, ◌+◌, ◌*◌, ◌≤◌, Bool, true, false, cond, List, []}
use Rattle.std.proofs.Common.{◌∷◌, ◌++◌, length, take, ◌<◌, Option, None, Some, refl, arith, length-append}
use Rattle.std.proofs.Common.{length-drop, drop, eqb, ltb, codes, get_or, ◌∙◌}
use Rattle.std.specs.List.{sum_by}
use Rattle.std.specs.Str.Lossy.{utf8_valid_len, utf8_invalid_len, after_first_chunk, utf8_lossy_within, utf8_lossy}
use Rattle.std.specs.Str.Lossy.{replacement_bytes, second_byte_min, second_byte_max, error_len_after_two}
use Rattle.std.specs.Str.Lossy.{error_len_after_one, error_len_of_some, utf8_error_len}
use Rattle.std.specs.Int.{is_in_range}
use Rattle.std.specs.Prelude.{unwrap_or, slice_index}
use Rattle.std.proofs.lemmas.Bool.{eqb-false, cond_both}
use Rattle.std.proofs.lemmas.List.Sums.{sum_by-cons}
use Rattle.std.proofs.lemmas.Str.{utf8_valid_len_le}
use Rattle.std.proofs.lemmas.List.{length-take-le, at_drop_more}
use Rattle.json.specs.Print.{escape_byte, escape, quoted}
use Rattle.data_tree.specs.Tree.{Tree, Members, no_members, member}
use Rattle.data_tree.specs.Json.{json, items_json, members_json, comma_if}
use Rattle.request_data.specs.Grouped.{texts}

-- ---- texts between quotes

escape_byte_by : (short control : Bool) (x letter high low : ℕ)
    → length (cond short (92 ∷ letter ∷ [])
    (cond control (92 ∷ 117 ∷ 48 ∷ 48 ∷ high ∷ low ∷ []) (x ∷ []))) ≤ 6
escape_byte_by true control x letter high low = omega arith
escape_byte_by false true x letter high low = omega arith
escape_byte_by false false x letter high low = omega arith

-- a byte in a string becomes six at most
pub escape_byte_most : (x : ℕ) → length (escape_byte x) ≤ 6
unfolding escape_byte
escape_byte_most x = search escape_byte_by

escape_most : (s : List ℕ) → length (escape s) ≤ 6 * length s
escape_most [] = omega arith
escape_most (x ∷ s) = omega (arith, length-append (escape_byte x) (escape s), escape_byte_most x, escape_most s)

-- its two quotes
pub quoted_len : (s : List ℕ) → length (quoted s) ≡ length (escape s) + 2
quoted_len s = omega (arith, length-append (escape s) (34 ∷ []))

pub quoted_most : (s : List ℕ) → length (quoted s) ≤ 6 * length s + 2
quoted_most s = omega (arith, quoted_len s, escape_most s)

-- what is left of a text from a byte on
pub escape_from
    : (s : List ℕ) (i : ℕ) → i < length s
    → length (escape (drop i s)) ≡ length (escape_byte (get_or s i 0)) + length (escape (drop (i + 1) s))
escape_from s i within =
    at_drop_more (λ rest. length (escape rest)) s i 0 within
    ∙ length-append (escape_byte (get_or s i 0)) (escape (drop (i + 1) s))

-- ---- lists and objects

comma_most : (later : Bool) → length (comma_if later) ≤ 1
comma_most true = omega arith
comma_most false = omega arith

-- a text among others
abbrev pub text_cost : List ℕ → ℕ
text_cost s = 6 * length s + 3

pub texts_most : (later : Bool) (ts : List (List ℕ)) → length (items_json later (texts ts)) ≤ sum_by text_cost ts
texts_most later [] = omega arith
texts_most later (t ∷ ts) =
    omega (
      arith,
      sum_by-cons text_cost t ts,
      length-append (comma_if later) (quoted t ++ items_json true (texts ts)),
      length-append (quoted t) (items_json true (texts ts)),
      comma_most later,
      quoted_most t,
      texts_most true ts,
    )

-- the first member has no comma before it
pub first_member : (ms : Members) → length (members_json false ms) ≤ length (members_json true ms)
first_member no_members = omega arith
first_member (member k t ms) = omega arith

pub member_most : (k : List ℕ) (t : Tree) (ms : Members)
    → length (members_json true (member k t ms))
    ≤ 6 * length k + 4 + length (json t) + length (members_json true ms)
member_most k t ms =
    omega (
      arith,
      length-append (quoted k) (codes ":" ++ (json t ++ members_json true ms)),
      length-append (json t) (members_json true ms),
      quoted_most k,
    )

-- ---- bytes read as UTF-8

-- one U+FFFD stands for a byte at least
invalid_some : (bs : List ℕ) → 0 < length bs → 0 < utf8_invalid_len bs
unfolding utf8_error_len
invalid_some bs some =
    let P : Option ℕ → Type 0 = λ o. 0 < unwrap_or o (length bs) in
    let one : P (Some 1) = omega arith in
    let two : P (Some 2) = omega arith in
    let three : P (Some 3) = omega arith in
    let x = slice_index bs 0 in
    let third = is_in_range 0x80 0xBF (slice_index bs 2) in
    let after_three = cond_both (ltb (length bs) 4) None (Some 3) P (λ _. some) (λ _. three) in
    let after_two : P (error_len_after_two bs) =
    cond_both (ltb (length bs) 3) None (cond third (cond (ltb (length bs) 4) None (Some 3)) (Some 2)) P (λ _. some)
    (λ _. cond_both third (cond (ltb (length bs) 4) None (Some 3)) (Some 2) P (λ _. after_three) (λ _. two)) in
    let second = is_in_range (second_byte_min x) (second_byte_max x) (slice_index bs 1) in
    let after_one : P (error_len_after_one bs) =
    cond_both (ltb (length bs) 2) None (cond second (error_len_after_two bs) (Some 1)) P (λ _. some)
    (λ _. cond_both second (error_len_after_two bs) (Some 1) P (λ _. after_two) (λ _. one)) in
    cond_both (eqb (length bs) 0) None (error_len_of_some bs) P (λ _. some)
    (λ _. cond_both (is_in_range 0xC2 0xF4 x) (error_len_after_one bs) (Some 1) P (λ _. after_one) (λ _. one))

-- and it has three
fault_most : (bs text : List ℕ) → length text ≤ 3 * length (after_first_chunk bs)
    → eqb (utf8_valid_len bs) (length bs) ≡ false
    → length (take (utf8_valid_len bs) bs ++ (replacement_bytes ++ text)) ≤ 3 * length bs
fault_most bs text rest e =
    let n = utf8_valid_len bs in
    let inside = utf8_valid_len_le bs in
    let apart = eqb-false n (length bs) e in
    let some = invalid_some (drop n bs) (omega (arith, length-drop n bs)) in
    omega (
      arith,
      length-append (take n bs) (replacement_bytes ++ text),
      length-take-le n bs inside,
      length-drop (n + utf8_invalid_len (drop n bs)) bs,
    )

within_most : (k : ℕ) (bs : List ℕ) → length (utf8_lossy_within k bs) ≤ 3 * length bs
within_most zero bs = omega arith
within_most (suc k) bs =
    cond_both (eqb (utf8_valid_len bs) (length bs)) bs
    (take (utf8_valid_len bs) bs ++ (replacement_bytes ++ utf8_lossy_within k (after_first_chunk bs)))
    (λ text. length text ≤ 3 * length bs) (λ _. omega arith)
    (fault_most bs (utf8_lossy_within k (after_first_chunk bs)) (within_most k (after_first_chunk bs)))

-- in a string, three bytes for each that isn't UTF-8, and six at most for another
pub escape-append : (a s : List ℕ) → length (escape (a ++ s)) ≡ length (escape a) + length (escape s)
escape-append [] s = omega arith
escape-append (x ∷ a) s =
    omega (
      arith,
      length-append (escape_byte x) (escape (a ++ s)),
      length-append (escape_byte x) (escape a),
      escape-append a s,
    )

replacement_escaped : length (escape replacement_bytes) ≡ 3
unfolding escape_byte
replacement_escaped = refl

fault_escaped : (bs text : List ℕ) → length (escape text) ≤ 6 * length (after_first_chunk bs)
    → eqb (utf8_valid_len bs) (length bs) ≡ false
    → length (escape (take (utf8_valid_len bs) bs ++ (replacement_bytes ++ text))) ≤ 6 * length bs
fault_escaped bs text rest e =
    let n = utf8_valid_len bs in
    let inside = utf8_valid_len_le bs in
    let apart = eqb-false n (length bs) e in
    let some = invalid_some (drop n bs) (omega (arith, length-drop n bs)) in
    omega (
      arith,
      escape-append (take n bs) (replacement_bytes ++ text),
      escape-append replacement_bytes text,
      replacement_escaped,
      escape_most (take n bs),
      length-take-le n bs inside,
      length-drop (n + utf8_invalid_len (drop n bs)) bs,
    )

within_escaped : (k : ℕ) (bs : List ℕ) → length (escape (utf8_lossy_within k bs)) ≤ 6 * length bs
within_escaped zero bs = escape_most bs
within_escaped (suc k) bs =
    cond_both (eqb (utf8_valid_len bs) (length bs)) bs
    (take (utf8_valid_len bs) bs ++ (replacement_bytes ++ utf8_lossy_within k (after_first_chunk bs)))
    (λ text. length (escape text) ≤ 6 * length bs) (λ _. escape_most bs)
    (fault_escaped bs (utf8_lossy_within k (after_first_chunk bs)) (within_escaped k (after_first_chunk bs)))

pub escaped_lossy_most : (bs : List ℕ) → length (escape (utf8_lossy bs)) ≤ 6 * length bs
unfolding utf8_lossy
escaped_lossy_most bs = within_escaped (length bs) bs

pub lossy_most : (bs : List ℕ) → length (utf8_lossy bs) ≤ 3 * length bs
unfolding utf8_lossy
lossy_most bs = within_most (length bs) bs
