-- Encoded texts in which no byte is escaped.
use Rattle.std.proofs.Common.{◌≡◌, ◌≢◌, ◌==◌, ◌≤◌, ◌<◌, ℕ, zero, suc, Bool, true, false, if◌then◌else◌, List, [], ◌∷◌}
use Rattle.std.proofs.Common.{map, take, length, slice_index_or, slice_set, All, refl, sym, ap, subst, ◌∙◌, arith}
use Rattle.std.proofs.lemmas.List.{take-map}
use Rattle.std.proofs.lemmas.List.Elements.{All-head, All-tail, All-take}
use Rattle.std.proofs.lemmas.Str.{utf8_lossy-IsUtf8, IsUtf8-from_ascii}
use Rattle.std.specs.Str.{IsAscii, IsUtf8}
use Rattle.std.specs.Str.Lossy.{utf8_lossy}
use Rattle.percent_encoding.proofs.PercentLemmas.{percent_decode-nil, percent_decode_not_percent}
use Rattle.percent_encoding.specs.Percent.{percent_sign}
use Rattle.form_urlencoded.specs.Form.{decode, plus_to_space, plus_sign, space}
use Rattle.request_data.specs.Inner.Plain.{IsPlain}

unescaped : (b : ℕ) → b ≢ percent_sign → plus_to_space b ≢ percent_sign
unescaped b other = by (b == plus_sign)
  where
    by : (t : Bool) → (if t then space else b) ≢ percent_sign
    by true = λ same. omega (arith, same)
    by false = other

-- only each `+` stands for something else
pub decode_plain : (bs : List ℕ) → All IsPlain bs → decode bs ≡ map plus_to_space bs
decode_plain [] plain = percent_decode-nil
decode_plain (b ∷ bs) plain =
    percent_decode_not_percent (plus_to_space b) (map plus_to_space bs) (unescaped b (All-head IsPlain b bs plain).1)
    ∙ ap (λ l. plus_to_space b ∷ l) (decode_plain bs (All-tail IsPlain b bs plain))

ascii : (b : ℕ) → b < 128 → plus_to_space b < 128
ascii b small = by (b == plus_sign)
  where
    by : (t : Bool) → (if t then space else b) < 128
    by true = omega arith
    by false = small

-- so is the text
pub ascii_spaces : (bs : List ℕ) → All IsPlain bs → IsAscii (map plus_to_space bs)
ascii_spaces [] plain i = omega arith
ascii_spaces (b ∷ bs) plain zero = ascii b (All-head IsPlain b bs plain).0
ascii_spaces (b ∷ bs) plain (suc i) = ascii_spaces bs (All-tail IsPlain b bs plain) i

pub spaces_utf8 : (bs : List ℕ) → All IsPlain bs → IsUtf8 (map plus_to_space bs)
spaces_utf8 bs plain = IsUtf8-from_ascii (map plus_to_space bs) (ascii_spaces bs plain)

-- what they stand for
pub text_plain : (bs : List ℕ) → All IsPlain bs → map plus_to_space bs ≡ utf8_lossy (decode bs)
text_plain bs plain =
    sym (utf8_lossy-IsUtf8 (map plus_to_space bs) (spaces_utf8 bs plain))
    ∙ ap utf8_lossy (sym (decode_plain bs plain))

-- the bytes with which an array begins, in which a space was put for each `+`
pub begun_plain : (bs room : List ℕ) → take (length bs) room ≡ bs → All IsPlain room → All IsPlain bs
begun_plain bs room begins plain = subst (All IsPlain) begins (All-take IsPlain (length bs) room plain)

pub begun_spaced
    : (bs room spaces : List ℕ) → take (length bs) room ≡ bs → spaces ≡ map plus_to_space room
    → take (length bs) spaces ≡ map plus_to_space bs
begun_spaced bs room spaces begins is =
    ap (take (length bs)) is ∙ take-map plus_to_space (length bs) room ∙ ap (map plus_to_space) begins

-- that many bytes with a space for each `+`, and the others
abbrev pub spaced : ℕ → List ℕ → List ℕ
spaced zero bs = bs
spaced (suc n) [] = []
spaced (suc n) (b ∷ bs) = plus_to_space b ∷ spaced n bs

pub spaced_more
    : (n d : ℕ) (bs : List ℕ)
    → slice_set (spaced n bs) n (plus_to_space (slice_index_or (spaced n bs) n d)) ≡ spaced (suc n) bs
spaced_more zero d [] = refl
spaced_more zero d (b ∷ bs) = refl
spaced_more (suc n) d [] = refl
spaced_more (suc n) d (b ∷ bs) = ap (λ l. plus_to_space b ∷ l) (spaced_more n d bs)

pub spaced_all : (n : ℕ) (bs : List ℕ) → length bs ≤ n → spaced n bs ≡ map plus_to_space bs
spaced_all zero [] all = refl
spaced_all zero (b ∷ bs) all = absurd (omega (arith, all))
spaced_all (suc n) [] all = refl
spaced_all (suc n) (b ∷ bs) all = ap (λ l. plus_to_space b ∷ l) (spaced_all n bs (omega (arith, all)))
