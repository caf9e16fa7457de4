-- How a reason is made byte by byte.
use Rattle.std.proofs.Common.{◌≡◌, ◌<◌, ◌≤◌, ℕ, zero, suc, ◌+◌, List, [], ◌∷◌, ◌++◌, length, refl, sym, ap, ◌∙◌, arith}
use Rattle.std.proofs.Common.{Bool, true, false, append_assoc, append-nil, length-append}
use Rattle.std.specs.Prelude.{filter, map, take, cond}
use Rattle.std.proofs.lemmas.List.{take_all}
use Rattle.call_refusal.specs.Reason.{begins_character, reason_of, shown}
use Rattle.call_refusal.specs.declared.reason.TheConstants.{LENGTH_LIMIT}

-- what is shown of these bytes
abbrev pub all_shown : List ℕ → List ℕ
all_shown text = map shown (filter begins_character text)

take_absorbs : (n : ℕ) (xs ys : List ℕ) → take n (take n xs ++ ys) ≡ take n (xs ++ ys)
take_absorbs zero xs ys = refl
take_absorbs (suc n) [] ys = refl
take_absorbs (suc n) (x ∷ xs) ys = ap (λ l. x ∷ l) (take_absorbs n xs ys)

take_full : (n : ℕ) (xs ys : List ℕ) → n ≤ length xs → take n (xs ++ ys) ≡ take n xs
take_full zero xs ys fits = refl
take_full (suc n) [] ys fits = absurd (omega (arith, fits))
take_full (suc n) (x ∷ xs) ys fits = ap (λ l. x ∷ l) (take_full n xs ys (omega (arith, fits)))

shown_first : (byte : ℕ) (rest : List ℕ) → all_shown (byte ∷ []) ++ all_shown rest ≡ all_shown (byte ∷ rest)
shown_first byte rest = by (begins_character byte)
  where
    by : (b : Bool) → map shown (cond b (byte ∷ []) []) ++ all_shown rest
        ≡ map shown (cond b (byte ∷ filter begins_character rest) (filter begins_character rest))
    by true = refl
    by false = refl

-- one byte more, and those that are left
pub next_byte : (items new : List ℕ) (byte : ℕ) (rest : List ℕ)
    → new ≡ take LENGTH_LIMIT (items ++ all_shown (byte ∷ []))
    → take LENGTH_LIMIT (new ++ all_shown rest) ≡ take LENGTH_LIMIT (items ++ all_shown (byte ∷ rest))
next_byte items new byte rest is =
    ap (λ l. take LENGTH_LIMIT (l ++ all_shown rest)) is
    ∙ (take_absorbs LENGTH_LIMIT (items ++ all_shown (byte ∷ [])) (all_shown rest)
    ∙ ap (take LENGTH_LIMIT) (append_assoc items (all_shown (byte ∷ [])) (all_shown rest)
    ∙ ap (λ l. items ++ l) (shown_first byte rest)))

-- a byte that begins no character
pub passed : (items : List ℕ) (byte : ℕ) → begins_character byte ≡ false → length items ≤ LENGTH_LIMIT
    → items ≡ take LENGTH_LIMIT (items ++ all_shown (byte ∷ []))
passed items byte other short =
    sym (ap (λ b. take LENGTH_LIMIT (items ++ map shown (cond b (byte ∷ []) []))) other
    ∙ (ap (take LENGTH_LIMIT) (append-nil items) ∙ take_all LENGTH_LIMIT items short))

-- no room for a byte
pub full : (items more : List ℕ) → LENGTH_LIMIT ≤ length items → length items ≤ LENGTH_LIMIT
    → items ≡ take LENGTH_LIMIT (items ++ more)
full items more none short =
    sym (take_full LENGTH_LIMIT items more none ∙ take_all LENGTH_LIMIT items short)

-- a byte that is shown
pub pushed : (items : List ℕ) (byte : ℕ) → begins_character byte ≡ true → length items < LENGTH_LIMIT
    → items ++ shown byte ∷ [] ≡ take LENGTH_LIMIT (items ++ all_shown (byte ∷ []))
pushed items byte begins room =
    sym (ap (λ b. take LENGTH_LIMIT (items ++ map shown (cond b (byte ∷ []) []))) begins
    ∙ take_all LENGTH_LIMIT (items ++ shown byte ∷ [])
    (omega (arith, room, length-append items (shown byte ∷ []))))

-- once none is left
pub whole : (items : List ℕ) → length items ≤ LENGTH_LIMIT → items ≡ take LENGTH_LIMIT (items ++ all_shown [])
whole items short = sym (ap (take LENGTH_LIMIT) (append-nil items) ∙ take_all LENGTH_LIMIT items short)
