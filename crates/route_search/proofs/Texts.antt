-- The bytes of a text are bytes.
use Rattle.std.proofs.Common.{◌≡◌, ◌⊎◌, inl, inr, ℕ, ◌<◌, ◌≤◌, ◌+◌, ◌/◌, ◌%◌, List, [], ◌∷◌, ◌++◌, Bool, true, false, cond, ltb, refl, arith, subst}
use Rattle.std.proofs.lemmas.Bool.{ltb-true, and_parts}
use Rattle.std.proofs.Math.Utf8.{scalar, scalars, scalar_cases, encode, encodes}
use Rattle.std.specs.Str.{IsUtf8}
use Rattle.matchit.specs.Level.{IsText}

text_both : (xs ys : List ℕ) → IsText xs → IsText ys → IsText (xs ++ ys)
text_both [] ys first second = second
text_both (x ∷ xs) ys first second = (first.0, text_both xs ys first.1 second)

below : (c : ℕ) → scalar c ≡ true → c < 1114112
below c is = by (scalar_cases c is)
  where
    by : (c < 55296) ⊎ ((57344 ≤ c) × (c < 1114112)) → c < 1114112
    by (inl less) = omega arith
    by (inr within) = within.1

encoded : (c : ℕ) → scalar c ≡ true → IsText (encode c)
unfolding encode
encoded c is = one (ltb c 128) refl
  where
    long : IsText ((240 + c / 262144) ∷ (128 + c / 4096 % 64) ∷ (128 + c / 64 % 64) ∷ (128 + c % 64) ∷ [])
    long = let less = below c is in (omega arith, (omega arith, (omega arith, (omega arith, tt))))

    three
        : (v : Bool) → ltb c 65536 ≡ v
        → IsText (cond v ((224 + c / 4096) ∷ (128 + c / 64 % 64) ∷ (128 + c % 64) ∷ [])
        ((240 + c / 262144) ∷ (128 + c / 4096 % 64) ∷ (128 + c / 64 % 64) ∷ (128 + c % 64) ∷ []))
    three true q = let less = ltb-true c 65536 q in (omega arith, (omega arith, (omega arith, tt)))
    three false q = long

    two
        : (v : Bool) → ltb c 2048 ≡ v
        → IsText (cond v ((192 + c / 64) ∷ (128 + c % 64) ∷ [])
        (cond (ltb c 65536) ((224 + c / 4096) ∷ (128 + c / 64 % 64) ∷ (128 + c % 64) ∷ [])
        ((240 + c / 262144) ∷ (128 + c / 4096 % 64) ∷ (128 + c / 64 % 64) ∷ (128 + c % 64) ∷ [])))
    two true q = let less = ltb-true c 2048 q in (omega arith, (omega arith, tt))
    two false q = three (ltb c 65536) refl

    one : (v : Bool) → ltb c 128 ≡ v
        → IsText (cond v (c ∷ []) (cond (ltb c 2048) ((192 + c / 64) ∷ (128 + c % 64) ∷ [])
        (cond (ltb c 65536) ((224 + c / 4096) ∷ (128 + c / 64 % 64) ∷ (128 + c % 64) ∷ [])
        ((240 + c / 262144) ∷ (128 + c / 4096 % 64) ∷ (128 + c / 64 % 64) ∷ (128 + c % 64) ∷ []))))
    one true q = let less = ltb-true c 128 q in (omega arith, tt)
    one false q = two (ltb c 2048) refl

all_encoded : (cs : List ℕ) → scalars cs ≡ true → IsText (encodes cs)
all_encoded [] are = tt
all_encoded (c ∷ cs) are =
    let parts = and_parts (scalar c) (scalars cs) are in
    text_both (encode c) (encodes cs) (encoded c parts.0) (all_encoded cs parts.1)

pub is_text : (text : List ℕ) → IsUtf8 text → IsText text
is_text text (cs, (are, spell)) = subst IsText spell (all_encoded cs are)
