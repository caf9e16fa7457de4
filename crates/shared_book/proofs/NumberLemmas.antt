-- Packed numbers: one more, and the first of them.
use Rattle.std.proofs.Common.{◌≡◌, ◌+◌, ◌<◌, ◌^◌, ℕ, zero, suc, List, [], ◌∷◌, ◌++◌, length, refl, sym, ap, ◌∙◌, subst, arith, All, Contains}
use Rattle.std.proofs.lemmas.List.Elements.{All-cons}
use Rattle.shared_book.specs.Inner.Numbers.{IsPacked, unpacked}

-- ---- one more number

pub packed_near : (before : ℕ) (steps far : List ℕ) (last k : ℕ) → IsPacked before steps far last → last + suc k < 2 ^ 64
    → IsPacked before (steps ++ suc k ∷ []) far (last + suc k)
packed_near before [] [] last k is fits = (subst (λ n. n + suc k < 2 ^ 64) is fits, ap (λ n. n + suc k) is)
packed_near before [] (n ∷ far) last k is fits = absurd is
packed_near before (zero ∷ steps) [] last k is fits = absurd is
packed_near before (zero ∷ steps) (n ∷ far) last k is fits = packed_near n steps far last k is fits
packed_near before (suc j ∷ steps) far last k is fits =
    (is.0, packed_near (before + suc j) steps far last k is.1 fits)

pub packed_far : (before : ℕ) (steps far : List ℕ) (last number : ℕ) → IsPacked before steps far last
    → IsPacked before (steps ++ 0 ∷ []) (far ++ number ∷ []) number
packed_far before [] [] last number is = refl
packed_far before [] (n ∷ far) last number is = absurd is
packed_far before (zero ∷ steps) [] last number is = absurd is
packed_far before (zero ∷ steps) (n ∷ far) last number is = packed_far n steps far last number is
packed_far before (suc j ∷ steps) far last number is = (is.0, packed_far (before + suc j) steps far last number is.1)

pub unpacked_near : (before : ℕ) (steps far : List ℕ) (last k : ℕ) → IsPacked before steps far last
    → unpacked before (steps ++ suc k ∷ []) far ≡ unpacked before steps far ++ (last + suc k) ∷ []
unpacked_near before [] [] last k is = ap (λ n. (n + suc k) ∷ []) (sym is)
unpacked_near before [] (n ∷ far) last k is = absurd is
unpacked_near before (zero ∷ steps) [] last k is = absurd is
unpacked_near before (zero ∷ steps) (n ∷ far) last k is = ap (λ ns. n ∷ ns) (unpacked_near n steps far last k is)
unpacked_near before (suc j ∷ steps) far last k is =
    ap (λ ns. (before + suc j) ∷ ns) (unpacked_near (before + suc j) steps far last k is.1)

pub unpacked_far : (before : ℕ) (steps far : List ℕ) (last number : ℕ) → IsPacked before steps far last
    → unpacked before (steps ++ 0 ∷ []) (far ++ number ∷ []) ≡ unpacked before steps far ++ number ∷ []
unpacked_far before [] [] last number is = refl
unpacked_far before [] (n ∷ far) last number is = absurd is
unpacked_far before (zero ∷ steps) [] last number is = absurd is
unpacked_far before (zero ∷ steps) (n ∷ far) last number is = ap (λ ns. n ∷ ns) (unpacked_far n steps far last number is)
unpacked_far before (suc j ∷ steps) far last number is =
    ap (λ ns. (before + suc j) ∷ ns) (unpacked_far (before + suc j) steps far last number is.1)

-- ---- how many there are

pub unpacked_length : (before : ℕ) (steps far : List ℕ) (last : ℕ) → IsPacked before steps far last
    → length (unpacked before steps far) ≡ length steps
unpacked_length before [] far last is = refl
unpacked_length before (zero ∷ steps) [] last is = absurd is
unpacked_length before (zero ∷ steps) (n ∷ far) last is = ap suc (unpacked_length n steps far last is)
unpacked_length before (suc j ∷ steps) far last is = ap suc (unpacked_length (before + suc j) steps far last is.1)

-- ---- numbers that were added

pub added_near : (steps more far : List ℕ) (last step number : ℕ) → IsPacked 0 steps far last → more ≡ steps ++ step ∷ []
    → 0 < step → last + step ≡ number → number < 2 ^ 64
    → IsPacked 0 more far number × (unpacked 0 more far ≡ unpacked 0 steps far ++ number ∷ [])
added_near steps more far last zero number is e some to fits = absurd (omega (arith, some))
added_near steps more far last (suc k) number is e some to fits = (
  subst (λ ss. IsPacked 0 ss far number) (sym e)
      (subst (IsPacked 0 (steps ++ suc k ∷ []) far) to (packed_near 0 steps far last k is (omega (arith, to, fits)))),
  ap (λ ss. unpacked 0 ss far) e ∙ unpacked_near 0 steps far last k is
      ∙ ap (λ n. unpacked 0 steps far ++ n ∷ []) to,
)

pub added_far : (steps far more more_far : List ℕ) (last step number : ℕ) → IsPacked 0 steps far last
    → more ≡ steps ++ step ∷ [] → step ≡ 0 → more_far ≡ far ++ number ∷ []
    → IsPacked 0 more more_far number × (unpacked 0 more more_far ≡ unpacked 0 steps far ++ number ∷ [])
added_far steps far more more_far last step number is e none f =
    let at : more ≡ steps ++ 0 ∷ [] = e ∙ ap (λ s. steps ++ s ∷ []) none in (
      subst (λ ss. IsPacked 0 ss more_far number) (sym at)
          (subst (λ ns. IsPacked 0 (steps ++ 0 ∷ []) ns number) (sym f) (packed_far 0 steps far last number is)),
      ap (λ ss. unpacked 0 ss more_far) at ∙ ap (unpacked 0 (steps ++ 0 ∷ [])) f
          ∙ unpacked_far 0 steps far last number is,
    )

-- ---- the first of the numbers

pub none_left : (before : ℕ) (steps far : List ℕ) → length steps ≡ 0 → unpacked before steps far ≡ []
none_left before [] far none = refl
none_left before (step ∷ steps) far none = absurd (omega (arith, none))

pub near_fits : (before step : ℕ) (steps rest far : List ℕ) (last : ℕ) → IsPacked before steps far last
    → steps ≡ step ∷ rest → 0 < step → before + step < 2 ^ 64
near_fits before zero steps rest far last is e some = absurd (omega (arith, some))
near_fits before (suc k) steps rest far last is e some = (subst (λ ss. IsPacked before ss far last) e is).0

pub near_left : (before step : ℕ) (steps rest far : List ℕ) (last : ℕ) → IsPacked before steps far last
    → steps ≡ step ∷ rest → 0 < step → IsPacked (before + step) rest far last
near_left before zero steps rest far last is e some = absurd (omega (arith, some))
near_left before (suc k) steps rest far last is e some = (subst (λ ss. IsPacked before ss far last) e is).1

pub near_first : (before step : ℕ) (steps rest far : List ℕ) → steps ≡ step ∷ rest → 0 < step
    → unpacked before steps far ≡ (before + step) ∷ unpacked (before + step) rest far
near_first before zero steps rest far e some = absurd (omega (arith, some))
near_first before (suc k) steps rest far e some = ap (λ ss. unpacked before ss far) e

at_far : (before step : ℕ) (steps rest far : List ℕ) (last : ℕ) → IsPacked before steps far last
    → steps ≡ step ∷ rest → step ≡ 0 → IsPacked before (0 ∷ rest) far last
at_far before step steps rest far last is e none =
    subst (λ s. IsPacked before (s ∷ rest) far last) none (subst (λ ss. IsPacked before ss far last) e is)

pub far_some : (before step : ℕ) (steps rest far : List ℕ) (last : ℕ) → IsPacked before steps far last
    → steps ≡ step ∷ rest → step ≡ 0 → length far ≡ 0 → ⊥
far_some before step steps rest [] last is e none empty = at_far before step steps rest [] last is e none
far_some before step steps rest (n ∷ far) last is e none empty = omega (arith, empty)

pub far_left : (before step number : ℕ) (steps rest far rest_far : List ℕ) (last : ℕ) → IsPacked before steps far last
    → steps ≡ step ∷ rest → step ≡ 0 → far ≡ number ∷ rest_far → IsPacked number rest rest_far last
far_left before step number steps rest far rest_far last is e none f =
    subst (λ ns. IsPacked before (0 ∷ rest) ns last) f (at_far before step steps rest far last is e none)

pub far_first : (before step number : ℕ) (steps rest far rest_far : List ℕ) → steps ≡ step ∷ rest → step ≡ 0
    → far ≡ number ∷ rest_far → unpacked before steps far ≡ number ∷ unpacked number rest rest_far
far_first before step number steps rest far rest_far e none f =
    ap (λ ss. unpacked before ss far) e ∙ ap (λ s. unpacked before (s ∷ rest) far) none
    ∙ ap (unpacked before (0 ∷ rest)) f

-- ---- what holds of all, by what holds of those that are left

pub all_left : (P : ℕ → Type 0) (left rest : List ℕ) (n : ℕ) → left ≡ n ∷ rest → P n → All P rest → All P left
all_left P left rest n e p all = subst (All P) (sym e) (All-cons P n rest p all)

pub contains_left : (left rest : List ℕ) (n m : ℕ) → left ≡ n ∷ rest → Contains rest m → Contains left m
contains_left left rest n m e found =
    subst (λ ns. Contains ns m) (sym e) (suc found.0, (let short = found.1 in omega (arith, short)), found.2)
