-- How numbers are packed.
use Rattle.std.specs.Prelude.{◌≡◌, ◌+◌, ◌<◌, ◌^◌, ℕ, zero, suc, List, [], ◌∷◌}

-- The numbers after this one, by how much each is greater than the one before it. 0 stands for the next of `far`.
abbrev pub unpacked : ℕ → List ℕ → List ℕ → List ℕ
unpacked before [] far = []
unpacked before (zero ∷ steps) [] = []
unpacked before (zero ∷ steps) (number ∷ far) = number ∷ unpacked number steps far
unpacked before (suc k ∷ steps) far = (before + suc k) ∷ unpacked (before + suc k) steps far

-- there are as many steps of 0 as numbers in `far`; the others lead to numbers of 64 bits; and this is the last number
abbrev pub IsPacked : ℕ → List ℕ → List ℕ → ℕ → Type 0
IsPacked before [] [] last = last ≡ before
IsPacked before [] (number ∷ far) last = ⊥
IsPacked before (zero ∷ steps) [] last = ⊥
IsPacked before (zero ∷ steps) (number ∷ far) last = IsPacked number steps far last
IsPacked before (suc k ∷ steps) far last = (before + suc k < 2 ^ 64) × IsPacked (before + suc k) steps far last
