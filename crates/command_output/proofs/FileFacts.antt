-- What the first bytes of a file say of all of them.
use Rattle.std.proofs.Common.{◌≡◌, ◌∙◌, ◌+◌, ◌<◌, ◌≤◌, ℕ, List, Option, Some, None, take, length, ap, arith}
use Rattle.std.specs.Prelude.{IfSome, min}
use Rattle.std.proofs.lemmas.List.{take_all, length-take}

taken_length : (limit : ℕ) (all front : List ℕ) → front ≡ take (limit + 1) all
    → length front ≡ min (limit + 1) (length all)
taken_length limit all front e = ap length e ∙ length-take (limit + 1) all

pub within : (limit : ℕ) (known : Option (List ℕ)) (front : List ℕ)
    → IfSome known (λ all. front ≡ take (limit + 1) all) → length front ≤ limit
    → IfSome known (λ all. front ≡ all)
within limit None front e small = tt
within limit (Some all) front e small =
    let long = taken_length limit all front e in
    e ∙ take_all (limit + 1) all (omega (arith, long, small))

pub over : (limit : ℕ) (known : Option (List ℕ)) (front : List ℕ)
    → IfSome known (λ all. front ≡ take (limit + 1) all) → limit < length front
    → IfSome known (λ all. limit < length all)
over limit None front e large = tt
over limit (Some all) front e large =
    let long = taken_length limit all front e in omega (arith, long, large)
