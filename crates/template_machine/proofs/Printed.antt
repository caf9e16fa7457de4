-- A number and a truth print as some bytes.
use Rattle.std.proofs.Common.{◌≡◌, ℕ, ℤ, pos, negsuc, ◌+◌, ◌/◌, ◌%◌, ◌^◌, ◌<◌, ◌≤◌}
use Rattle.std.proofs.Common.{Bool, true, false, List, [], ◌∷◌, ◌++◌, decimal, refl, arith}
use Rattle.std.proofs.lemmas.Fmt.{decimal_by_steps_wide}
use Rattle.std.specs.Fmt.{signed_decimal}
use Rattle.std.specs.Int.{w64, w128}
use Rattle.std.specs.Int.RustNames.{FitsSigned}
use Rattle.data_tree.specs.Json.{truth_text}
use Rattle.data_tree.specs.Print.{is_not_empty}

abbrev IsSome : ℕ → List ℕ → Type 0
IsSome n ds = true ≡ is_not_empty ds

some_more : (n : ℕ) (ds : List ℕ) → 10 ≤ n → IsSome (n / 10) ds → IsSome n (ds ++ ((48 + n % 10) ∷ []))
some_more n [] h some = refl
some_more n (d ∷ ds) h some = refl

decimal_some : (n : ℕ) → n < 10 ^ 64 → IsSome n (decimal n)
decimal_some = decimal_by_steps_wide IsSome (λ n h. refl) some_more

pub truth_prints : (b : Bool) → true ≡ is_not_empty (truth_text b)
truth_prints true = refl
truth_prints false = refl

pub wide_prints : (z : ℤ) → FitsSigned w128 z → true ≡ is_not_empty (signed_decimal z)
wide_prints (pos n) h = let fits = h.sfits in decimal_some n (omega arith)
wide_prints (negsuc n) h = refl

pub number_prints : (z : ℤ) → FitsSigned w64 z → true ≡ is_not_empty (signed_decimal z)
number_prints (pos n) h = let fits = h.sfits in decimal_some n (omega arith)
number_prints (negsuc n) h = refl
