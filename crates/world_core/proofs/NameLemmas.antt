-- The names of scenarios and states differ.
use Rattle.std.proofs.Common.{◌≡◌, ◌<◌, ◌≤◌, ◌^◌, ℕ, sym, ap, ◌∙◌, inl, inr, arith, codes, subst}
use Rattle.std.specs.Prelude.{decimal, if◌then◌else◌}
use Rattle.std.specs.Str.Parse.{IsNumeral}
use Rattle.std.proofs.lemmas.Bool.{cases_lt, le-leb, lt-leb}
use Rattle.std.proofs.lemmas.Fmt.{decimal_injective, decimal_is_IsNumeral}
use Rattle.std.proofs.lemmas.List.{append_cancel_left}
use Rattle.recorder.specs.Stubs.{scenario_name, state_name}

pub same_scenario : (number g h : ℕ) → g < 2 ^ 64 → h < 2 ^ 64
    → scenario_name number g ≡ scenario_name number h → g ≡ h
same_scenario number g h few also is =
    let rest = append_cancel_left (codes "recording-") _ _ is in
    let last = append_cancel_left (decimal number) _ _ rest in
    decimal_injective g h few also (append_cancel_left (codes "-") _ _ last)

-- the first state is `Started`, and the others are numbers
pub started_at : (k : ℕ) → k ≤ 1 → state_name k ≡ codes "Started"
started_at k few = ap (λ b. if b then codes "Started" else decimal k) (le-leb k 1 few)

pub number_at : (k : ℕ) → 1 < k → state_name k ≡ decimal k
number_at k many = ap (λ b. if b then codes "Started" else decimal k) (lt-leb k 1 many)

no_number : (k : ℕ) → k < 2 ^ 64 → codes "Started" ≡ decimal k → ⊥
no_number k few is =
    let numeral : IsNumeral 10 (codes "Started") = subst (IsNumeral 10) (sym is) (decimal_is_IsNumeral k few).0 in
    absurd (omega (arith, numeral.1.0))

pub same_state : (j k : ℕ) → 1 ≤ j → 1 ≤ k → j < 2 ^ 64 → k < 2 ^ 64
    → state_name j ≡ state_name k → j ≡ k
same_state j k one also few fewer is =
    elim (cases_lt 1 j) [
      | inl many ↦ elim (cases_lt 1 k) [
        | inl too ↦ decimal_injective j k few fewer (sym (number_at j many) ∙ is ∙ number_at k too)
        | inr first ↦ absurd (no_number j few (sym (started_at k first) ∙ sym is ∙ number_at j many))
      ]
      | inr first ↦ elim (cases_lt 1 k) [
        | inl too ↦ absurd (no_number k fewer (sym (started_at j first) ∙ is ∙ number_at k too))
        | inr also_first ↦ omega arith
      ]
    ]
