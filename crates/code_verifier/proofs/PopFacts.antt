-- What is popped and pushed, by the number of slots.
use Rattle.std.proofs.Common.{◌≡◌, ℕ, suc, ◌+◌, ◌-◌, List, [], ◌∷◌, ◌++◌, length, drop, Bool}
use Rattle.std.proofs.Common.{true, false, nat_lt, refl, sym, ap, ◌∙◌, length-append, length-drop, arith}
use Rattle.std.specs.Prelude.{◌&&◌}
use Rattle.std.specs.List.{list_any}
use Rattle.helper_set.specs.Values.{same_kind}
use Rattle.helper_set.specs.declared.kind.Kind.{Kind}
use Rattle.template_code.specs.Instructions.{flow, goes_on, pops, pushes, slots_kept, slots_after}
use Rattle.code_rules.specs.Rules.{lacks_slots, kinds_fit}
use Rattle.template_code.specs.declared.flow.Flow.{Flow}
use Rattle.template_code.specs.declared.instr.Instr.{Instr}
use Rattle.template_code.specs.declared.limits.TheConstants.{MAX_SLOTS}

nat_lt-suc : (m n : ℕ) → nat_lt m n ≡ nat_lt (suc m) (suc n)
nat_lt-suc m n = grind arith

none-below : (n : ℕ) → false ≡ nat_lt n 0
none-below n = grind arith

pub lacks-length : (ws : List (List Kind)) (kinds : List Kind) →
    lacks_slots ws kinds ≡ nat_lt (length kinds) (length ws)
lacks-length [] kinds = none-below (length kinds)
lacks-length (w ∷ ws) [] = grind arith
lacks-length (w ∷ ws) (k ∷ kinds) = lacks-length ws kinds ∙ nat_lt-suc (length kinds) (length ws)

-- the first slot, and those below it
pub fit-two : (w v : List Kind) (kinds : List Kind) → (kinds_fit (w ∷ []) (drop 0 kinds)
    && kinds_fit (v ∷ []) (drop 1 kinds)) ≡ kinds_fit (w ∷ v ∷ []) kinds
fit-two w v [] = refl
fit-two w v (k ∷ kinds) = ap (λ b. b && kinds_fit (v ∷ []) kinds) (and_true (list_any (same_kind k) w))
  where
    and_true : (b : Bool) → (b && true) ≡ b
    and_true true = refl
    and_true false = refl

pub fit-one : (w : List Kind) (k : Kind) (kinds : List Kind)
    → list_any (same_kind k) w ≡ kinds_fit (w ∷ []) (k ∷ kinds)
fit-one w k kinds = true_and (list_any (same_kind k) w)
  where
    true_and : (b : Bool) → b ≡ (b && true)
    true_and true = refl
    true_and false = refl

over-by : {A : Type 0} (w : Flow) (xs : List A) → (goes_on w && nat_lt MAX_SLOTS (length xs))
    ≡ nat_lt MAX_SLOTS (length (slots_kept w xs))
over-by Flow.Straight xs = refl
over-by f xs = refl

pub overfills-length : (i : Instr) (kinds : List Kind) → (goes_on (flow i)
    && nat_lt MAX_SLOTS (length (pushes i) + (length kinds - length (pops i))))
    ≡ nat_lt MAX_SLOTS (length (slots_after i (pushes i) kinds))
overfills-length i kinds =
    ap (λ n. goes_on (flow i) && nat_lt MAX_SLOTS n) (ap (λ m. length (pushes i) + m)
    (sym (length-drop (length (pops i)) kinds)) ∙ sym (length-append (pushes i) (drop (length (pops i)) kinds)))
    ∙ over-by (flow i) (pushes i ++ drop (length (pops i)) kinds)
