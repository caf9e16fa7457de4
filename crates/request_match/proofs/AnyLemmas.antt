-- `Any` of a list with one more element in front, and of lists put together.
use Rattle.std.proofs.Common.{◌≡◌, ◌⊎◌, ℕ, zero, suc, ◌<◌, get_or, length, List, [], ◌∷◌}
use Rattle.std.proofs.Common.{◌++◌, Any, arith, refl, sym, subst, ⊎_elim, inl, inr}

module _ {X : Type 0} (P : X → Type 0) where
  pub any_here : (v : X) (vs : List X) → P v → Any P (v ∷ vs)
  any_here v vs p = (0, v, omega arith, refl, p)

  pub any_there : (v : X) (vs : List X) → Any P vs → Any P (v ∷ vs)
  any_there v vs a = let within = a.2 in (suc a.0, a.1, omega arith, a.3, a.4)

  at_index : (v : X) (vs : List X) (k : ℕ) (x : X) → k < length (v ∷ vs) →
      get_or (v ∷ vs) k x ≡ x → P x → P v ⊎ Any P vs
  at_index v vs zero x within is p = inl (subst P (sym is) p)
  at_index v vs (suc k) x within is p = inr (k, x, omega arith, is, p)

  pub any_cases : (v : X) (vs : List X) → Any P (v ∷ vs) → P v ⊎ Any P vs
  any_cases v vs a = at_index v vs a.0 a.1 a.2 a.3 a.4

  pub none_in_empty : ¬ (Any P [])
  none_in_empty a = let within = a.2 in absurd (omega arith)

  pub any_left : (xs ys : List X) → Any P xs → Any P (xs ++ ys)
  any_left [] ys a = absurd (none_in_empty a)
  any_left (v ∷ vs) ys a =
      ⊎_elim (any_here v (vs ++ ys)) (λ rest. any_there v (vs ++ ys) (any_left vs ys rest)) (any_cases v vs a)

  pub any_right : (xs ys : List X) → Any P ys → Any P (xs ++ ys)
  any_right [] ys a = a
  any_right (v ∷ vs) ys a = any_there v (vs ++ ys) (any_right vs ys a)
