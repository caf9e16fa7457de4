-- `All` of parts of a list.
use Rattle.std.proofs.Common.{◌↔◌, List, [], ◌∷◌, ◌++◌, map, All}
use Rattle.std.proofs.lemmas.List.Elements.{All-cons, All-head, All-nil, All-tail}

module _ {X : Type 0} (P : X → Type 0) where
  pub all_left : (xs ys : List X) → All P (xs ++ ys) → All P xs
  all_left [] ys h = All-nil P
  all_left (x ∷ xs) ys h =
      All-cons P x xs (All-head P x (xs ++ ys) h) (all_left xs ys (All-tail P x (xs ++ ys) h))

  pub all_right : (xs ys : List X) → All P (xs ++ ys) → All P ys
  all_right [] ys h = h
  all_right (x ∷ xs) ys h = all_right xs ys (All-tail P x (xs ++ ys) h)

  pub all_unmapped : {Y : Type 0} (f : Y → X) (ys : List Y) → All P (map f ys) → All (λ y. P (f y)) ys
  all_unmapped f [] h = All-nil (λ y. P (f y))
  all_unmapped f (y ∷ ys) h =
      All-cons (λ y. P (f y)) y ys (All-head P (f y) (map f ys) h)
      (all_unmapped f ys (All-tail P (f y) (map f ys) h))

  pub all_of_one : (x : X) → P x → All P (x ∷ [])
  all_of_one x p = All-cons P x [] p (All-nil P)

  -- what is decided of a list of one is decided of that one
  pub by_one : (T : Type 0) (x : X) → T ↔ All P (x ∷ []) → T ↔ P x
  by_one T x decided = (λ t. All-head P x [] (decided.0 t), λ p. decided.1 (all_of_one x p))
