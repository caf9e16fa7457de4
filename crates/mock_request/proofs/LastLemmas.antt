-- What is before and after the last of some elements in a list.
use Rattle.std.proofs.Common.{◌≡◌, ◌+◌, ◌-◌, Bool, true, false, not, ◌||◌, List, [], ◌∷◌}
use Rattle.std.proofs.Common.{◌++◌, reverse, length, drop, All, sym, ap, subst, refl, ◌∙◌, append_assoc}
use Rattle.std.proofs.Common.{length-append, zero-add, take_at, drop_at, arith}
use Rattle.std.specs.List.{prefix_len, suffix_len, before_last, after_last, list_any}
use Rattle.std.proofs.lemmas.Bool.{cond-true, cond-false, not_from_true}
use Rattle.std.proofs.lemmas.List.{length_push, length-reverse, reverse-append}
use Rattle.std.proofs.lemmas.List.Elements.{All-nil, All-cons, All-head, All-tail, All-append}

All-reverse : {X : Type 0} (P : X → Type 0) (xs : List X) → All P xs → All P (reverse xs)
All-reverse P [] h = h
All-reverse P (x ∷ xs) h =
    subst (All P) (sym (reverse-append (x ∷ []) xs))
    (All-append P (reverse xs) (x ∷ []) (All-reverse P xs (All-tail P x xs h))
    (All-cons P x [] (All-head P x xs h) (All-nil P)))

module _ {X : Type 0} (p : X → Bool) where
  prefix_len-append
      : (xs ys : List X) → All (λ x. p x ≡ true) xs → prefix_len p (xs ++ ys) ≡ length xs + prefix_len p ys
  prefix_len-append [] ys h = sym (zero-add _)
  prefix_len-append (x ∷ xs) ys h =
      let more = prefix_len-append xs ys (All-tail (λ y. p y ≡ true) x xs h) in
      cond-true (p x) _ 0 (All-head (λ y. p y ≡ true) x xs h) ∙ omega arith

  suffix_len_at
      : (xs : List X) (y : X) (ys : List X) → p y ≡ false → All (λ x. p x ≡ true) ys
      → suffix_len p (xs ++ y ∷ ys) ≡ length ys
  suffix_len_at xs y ys stop h =
      let turned : reverse (xs ++ y ∷ ys) ≡ reverse ys ++ (y ∷ reverse xs) =
      reverse-append xs (y ∷ ys) ∙ ap (λ zs. zs ++ reverse xs) (reverse-append (y ∷ []) ys)
      ∙ append_assoc (reverse ys) (y ∷ []) (reverse xs) in
      let none : prefix_len p (y ∷ reverse xs) ≡ 0 = cond-false (p y) _ 0 stop in
      ap (prefix_len p) turned ∙ prefix_len-append (reverse ys) _ (All-reverse (λ x. p x ≡ true) ys h)
      ∙ omega (arith, length-reverse ys)

module _ {X : Type 0} (p : X → Bool) where
  pub before_last_at
      : (xs : List X) (y : X) (ys : List X) → p y ≡ true → All (λ x. not (p x) ≡ true) ys
      → before_last p (xs ++ y ∷ ys) ≡ xs
  before_last_at xs y ys here h =
      take_at xs (y ∷ ys) _
      (omega (arith, suffix_len_at (λ x. not (p x)) xs y ys (not_from_true _ here) h, length-append xs (y ∷ ys)))

  pub after_last_at
      : (xs : List X) (y : X) (ys : List X) → p y ≡ true → All (λ x. not (p x) ≡ true) ys
      → after_last p (xs ++ y ∷ ys) ≡ ys
  after_last_at xs y ys here h =
      let n = length (xs ++ y ∷ ys) - suffix_len (λ x. not (p x)) (xs ++ y ∷ ys) in
      ap (drop n) (sym (append_assoc xs (y ∷ []) ys))
      ∙ drop_at (xs ++ y ∷ []) ys n (omega (
        arith,
        suffix_len_at (λ x. not (p x)) xs y ys (not_from_true _ here) h,
        length-append xs (y ∷ ys),
        length_push xs y,
      ))

  pub any_at : (xs : List X) (y : X) (ys : List X) → p y ≡ true → list_any p (xs ++ y ∷ ys) ≡ true
  any_at [] y ys here = rw here refl
  any_at (x ∷ xs) y ys here = rw (any_at xs y ys here) (or_true (p x))
    where
      or_true : (b : Bool) → (b || true) ≡ true
      or_true true = refl
      or_true false = refl
