-- The slots of a stack, which are kept with the top last.
use Rattle.std.proofs.Common.{◌≡◌, ℕ, ◌+◌, ◌-◌, ◌<◌, List, ◌∷◌, ◌++◌, length, take, drop}
use Rattle.std.proofs.Common.{get_or, sym, ap, ◌∙◌, ⊎_elim, length-drop, arith}
use Rattle.std.specs.Prelude.{reverse}
use Rattle.std.proofs.lemmas.List.{reverse-append, length-reverse, take-append-drop, drop_at, drop_all, drop_more}
use Rattle.std.proofs.lemmas.List.{get_or-reverse}
use Rattle.std.proofs.lemmas.Bool.{cases_lt}

-- without the last ones, from the end
pub drop-reverse : {A : Type 0} (xs : List A) (n : ℕ) → reverse (take (length xs - n) xs) ≡ drop n (reverse xs)
drop-reverse xs n =
    ⊎_elim
    (λ lt.
    let k = length xs - n in
    let whole : reverse (drop k xs) ++ reverse (take k xs)
    ≡ reverse xs = sym (reverse-append (take k xs) (drop k xs)) ∙ ap reverse (take-append-drop k xs) in
    let len : length (reverse (drop k xs)) ≡ n =
    length-reverse (drop k xs) ∙ (length-drop k xs ∙ omega (arith, lt)) in
    sym (drop_at (reverse (drop k xs)) (reverse (take k xs)) n len) ∙ ap (drop n) whole)
    (λ le.
    let none : length xs - n ≡ 0 = omega (arith, le) in
    ap (λ k. reverse (take k xs)) none ∙ sym (drop_all n (reverse xs) (omega (arith, le, length-reverse xs))))
    (cases_lt n (length xs))

-- the one that lies so far from the end
pub slot-reverse : {A : Type 0} (xs : List A) (n : ℕ) (x : A) → n < length xs →
    x ≡ get_or xs (length xs - 1 - n) x → drop n (reverse xs) ≡ x ∷ drop (n + 1) (reverse xs)
slot-reverse xs n x lt e =
    drop_more (reverse xs) n x (omega (arith, lt, length-reverse xs))
    ∙ ap (λ y. y ∷ drop (n + 1) (reverse xs)) (get_or-reverse xs n x lt ∙ sym e)
