-- Lists by their first and their last elements.
use Rattle.std.proofs.Common.{◌≡◌, suc, ◌+◌, ◌-◌, ◌≤◌, List, [], ◌∷◌, ◌++◌, length, take}
use Rattle.std.proofs.Common.{drop, get_or, map, reverse, sym, ap, ◌∙◌, arith, append_assoc}
use Rattle.std.proofs.lemmas.List.{take_all, take_more, reverse-append}

pub last_split : {A : Type 0} (xs : List A) (x : A) → 1 ≤ length xs → x ≡ get_or xs (length xs - 1) x
    → xs ≡ take (length xs - 1) xs ++ x ∷ []
last_split xs x some is =
    let n : length xs - 1 + 1 ≡ length xs = omega arith in
    sym (take_all (length xs) xs (omega arith)) ∙ ap (λ i. take i xs) (sym n)
    ∙ take_more xs (length xs - 1) x (omega arith) ∙ ap (λ y. take (length xs - 1) xs ++ y ∷ []) (sym is)

pub last_two_split : {A : Type 0} (xs : List A) (x y : A) → 2 ≤ length xs → x ≡ get_or xs (length xs - 2) x
    → y ≡ get_or xs (length xs - 1) y → xs ≡ take (length xs - 2) xs ++ x ∷ y ∷ []
last_two_split xs x y some first second =
    let n : length xs - 2 + 1 ≡ length xs - 1 = omega arith in
    let front : take (length xs - 1) xs ≡ take (length xs - 2) xs ++ x ∷ [] =
    ap (λ i. take i xs) (sym n) ∙ take_more xs (length xs - 2) x (omega arith)
    ∙ ap (λ z. take (length xs - 2) xs ++ z ∷ []) (sym first) in
    last_split xs y (omega arith) second ∙ ap (λ zs. zs ++ y ∷ []) front
    ∙ append_assoc (take (length xs - 2) xs) (x ∷ []) (y ∷ [])

pub first_split : {A : Type 0} (xs : List A) (x : A) → 1 ≤ length xs → x ≡ get_or xs 0 x
    → xs ≡ x ∷ take (length xs - 1) (drop 1 xs)
first_split [] x some is = absurd (omega (arith, some))
first_split (y ∷ xs) x some is =
    let rest : take (suc (length xs) - 1) xs ≡ xs = take_all (suc (length xs) - 1) xs (omega arith) in
    λ i. sym is i ∷ sym rest i

pub popped : {A B : Type 0} (f : A → B) (xs : List A) (x : A)
    → map f (reverse (xs ++ x ∷ [])) ≡ f x ∷ map f (reverse xs)
popped f xs x = ap (map f) (reverse-append xs (x ∷ []))
