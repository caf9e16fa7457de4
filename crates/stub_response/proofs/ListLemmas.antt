-- Two lists, item by item.
use Rattle.std.proofs.Common.{◌≡◌, ℕ, ◌+◌, List, [], ◌∷◌, ◌++◌, drop, get_or, sym, ap, ◌∙◌, arith}
use Rattle.std.proofs.lemmas.List.{get_or-drop}
use Rattle.std.specs.List.{AllZip}

pub all_zip_push :
    {A B : Type 0} (R : A → B → Type 0) (xs : List A) (ys : List B) (x : A) (y : B)
    → AllZip R xs ys → R x y → AllZip R (xs ++ x ∷ []) (ys ++ y ∷ [])
all_zip_push R [] [] x y h r = (r, tt)
all_zip_push R [] (b ∷ ys) x y h r = absurd h
all_zip_push R (a ∷ xs) [] x y h r = absurd h
all_zip_push R (a ∷ xs) (b ∷ ys) x y h r = (h.0, all_zip_push R xs ys x y h.1 r)

pub all_zip_weaker :
    {A B : Type 0} (R S : A → B → Type 0) → ((x : A) (y : B) → R x y → S x y) → (xs : List A) (ys : List B)
    → AllZip R xs ys → AllZip S xs ys
all_zip_weaker R S f [] [] h = tt
all_zip_weaker R S f [] (b ∷ ys) h = absurd h
all_zip_weaker R S f (a ∷ xs) [] h = absurd h
all_zip_weaker R S f (a ∷ xs) (b ∷ ys) h = (f a b h.0, all_zip_weaker R S f xs ys h.1)

-- lists that are the same from an item on have the same item there
pub same_item : {A : Type 0} (xs ys : List A) (i : ℕ) (d : A) → drop i xs ≡ drop i ys
    → get_or xs i d ≡ get_or ys i d
same_item xs ys i d e =
    let f : i + 0 ≡ i = omega arith in
    sym (get_or-drop i xs 0 d ∙ ap (λ n. get_or xs n d) f) ∙ ap (λ l. get_or l 0 d) e
    ∙ (get_or-drop i ys 0 d ∙ ap (λ n. get_or ys n d) f)
