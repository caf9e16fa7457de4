-- A text contains a part exactly where it splits into something, the part, and something.
use Rattle.std.proofs.Common.{◌≡◌, ℕ, Bool, true, nat_eq, List, [], ◌∷◌, ◌++◌, length, drop, IsTrue}
use Rattle.std.proofs.Common.{◌↔◌, refl, ap, ◌⊎◌, inl, inr}
use Rattle.std.specs.Bool.{Decides}
use Rattle.std.specs.List.{starts_with}
use Rattle.std.specs.Str.Iter.{HasSubslice}
use Rattle.std.proofs.lemmas.Bool.Decides.{Decides-eqb, Decides-or, Decides-like, same_from_decides}
use Rattle.std.proofs.lemmas.Slice.Eq.{starts_is}
use Rattle.helper_set.specs.Texts.{contains}

abbrev HasPrefix : List ℕ → List ℕ → Type 0
HasPrefix s p = (rest : List ℕ) × (s ≡ p ++ rest)

starts_decides : (s p : List ℕ) → Decides (starts_with nat_eq s p) (HasPrefix s p)
starts_decides s p =
    let h = starts_is Decides-eqb s p (starts_with nat_eq s p) refl in
    (λ e. (drop (length p) s, h.0 e), λ x. h.1 x.0 x.1)

from_parts : (b : ℕ) (bs p : List ℕ) → HasPrefix (b ∷ bs) p ⊎ HasSubslice bs p → HasSubslice (b ∷ bs) p
from_parts b bs p (inl (rest, e)) = ([], rest, e)
from_parts b bs p (inr (x, y, e)) = (b ∷ x, y, ap (λ t. b ∷ t) e)

to_parts : (b : ℕ) (bs p : List ℕ) → HasSubslice (b ∷ bs) p → HasPrefix (b ∷ bs) p ⊎ HasSubslice bs p
to_parts b bs p ([], y, e) = inl (y, e)
to_parts b bs p (a ∷ x, y, e) = let t : bs ≡ x ++ (p ++ y) = cc in inr (x, y, t)

from_empty : (p : List ℕ) → HasPrefix [] p → HasSubslice [] p
from_empty p (rest, e) = ([], rest, e)

to_empty : (p : List ℕ) → HasSubslice [] p → HasPrefix [] p
to_empty p ([], y, e) = (y, e)
to_empty p (a ∷ x, y, e) = cc

pub contains_decides : (s p : List ℕ) → Decides (contains s p) (HasSubslice s p)
contains_decides [] p = Decides-like _ (from_empty p) (to_empty p) (starts_decides [] p)
contains_decides (b ∷ bs) p =
    Decides-like _ (from_parts b bs p) (to_parts b bs p)
    (Decides-or _ _ (starts_decides (b ∷ bs) p) (contains_decides bs p))

pub contains_is_a_part : (s p : List ℕ) → IsTrue (contains s p) ↔ HasSubslice s p
contains_is_a_part s p = contains_decides s p

pub contains_from : (r : Bool) (s p : List ℕ) → (r ≡ true) ↔ HasSubslice s p → r ≡ contains s p
contains_from r s p h = same_from_decides r (contains s p) h (contains_decides s p)
