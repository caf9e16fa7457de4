-- What one list of receipts shows by itself, and what several do.
use Rattle.std.proofs.Common.{◌≡◌, ℕ, suc, ◌+◌, ◌<◌, ◌≤◌, inr, List, [], ◌∷◌, ◌++◌, map, length}
use Rattle.std.proofs.Common.{get_or, take, All, refl, sym, ap, ◌∙◌, subst, arith}
use Rattle.std.proofs.lemmas.List.{map-append, take_more, take_all}
use Rattle.std.proofs.lemmas.List.Concat.{get_or-flat_map, flat_map-append}
use Rattle.std.proofs.lemmas.List.Elements.{All-append, All-cons, All-push}
use Rattle.std.proofs.lemmas.List.Folds.{length-flat_map-take}
use Rattle.std.specs.Prelude.{Any, MatchOption, Option, Some, None}
use Rattle.std.specs.List.{flat_map}
use Rattle.shared_book.specs.Inner.Misplaced.{IsMisplaced, IsWellPlaced}
use Rattle.shared_book.specs.Receipts.{Line, IsRising, LetGoAbove, LetGoUpTo}

-- one more element of a mapped list
pub all_map_more : {X Y : Type 0} (P : Y → Type 0) (f : X → Y) (xs : List X) (i : ℕ) (d : X) → i < length xs
    → All P (map f (take i xs)) → P (f (get_or xs i d)) → All P (map f (take (i + 1) xs))
all_map_more P f xs i d l all p =
    subst (All P) (sym (ap (map f) (take_more xs i d l) ∙ map-append f (take i xs) (get_or xs i d ∷ [])))
    (All-push P (map f (take i xs)) (f (get_or xs i d)) all p)

append-nil' : {X : Type 0} (xs : List X) → xs ++ [] ≡ xs
append-nil' [] = refl
append-nil' (x ∷ xs) = ap (λ l. x ∷ l) (append-nil' xs)

-- one more list of a joined list
pub all_flat_more : {X Y : Type 0} (P : Y → Type 0) (f : X → List Y) (xs : List X) (i : ℕ) (d : X)
    → i < length xs
    → All P (flat_map f (take i xs)) → All P (f (get_or xs i d)) → All P (flat_map f (take (i + 1) xs))
all_flat_more P f xs i d l all p =
    subst (All P)
    (sym (ap (flat_map f) (take_more xs i d l) ∙ flat_map-append f (take i xs) (get_or xs i d ∷ [])
    ∙ ap (λ ys. flat_map f (take i xs) ++ ys) (append-nil' (f (get_or xs i d)))))
    (All-append P (flat_map f (take i xs)) (f (get_or xs i d)) all p)

pub any_flat : {X Y : Type 0} (P : Y → Type 0) (f : X → List Y) (xs : List X) (i : ℕ) (d : X) → i < length xs
    → Any P (f (get_or xs i d)) → Any P (flat_map f xs)
any_flat P f xs i d l any =
    let bound = length-flat_map-take f xs i d l in (
      length (flat_map f (take i xs)) + any.0,
      any.1,
      (let short = any.2 in omega (arith, bound, short)),
      get_or-flat_map f xs i any.0 d any.1 l any.2 ∙ any.3,
      any.4,
    )

pub all_taken : {X : Type 0} (P : List X → Type 0) (xs : List X) (i : ℕ) → length xs ≤ i
    → P (take i xs) → P xs
all_taken P xs i l p = subst P (take_all i xs l) p

-- a seat's own line before those that it took over
pub own_misplaced : (last n : ℕ) (own : Line) (joined : List Line) → IsMisplaced last n own
    → Any (IsMisplaced last n) (own ∷ joined)
own_misplaced last n own joined wrong = (0, own, omega arith, refl, wrong)

pub seat_misplaced : (r : Option ℕ) (last : ℕ) (own : Line) (joined : List Line) → IsWellPlaced last own
    → MatchOption r (All (IsWellPlaced last) joined) (λ n. Any (IsMisplaced last n) joined)
    → MatchOption r (All (IsWellPlaced last) (own ∷ joined)) (λ n. Any (IsMisplaced last n) (own ∷ joined))
seat_misplaced None last own joined well all = All-cons (IsWellPlaced last) own joined well all
seat_misplaced (Some n) last own joined well any =
    (suc any.0, any.1, (let short = any.2 in omega (arith, short)), any.3, any.4)

-- one line, by both tests
pub line_misplaced : (r : Option ℕ) (last : ℕ) (line : Line) → IsRising line
    → MatchOption r (LetGoUpTo last line) (λ n. LetGoAbove last n line)
    → MatchOption r (IsWellPlaced last line) (λ n. IsMisplaced last n line)
line_misplaced None last line rising up_to = (rising, up_to)
line_misplaced (Some n) last line rising above = inr above
