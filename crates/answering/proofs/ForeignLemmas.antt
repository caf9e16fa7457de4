-- Parts of an origin, and of headers that a loop goes over.
use Rattle.std.proofs.Common.{◌≡◌, ◌↔◌, ℕ, ◌+◌, ◌<◌, ◌≤◌, Bool, true, false, List, ◌++◌, length, take, drop, refl, ap, sym, subst, ◌∙◌}
use Rattle.std.proofs.Common.{All}
use Rattle.std.specs.Prelude.{Any, Option, None, Some, IsTrue, MatchOption}
use Rattle.std.proofs.lemmas.Bool.{false≢true}
use Rattle.std.specs.List.{slice_get}
use Rattle.std.specs.Char.{to_ascii_lowercase}
use Rattle.std.proofs.Math.Seq.{drop-append_seam, take-append_seam}
use Rattle.std.proofs.lemmas.List.{length-map, map-append, take-append-drop, take_all}
use Rattle.std.proofs.lemmas.List.Elements.{All-more}
use Rattle.std.proofs.lemmas.Option.{get_or_from_slice_get}
use Rattle.answering.specs.Foreign.{lower_case}

-- ---- the parts of an origin

pub lower_case_of_parts
    : (origin front back : List ℕ) → origin ≡ front ++ back → lower_case origin ≡ lower_case front ++ lower_case back
lower_case_of_parts origin front back is = ap lower_case is ∙ map-append to_ascii_lowercase front back

pub fronts_are_same
    : (xs ys zs ws : List ℕ) → length xs ≡ length zs → xs ++ ys ≡ zs ++ ws → xs ≡ zs
fronts_are_same xs ys zs ws long same =
    sym (take-append_seam xs ys) ∙ (ap (λ n. take n (xs ++ ys)) long ∙ (ap (take (length zs)) same
    ∙ take-append_seam zs ws))

pub backs_are_same
    : (xs ys zs ws : List ℕ) → length xs ≡ length zs → xs ++ ys ≡ zs ++ ws → ys ≡ ws
backs_are_same xs ys zs ws long same =
    sym (drop-append_seam xs ys) ∙ (ap (λ n. drop n (xs ++ ys)) long ∙ (ap (drop (length zs)) same
    ∙ drop-append_seam zs ws))

-- an origin is cut behind as many bytes as the scheme has
module _ (origin scheme authority front back : List ℕ) (front_is : front ≡ take (length scheme) origin)
    (back_is : back ≡ drop (length scheme) origin) (long : length front ≡ length scheme) where
  parts : lower_case origin ≡ lower_case front ++ lower_case back
  parts =
      lower_case_of_parts origin front back
      (sym (take-append-drop (length scheme) origin)
      ∙ (ap (λ xs. xs ++ drop (length scheme) origin) (sym front_is) ∙ ap (λ ys. front ++ ys) (sym back_is)))

  long_lower : length (lower_case front) ≡ length (lower_case scheme)
  long_lower = length-map front to_ascii_lowercase ∙ (long ∙ sym (length-map scheme to_ascii_lowercase))

  pub from_parts : lower_case front ≡ lower_case scheme → lower_case back ≡ lower_case authority
      → lower_case origin ≡ lower_case scheme ++ lower_case authority
  from_parts same_front same_back =
      parts ∙ (ap (λ xs. xs ++ lower_case back) same_front ∙ ap (λ ys. lower_case scheme ++ ys) same_back)

  pub same_front : lower_case origin ≡ lower_case scheme ++ lower_case authority → lower_case front ≡ lower_case scheme
  same_front is =
      fronts_are_same (lower_case front) (lower_case back) (lower_case scheme) (lower_case authority) long_lower
      (sym parts ∙ is)

  pub same_back : lower_case origin ≡ lower_case scheme ++ lower_case authority → lower_case back ≡ lower_case authority
  same_back is =
      backs_are_same (lower_case front) (lower_case back) (lower_case scheme) (lower_case authority) long_lower
      (sym parts ∙ is)

-- ---- what a loop goes over

module _ {X : Type 0} (P : X → Type 0) (xs : List X) where
  -- none has it, so it is not so that some has
  pub none_has : All (λ x. ¬ (P x)) xs → ¬ (Any P xs)
  none_has none (k, x, within, is, has) = none k x within (subst P (sym is) has)

  element : (o : Option X) (i : ℕ) (Q : X → Type 0) → slice_get xs i ≡ o → MatchOption o ⊥ Q
      → (x : X) × (slice_get xs i ≡ Some x) × Q x
  element None i Q is m = absurd m
  element (Some x) i Q is m = (x, is, m)

  -- the test of the element there found that it has it, or that it has it not
  pub some_has : (b : Bool) (i : ℕ) → i < length xs → MatchOption (slice_get xs i) ⊥ (λ x. IsTrue b ↔ P x)
      → b ≡ true → Any P xs
  some_has b i within m passed =
      let at = element (slice_get xs i) i (λ x. IsTrue b ↔ P x) refl m in
      (i, at.0, within, get_or_from_slice_get xs i at.0 at.0 at.1, at.2.0 passed)

  pub none_more : (b : Bool) (i : ℕ) → i < length xs → MatchOption (slice_get xs i) ⊥ (λ x. IsTrue b ↔ P x)
      → b ≡ false → All (λ x. ¬ (P x)) (take i xs) → All (λ x. ¬ (P x)) (take (i + 1) xs)
  none_more b i within m failed none =
      let at = element (slice_get xs i) i (λ x. IsTrue b ↔ P x) refl m in
      All-more (λ x. ¬ (P x)) xs i at.0 within none
      (λ has. false≢true (sym failed ∙ at.2.1 (subst P (get_or_from_slice_get xs i at.0 at.0 at.1) has)))

  -- the loop has gone over all of them
  pub none_at_all : (i : ℕ) → length xs ≤ i → All (λ x. ¬ (P x)) (take i xs) → ¬ (Any P xs)
  none_at_all i over none = none_has (subst (All (λ x. ¬ (P x))) (take_all i xs over) none)
