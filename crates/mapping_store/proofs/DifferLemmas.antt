-- Ids that all differ.
use Rattle.std.proofs.Common.{◌≡◌, ◌≢◌, ℕ, Bool, true, false, not, ◌&&◌, ◌||◌, List, [], ◌∷◌, ◌++◌, map, All, refl, sym}
use Rattle.std.proofs.Common.{ap, ◌∙◌, append_assoc}
use Rattle.std.specs.List.{list_any}
use Rattle.std.specs.Str.{bytes_eq}
use Rattle.std.proofs.lemmas.Bool.{false≢true, or_parts}
use Rattle.std.proofs.lemmas.List.{map-append}
use Rattle.std.proofs.lemmas.List.Elements.{All-nil, All-cons}
use Rattle.std.proofs.lemmas.List.Folds.{list_any-append}
use Rattle.std.proofs.lemmas.Slice.Eq.{bytes_eq-Decides}
use Rattle.mapping_store.specs.Ids.{all_differ}

first_holds : (a b : Bool) → (not a && b) ≡ true → a ≡ false
first_holds true b h = sym h
first_holds false b h = refl

second_holds : (a b : Bool) → (not a && b) ≡ true → b ≡ true
second_holds true b h = absurd (false≢true h)
second_holds false b h = h

pub head_differs : (id : List ℕ) (ids : List (List ℕ)) → all_differ (id ∷ ids) ≡ true
    → list_any (λ o. bytes_eq o id) ids ≡ false
head_differs id ids h = first_holds (list_any (λ o. bytes_eq o id) ids) (all_differ ids) h

pub tail_differs : (id : List ℕ) (ids : List (List ℕ)) → all_differ (id ∷ ids) ≡ true
    → all_differ ids ≡ true
tail_differs id ids h = second_holds (list_any (λ o. bytes_eq o id) ids) (all_differ ids) h

pub last_differ : (before ids : List (List ℕ)) → all_differ (before ++ ids) ≡ true → all_differ ids ≡ true
last_differ [] ids h = h
last_differ (id ∷ before) ids h = last_differ before ids (tail_differs id (before ++ ids) h)

-- none of those that come later has the first id
pub none_later : (id : List ℕ) (before ids : List (List ℕ)) → all_differ (id ∷ (before ++ ids)) ≡ true
    → list_any (λ o. bytes_eq o id) ids ≡ false
none_later id before ids h =
    let test : List ℕ → Bool = λ o. bytes_eq o id in
    let both : (list_any test before ≡ false) × (list_any test ids ≡ false) =
    or_parts (list_any test before) (list_any test ids)
    (sym (list_any-append test before ids) ∙ head_differs id (before ++ ids) h) in
    both.1

module _ {A : Type 0} (f : A → List ℕ) where
  pub none_has : (xs : List A) (id : List ℕ) (ids : List (List ℕ)) → all_differ (map f xs ++ id ∷ ids) ≡ true
      → All (λ x. f x ≢ id) xs
  none_has [] id ids h = All-nil (λ (x : A). f x ≢ id)
  none_has (x ∷ xs) id ids h =
      let later : list_any (λ o. bytes_eq o (f x)) (id ∷ ids) ≡ false =
      none_later (f x) (map f xs) (id ∷ ids) h in
      let both : (bytes_eq id (f x) ≡ false) × (list_any (λ o. bytes_eq o (f x)) ids ≡ false) =
      or_parts (bytes_eq id (f x)) (list_any (λ o. bytes_eq o (f x)) ids) later in
      All-cons (λ (y : A). f y ≢ id) x xs
      (λ same. false≢true (sym both.0 ∙ (bytes_eq-Decides id (f x)).1 (sym same)))
      (none_has xs id ids (tail_differs (f x) (map f xs ++ id ∷ ids) h))

  pub any_map : (p : List ℕ → Bool) (xs : List A) → list_any p (map f xs) ≡ list_any (λ x. p (f x)) xs
  any_map p [] = refl
  any_map p (x ∷ xs) = ap (λ b. p (f x) || b) (any_map p xs)

  -- the first of those that are left goes to the end of the others
  pub moved : {B : Type 0} (g : B → List ℕ) (xs : List A) (x : A) (y : B) (ys : List B) → f x ≡ g y
      → map f xs ++ map g (y ∷ ys) ≡ map f (xs ++ x ∷ []) ++ map g ys
  moved g xs x y ys is =
      ap (λ id. map f xs ++ id ∷ map g ys) (sym is)
      ∙ sym (append_assoc (map f xs) (f x ∷ []) (map g ys))
      ∙ ap (λ l. l ++ map g ys) (sym (map-append f xs (x ∷ [])))
