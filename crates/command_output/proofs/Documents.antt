-- Files that are read one after the other.
use Rattle.std.proofs.Common.{◌≡◌, ◌⊎◌, ◌<◌, ◌∙◌, List, [], ◌∷◌, ◌++◌, ℕ, Option}
use Rattle.std.proofs.Common.{Some, None, map, length, inl, inr, sym, ap, subst, arith, slice_index_or}
use Rattle.std.proofs.lemmas.List.{get_or-map, length-map}
use Rattle.std.specs.Prelude.{Contains, IfSome}
use Rattle.std.specs.List.{AllZip}
use Rattle.command_output.specs.Files.{IsDocumentsError, IsFileError}
use Rattle.command_output.specs.declared.files.FileError.{FileError}
use Rattle.command_output.specs.declared.files.FileError.TheVariants.{OutOfMemory}

pub zip_push : {A B : Type 0} (R : A → B → Type 0) (xs : List A) (ys : List B) (x : A) (y : B)
    → AllZip R xs ys → R x y → AllZip R (xs ++ x ∷ []) (ys ++ y ∷ [])
zip_push R [] [] x y h r = (r, tt)
zip_push R [] (z ∷ ys) x y h r = absurd h
zip_push R (w ∷ xs) [] x y h r = absurd h
zip_push R (w ∷ xs) (z ∷ ys) x y h r = (h.0, zip_push R xs ys x y h.1 r)

pub zip_maps : {A B C D : Type 0} (R : C → D → Type 0) (f : A → C) (g : B → D) (xs : List A) (ys : List B)
    → AllZip (λ x y. R (f x) (g y)) xs ys → AllZip R (map f xs) (map g ys)
zip_maps R f g [] [] h = tt
zip_maps R f g [] (y ∷ ys) h = absurd h
zip_maps R f g (x ∷ xs) [] h = absurd h
zip_maps R f g (x ∷ xs) (y ∷ ys) h = (h.0, zip_maps R f g xs ys h.1)

pub contains_mapped : {A B : Type 0} (f : A → B) (xs : List A) (i : ℕ) (x : A) → i < length xs
    → x ≡ slice_index_or xs i x → Contains (map f xs) (f x)
contains_mapped f xs i x lt is = (
  i,
  (let long = length-map xs f in omega arith),
  get_or-map f xs i x (f x) lt ∙ ap f (sym is),
)

-- the error of one of the files that are listed
pub listed_error : (listed : Option (List (List ℕ))) (known : List ℕ → Option (List ℕ))
    (paths : List (List ℕ))
    (error : FileError) → IfSome listed (λ all. paths ≡ all)
    → (error ≡ OutOfMemory)
    ⊎ ((path : List ℕ) × Contains paths path × IsFileError (known path) error)
    → IsDocumentsError listed known error
listed_error listed known paths error all (inl none) = inl none
listed_error None known paths error all (inr failed) = inr tt
listed_error (Some files) known paths error all (inr (path, among, is)) =
    inr (path, subst (λ (ps : List (List ℕ)). Contains ps path) all among, is)
