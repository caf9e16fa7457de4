-- The names that bindings have.
use Rattle.std.proofs.Common.{◌≡◌, ℕ, Bool, true, false, if◌then◌else◌, List, [], ◌∷◌, map, Option}
use Rattle.std.proofs.Common.{None, Some, option_map, refl, ap, ◌==◌}
use Rattle.std.specs.Option.{IfSome}
use Rattle.std.specs.Str.{bytes_eq}
use Rattle.mock_request.specs.Target.{slash}
use Rattle.mock_request.specs.Url.{segments_of}
use Rattle.path_template.specs.Template.{Piece, Literal, Named, is_not_empty, pieces_of, names_of}
use Rattle.path_template.specs.Matching.{Binding, bound, bindings_of}

abbrev HaveNames : List (List ℕ) → Option (List Binding) → Type 0
HaveNames names o = IfSome o (λ bindings. map (λ binding. binding.0) bindings ≡ names)

have_names : (pieces : List Piece) (segments : List (List ℕ)) → HaveNames (names_of pieces) (bound pieces segments)
have_names [] [] = refl
have_names [] (segment ∷ segments) = tt
have_names (Literal bytes ∷ pieces) [] = tt
have_names (Named name ∷ pieces) [] = tt
have_names (Literal bytes ∷ pieces) (segment ∷ segments) = by (bytes_eq segment bytes) (have_names pieces segments)
  where
    by
        : (b : Bool) → HaveNames (names_of pieces) (bound pieces segments)
        → HaveNames (names_of pieces) (if b then bound pieces segments else None)
    by true later = later
    by false later = tt
have_names (Named name ∷ pieces) (segment ∷ segments) =
    by (is_not_empty segment) (bound pieces segments) (have_names pieces segments)
  where
    by
        : (b : Bool) (o : Option (List Binding)) → HaveNames (names_of pieces) o
        → HaveNames (name ∷ names_of pieces)
        (if b then option_map (λ bindings. (name, segment) ∷ bindings) o else None)
    by true None later = tt
    by true (Some bindings) later = ap (λ names. name ∷ names) later
    by false o later = tt

pub bindings_have_names : (template path : List ℕ)
    → HaveNames (names_of (pieces_of template)) (bindings_of template path)
bindings_have_names template [] = tt
bindings_have_names template (b ∷ bs) = by (b == slash) (have_names (pieces_of template) (segments_of (b ∷ bs)))
  where
    by
        : (x : Bool) → HaveNames (names_of (pieces_of template)) (bound (pieces_of template) (segments_of (b ∷ bs)))
        → HaveNames (names_of (pieces_of template))
        (if x then bound (pieces_of template) (segments_of (b ∷ bs)) else None)
    by true later = later
    by false later = tt
