-- Path templates, texts that are none, and paths that match or don't.
use Rattle.std.proofs.Common.{◌≡◌, ℕ, zero, suc, ◌<◌, List, [], ◌∷◌, None, Some, get_or, refl, ap, codes, arith}
use Rattle.std.specs.Str.{bytes_eq}
use Rattle.std.proofs.lemmas.Bool.{false≢true}
use Rattle.std.proofs.lemmas.List.Folds.{list_any_at}
use Rattle.mock_request.specs.Url.{is_slash, is_question_mark}
use Rattle.path_template.specs.Template.{Literal, Named, pieces_of, IsTemplate}
use Rattle.path_template.specs.Matching.{bindings_of, binding_of}

-- ---- the pieces of a template

a_name : pieces_of (codes "/a/{b}") ≡ Literal (codes "a") ∷ Named (codes "b") ∷ []
a_name = refl

no_segments : pieces_of (codes "/") ≡ []
no_segments = refl

name_bytes : pieces_of (codes "/{order-id_2}") ≡ Named (codes "order-id_2") ∷ []
name_bytes = refl

-- a segment that isn't a name in braces and nothing else is literal, and so is the empty one
literals
    : pieces_of (codes "/{a b}/{/x{a}/{a}x/{}/{a}}//{é}")
    ≡ Literal (codes "{a b}") ∷ Literal (codes "{") ∷ Literal (codes "x{a}") ∷ Literal (codes "{a}x")
    ∷ Literal (codes "{}")
    ∷ Literal (codes "{a}}") ∷ Literal [] ∷ Literal (codes "{é}") ∷ []
literals = refl

-- ---- which texts are templates

names_apart : IsTemplate (codes "/{a}/b/{c}")
names_apart = record {
  rooted = refl;
  no_query = λ has.
      false≢true (list_any_at is_question_mark (codes "/{a}/b/{c}") has.0 63 has.1 (ap is_question_mark has.2));
  distinct = λ i j d lower within same. apart i j d lower within same;
}
  where
    apart : (i j : ℕ) (d : List ℕ) → i < j → j < 2
        → get_or (codes "a" ∷ codes "c" ∷ []) i d ≡ get_or (codes "a" ∷ codes "c" ∷ []) j d → ⊥
    apart zero (suc zero) d lower within same = false≢true (ap (bytes_eq (codes "c")) same)
    apart i j d lower within same = absurd (omega arith)

name_twice : ¬ (IsTemplate (codes "/a/{b}/{b}"))
name_twice is = is.distinct 0 1 [] (omega arith) (omega arith) refl

no_slash : ¬ (IsTemplate (codes "a/{b}"))
no_slash is = false≢true (ap is_slash is.rooted)

a_query : ¬ (IsTemplate (codes "/a?{b}"))
a_query is = is.no_query (2, omega arith, refl)

empty : ¬ (IsTemplate [])
empty is = is.rooted

-- ---- which paths match

binds : bindings_of (codes "/a/{b}") (codes "/a/7") ≡ Some ((codes "b", codes "7") ∷ [])
binds = refl

no_empty_value : bindings_of (codes "/a/{b}") (codes "/a/") ≡ None
no_empty_value = refl

too_many : bindings_of (codes "/a/{b}") (codes "/a/7/8") ≡ None
too_many = refl

too_few : bindings_of (codes "/a/{b}") (codes "/a") ≡ None
too_few = refl

other_literal : bindings_of (codes "/a/{b}") (codes "/ab/7") ≡ None
other_literal = refl

in_order : bindings_of (codes "/{b}/x/{a}") (codes "/1/x/2")
    ≡ Some ((codes "b", codes "1") ∷ (codes "a", codes "2") ∷ [])
in_order = refl

not_decoded : bindings_of (codes "/a/{b}") (codes "/a/%2F") ≡ Some ((codes "b", codes "%2F") ∷ [])
not_decoded = refl

no_names : bindings_of (codes "/") (codes "/") ≡ Some []
no_names = refl

a_slash_more : bindings_of (codes "/a") (codes "/a/") ≡ None
a_slash_more = refl

empty_segments : bindings_of (codes "//{b}") (codes "//7") ≡ Some ((codes "b", codes "7") ∷ [])
empty_segments = refl

no_path : bindings_of (codes "/a") (codes "xa") ≡ None
no_path = refl

one_value : binding_of (codes "/{a}/{b}") (codes "/1/2") (codes "b") ≡ Some (codes "2")
one_value = refl

no_such_name : binding_of (codes "/{a}/{b}") (codes "/1/2") (codes "c") ≡ None
no_such_name = refl
