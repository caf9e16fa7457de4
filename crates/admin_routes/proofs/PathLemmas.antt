-- Which paths are those of admin calls.
use Rattle.std.proofs.Common.{◌≡◌, ℕ, List, [], ◌∷◌, Bool, true, false, codes, IsTrue, ◌↔◌, true≢false}
use Rattle.std.proofs.Common.{refl, sym, ap, ◌∙◌, ◌++◌, drop, take-append-drop}
use Rattle.std.specs.List.{join_with_byte, position_or_len, slice_split}
use Rattle.std.specs.Str.{bytes_eq}
use Rattle.std.proofs.lemmas.Bool.{and_parts}
use Rattle.std.proofs.lemmas.List.Splits.{join_with_byte-slice_split}
use Rattle.std.proofs.lemmas.Slice.Eq.{bytes_eq-Decides}
use Rattle.admin_routes.specs.Inner.Paths.{is_admin_in, is_empty}
use Rattle.admin_routes.specs.Routes.{IsAdmin}
use Rattle.mock_request.specs.Target.{slash}
use Rattle.mock_request.specs.Url.{is_question_mark, is_slash, path_of}

is_text : {x y : List ℕ} → bytes_eq x y ≡ true → x ≡ y
is_text {x} {y} e = (bytes_eq-Decides x y).0 e

empty_is : (bs : List ℕ) → is_empty bs ≡ true → bs ≡ []
empty_is [] e = refl
empty_is (b ∷ bs) e = absurd (true≢false (sym e))

first_is
    : (segments : List (List ℕ)) → is_admin_in segments ≡ true
    → (below : List (List ℕ)) × (segments ≡ [] ∷ codes "__admin" ∷ below)
first_is [] e = absurd (true≢false (sym e))
first_is (before ∷ []) e = absurd (true≢false (sym e))
first_is (before ∷ admin ∷ below) e =
    let tests = and_parts (is_empty before) (bytes_eq admin (codes "__admin")) e in (
      below,
      ap (λ x. x ∷ admin ∷ below) (empty_is before tests.0) ∙ ap (λ x. [] ∷ x ∷ below) (is_text tests.1),
    )

admin_means : (segments : List (List ℕ)) (b : Bool) → is_admin_in segments ≡ b
    → IsTrue b ↔ ((below : List (List ℕ)) × (segments ≡ [] ∷ codes "__admin" ∷ below))
admin_means segments true e = (λ _. first_is segments e, λ _. refl)
admin_means segments false e =
    (λ t. absurd (true≢false (sym t)), λ w. absurd (true≢false (sym (ap is_admin_in w.1) ∙ e)))

pub is_admin_means
    : (url : List ℕ) (b : Bool) → b ≡ is_admin_in (slice_split is_slash (path_of url))
    → IsTrue b ↔ IsAdmin url
is_admin_means url b e = admin_means (slice_split is_slash (path_of url)) b (sym e)

joined : (below : List (List ℕ))
    → (rest : List ℕ) × (join_with_byte slash ([] ∷ codes "__admin" ∷ below) ≡ codes "/__admin" ++ rest)
joined [] = ([], refl)
joined (next ∷ below) = (slash ∷ join_with_byte slash (next ∷ below), refl)

-- a URL of admin calls begins with `/__admin`
pub admin_begins : (url : List ℕ) → IsAdmin url → (rest : List ℕ) × (url ≡ codes "/__admin" ++ rest)
admin_begins url (below, is) =
    let end = position_or_len is_question_mark url in
    let path = sym (join_with_byte-slice_split slash (path_of url)) ∙ ap (join_with_byte slash) is
    ∙ (joined below).1 in (
      (joined below).0 ++ drop end url,
      sym (take-append-drop end url) ∙ ap (λ front. front ++ drop end url) path,
    )
