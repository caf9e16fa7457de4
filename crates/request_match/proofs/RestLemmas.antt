-- The values of a name that are left, one after the other.
use Rattle.std.proofs.Common.{◌≡◌, ◌↔◌, ℕ, suc, ◌+◌, ◌<◌, Bool, true, false, List, [], ◌∷◌}
use Rattle.std.proofs.Common.{Any, ap, refl, sym, subst, ◌∙◌, arith, ⊎_elim, length, get_or, drop, add-one}
use Rattle.std.proofs.Common.{Some, Result, Ok, Err, IfOk, IsTrue, String, ◌⊎◌, inr, None}
use Rattle.std.specs.List.{slice_get}
use Rattle.std.specs.Bool.{◌==◌}
use Rattle.std.specs.Option.{option_map}
use Rattle.std.specs.declared.alloc.AllocError.{AllocError}
use Rattle.std.specs.declared.alloc.Global.{Global}
use Rattle.std.proofs.Math.Seq.{drop-cons}
use Rattle.std.proofs.lemmas.Bool.Decides.{nat_tests}
use Rattle.std.proofs.lemmas.Option.{slice_get-map, slice_get_read, slice_get_within, get_or_from_slice_get}
use Rattle.std.specs.Str.{bytes_eq}
use Rattle.mock_request.specs.Values.{values_of, pairs_of, pair_of}
use Rattle.request_match.proofs.AnyLemmas.{any_here, any_there, any_cases}
use Rattle.request_match.specs.Inner.Rest.{MeetsRest}
use Rattle.value_match.specs.Matching.{Matches, MatchesValue}
use Rattle.value_match.specs.declared.value_spec.ValueSpec.{ValueSpec}

-- the next value meets the matcher
pub next_meets : (found : Bool) (m : ValueSpec) (v : List ℕ) (vs : List (List ℕ)) → MatchesValue m v →
    MeetsRest found m (v ∷ vs)
next_meets true m v vs p = any_here (MatchesValue m) v vs p
next_meets false m v vs p = any_here (MatchesValue m) v vs p

not_here : (m : ValueSpec) (v : List ℕ) (vs : List (List ℕ)) → ¬ (MatchesValue m v) →
    Any (MatchesValue m) (v ∷ vs) ↔ Any (MatchesValue m) vs
not_here m v vs refuted = (
  λ a. ⊎_elim (λ p. absurd (refuted p)) (λ rest. rest) (any_cases (MatchesValue m) v vs a),
  any_there (MatchesValue m) v vs,
)

-- it doesn't
pub next_fails : (found : Bool) (m : ValueSpec) (v : List ℕ) (vs : List (List ℕ)) → ¬ (MatchesValue m v) →
    MeetsRest found m (v ∷ vs) ↔ MeetsRest true m vs
next_fails true m v vs refuted = not_here m v vs refuted
next_fails false m v vs refuted = not_here m v vs refuted

-- ---- the pairs that are left

pub of_name : (name : List ℕ) (pair : List ℕ × List ℕ) (pairs : List (List ℕ × List ℕ)) →
    bytes_eq name pair.0 ≡ true → values_of name (pair ∷ pairs) ≡ pair.1 ∷ values_of name pairs
of_name name pair pairs named = rw named refl

pub of_other : (name : List ℕ) (pair : List ℕ × List ℕ) (pairs : List (List ℕ × List ℕ)) →
    bytes_eq name pair.0 ≡ false → values_of name (pair ∷ pairs) ≡ values_of name pairs
of_other name pair pairs other = rw other refl

pub both : {A B C : Type 0} → A ↔ B → B ↔ C → A ↔ C
both p q = (λ a. q.0 (p.0 a), λ c. p.1 (q.1 c))

pub answered : {A B : Type 0} (r : Result Bool AllocError) → IfOk r (λ b. IsTrue b ↔ A) → A ↔ B →
    IfOk r (λ b. IsTrue b ↔ B)
answered (Ok b) h e = both h e
answered (Err error) h e = h

pub matched : (m kept : ValueSpec) (value read : List ℕ) → kept ≡ m → read ≡ value →
    Matches kept (Some read) → MatchesValue m value
matched m kept value read a b h =
    subst (λ k. MatchesValue k value) a (subst (λ v. Matches kept (Some v)) b h)

pub matches_read : (m kept : ValueSpec) (value read : List ℕ) → kept ≡ m → read ≡ value →
    MatchesValue m value → Matches kept (Some read)
matches_read m kept value read a b h =
    subst (λ v. Matches kept (Some v)) (sym b) (subst (λ k. MatchesValue k value) (sym a) h)

-- the pairs as texts
pub pair_at : (items : List (String Global × String Global)) (i : ℕ) (item : String Global × String Global) →
    i < length items → item ≡ get_or items i item → slice_get (pairs_of items) i ≡ Some (pair_of item)
pair_at items i item within is =
    slice_get-map pair_of items i
    ∙ ap (option_map pair_of) (slice_get_read items (length items) i item refl within is)

module _ (m : ValueSpec) (name : List ℕ) (pairs : List (List ℕ × List ℕ)) (i : ℕ) (pair : List ℕ × List ℕ)
    (here : slice_get pairs i ≡ Some pair) where
  next : drop i pairs ≡ pair ∷ drop (i + 1) pairs
  next =
      let within = slice_get_within pairs i pair here in
      rw (add-one, drop-cons pairs i pair within)
      (ap (λ p. p ∷ drop (suc i) pairs) (get_or_from_slice_get pairs i pair pair here))

  pub next_named : bytes_eq name pair.0 ≡ true →
      values_of name (drop i pairs) ≡ pair.1 ∷ values_of name (drop (i + 1) pairs)
  next_named named = ap (values_of name) next ∙ of_name name pair (drop (i + 1) pairs) named

  pub step_found : (found : Bool) → bytes_eq name pair.0 ≡ true → MatchesValue m pair.1 →
      MeetsRest found m (values_of name (drop i pairs))
  step_found found named h =
      subst (MeetsRest found m) (sym (next_named named))
      (next_meets found m pair.1 (values_of name (drop (i + 1) pairs)) h)

  pub step_unmet : (found : Bool) → bytes_eq name pair.0 ≡ true → ¬ (MatchesValue m pair.1) →
      MeetsRest found m (values_of name (drop i pairs)) ↔ MeetsRest true m (values_of name (drop (i + 1) pairs))
  step_unmet found named refuted =
      subst (λ vs. MeetsRest found m vs ↔ MeetsRest true m (values_of name (drop (i + 1) pairs)))
      (sym (next_named named)) (next_fails found m pair.1 (values_of name (drop (i + 1) pairs)) refuted)

  pub step_other : (found : Bool) → bytes_eq name pair.0 ≡ false →
      MeetsRest found m (values_of name (drop i pairs)) ↔ MeetsRest found m (values_of name (drop (i + 1) pairs))
  step_other found other =
      let same = ap (values_of name) next ∙ of_other name pair (drop (i + 1) pairs) other in
      (subst (MeetsRest found m) same, subst (MeetsRest found m) (sym same))

pub at_end : {B : Type 0} (m kept : ValueSpec) (name : List ℕ) (pairs : List (List ℕ × List ℕ)) (i : ℕ)
    (found : Bool) →
    kept ≡ m → drop i pairs ≡ [] → B ↔ MeetsRest found m (values_of name (drop i pairs)) →
    MeetsRest found kept [] ↔ B
at_end m kept name pairs i found same none left =
    let to = subst (λ ps. MeetsRest found m (values_of name ps)) none in
    let from = subst (λ ps. MeetsRest found m (values_of name ps)) (sym none) in (
      λ h. left.1 (from (subst (λ k. MeetsRest found k []) same h)),
      λ b. subst (λ k. MeetsRest found k []) (sym same) (to (left.0 b)),
    )

-- an empty text that doesn't meet the matcher may still be absent
pub text_or_none : (m kept : ValueSpec) (value read body : List ℕ) (r : Result Bool AllocError) → kept ≡ m →
    read ≡ value → body ≡ [] → ¬ (Matches m (Some read)) → IfOk r (λ b. IsTrue b ↔ Matches kept None) →
    IfOk r (λ b. IsTrue b ↔ (MatchesValue m value ⊎ ((body ≡ []) × Matches m None)))
text_or_none m kept value read body (Ok b) same is empty refuted h = (
  λ t. inr (empty, subst (λ k. Matches k None) same (h.0 t)),
  λ either. ⊎_elim (λ p. absurd (refuted (subst (λ v. MatchesValue m v) (sym is) p)))
      (λ none. h.1 (subst (λ k. Matches k None) (sym same) none.1)) either,
)
text_or_none m kept value read body (Err error) same is empty refuted h = h

no_length : (xs : List ℕ) → (length xs == 0) ≡ true → xs ≡ []
no_length [] e = refl
no_length (x ∷ xs) e = absurd (grind (arith, nat_tests, e))

pub empty_of_length : (body read : List ℕ) → read ≡ body → (length read == 0) ≡ true → body ≡ []
empty_of_length body read same e = no_length body (ap (λ xs. length xs == 0) (sym same) ∙ e)
