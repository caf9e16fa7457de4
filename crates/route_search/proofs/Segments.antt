-- The first segment of a path.
use Rattle.std.proofs.Common.{◌≡◌, ◌≢◌, ◌⊎◌, inl, inr, ℕ, zero, suc, List, [], ◌∷◌, ◌++◌, All}
use Rattle.std.proofs.Common.{Bool, true, false, cond, ◌==◌, refl, ap, arith}
use Rattle.std.proofs.lemmas.Bool.Decides.{nat_tests}
use Rattle.matchit.specs.Seek.{segment, has_slash}
use Rattle.route_search.specs.Segment.{slash}

pub is_cons : (b : ℕ) (bs : List ℕ) → b ∷ bs ≢ []
is_cons b bs e = cc

-- ---- whether a text has a slash

slash_test : (b : ℕ) (bs : List ℕ) → has_slash (b ∷ bs) ≡ false → (b ≢ slash) × (has_slash bs ≡ false)
slash_test b bs e = by (b == slash) refl e
  where
    by : (v : Bool) → (b == slash) ≡ v → cond v true (has_slash bs) ≡ false → (b ≢ slash) × (has_slash bs ≡ false)
    by true q e = cc
    by false q e = (grind (arith, nat_tests), e)

no_slash_test : (b : ℕ) (bs : List ℕ) → b ≢ slash → has_slash bs ≡ false → has_slash (b ∷ bs) ≡ false
no_slash_test b bs n e =
    let q : (b == slash) ≡ false = grind (arith, nat_tests) in
    rw q e

pub all_no_slash : (text : List ℕ) → has_slash text ≡ false → All (λ b. b ≢ slash) text
all_no_slash [] e k d within = absurd (omega arith)
all_no_slash (b ∷ bs) e zero d within = (slash_test b bs e).0
all_no_slash (b ∷ bs) e (suc k) d within = all_no_slash bs (slash_test b bs e).1 k d (omega arith)

pub has_no_slash : (text : List ℕ) → All (λ b. b ≢ slash) text → has_slash text ≡ false
has_no_slash [] all = refl
has_no_slash (b ∷ bs) all =
    no_slash_test b bs (all 0 0 (omega arith)) (has_no_slash bs (λ k d within. all (suc k) d (omega arith)))

-- ---- the first segment

-- where the path goes on after its first segment
pub record IsCut (path value rest : List ℕ) : Type 0 where
  pub whole : path ≡ value ++ slash ∷ rest
  pub no_slash : has_slash value ≡ false
  pub slashed : has_slash path ≡ true
  pub first : segment path ≡ value ++ slash ∷ []

pub cut_at
    : (value rest : List ℕ) → has_slash value ≡ false → IsCut (value ++ slash ∷ rest) value rest
cut_at value rest none =
    record { whole = refl; no_slash = none; slashed = slashed value; first = first value none }
  where
    slashed : (text : List ℕ) → has_slash (text ++ slash ∷ rest) ≡ true
    slashed [] = refl
    slashed (b ∷ bs) = elim (b == slash) as (λ v. cond v true (has_slash (bs ++ slash ∷ rest)) ≡ true) [
      | true ↦ refl
      | false ↦ slashed bs
    ]

    first : (text : List ℕ) → has_slash text ≡ false → segment (text ++ slash ∷ rest) ≡ text ++ slash ∷ []
    first [] e = refl
    first (b ∷ bs) e =
        let here = slash_test b bs e in
        let q : (b == slash) ≡ false = grind (arith, nat_tests) in
        rw q (ap (λ x. b ∷ x) (first bs here.1))

pub uncut : (text : List ℕ) → has_slash text ≡ false → segment text ≡ text
uncut [] e = refl
uncut (b ∷ bs) e =
    let here = slash_test b bs e in
    let q : (b == slash) ≡ false = grind (arith, nat_tests) in
    rw q (ap (λ x. b ∷ x) (uncut bs here.1))

pub first_cut
    : (path : List ℕ)
    → (has_slash path ≡ false) ⊎ ((value : List ℕ) × (rest : List ℕ) × IsCut path value rest)
first_cut [] = inl refl
first_cut (b ∷ bs) = by (b == slash) refl (first_cut bs)
  where
    by : (v : Bool) → (b == slash) ≡ v
        → (has_slash bs ≡ false) ⊎ ((value : List ℕ) × (rest : List ℕ) × IsCut bs value rest)
        → (has_slash (b ∷ bs) ≡ false) ⊎ ((value : List ℕ) × (rest : List ℕ) × IsCut (b ∷ bs) value rest)
    by true q later =
        let is : b ≡ slash = grind (arith, nat_tests) in
        inr (
          [],
          bs,
          record { whole = ap (λ x. x ∷ bs) is; no_slash = refl; slashed = rw q refl; first = rw is refl },
        )
    by false q (inl none) = inl (rw q none)
    by false q (inr (value, rest, cut)) =
        let other : b ≢ slash = λ e. grind (arith, nat_tests) in
        inr (
          b ∷ value,
          rest,
          record {
            whole = ap (λ x. b ∷ x) cut.whole;
            no_slash = no_slash_test b value other cut.no_slash;
            slashed = rw q cut.slashed;
            first = rw q (ap (λ x. b ∷ x) cut.first);
          },
        )
