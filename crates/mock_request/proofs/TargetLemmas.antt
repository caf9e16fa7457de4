-- What follows from the definition of targets, and how the code's cuts meet it.
use Rattle.std.proofs.Common.{◌≡◌, ◌≢◌, ℕ, ◌≤◌, Bool, true, false, List, [], ◌∷◌, ◌++◌}
use Rattle.std.proofs.Common.{◌⊎◌, Option, None, Some, MatchOption, length, take, drop, get_or, codes, All}
use Rattle.std.proofs.Common.{unwrap_or, sym, refl, ap, ◌∙◌, subst, inl, inr, arith}
use Rattle.std.proofs.lemmas.Bool.{false≢true}
use Rattle.std.proofs.lemmas.Bool.Decides.{nat_tests, eqb_tells}
use Rattle.std.proofs.lemmas.List.{take_all, drop_all, get_or_default, append_cancel_left}
use Rattle.std.proofs.lemmas.List.Elements.{recursion_from_All}
use Rattle.std.specs.List.{AllByRecursion}
use Rattle.std.proofs.lemmas.Str.{NoCharPasses-byte}
use Rattle.std.specs.Char.{char_set_contains}
use Rattle.std.proofs.Math.Utf8.{encode}
use Rattle.std.proofs.Math.Dec.{eqb}
use Rattle.std.specs.Str.{NoCharPasses, IsCharBoundary}
use Rattle.std.specs.Str.Pattern.{FindsBy}
use Rattle.mock_request.specs.Target.{slash, question_mark, IsRooted, IsAuthorityByte, IsAuthority, MayFollowAuthority}
use Rattle.mock_request.specs.Target.{IsRootedForm, IsOriginForm, IsAbsoluteForm, IsTarget, HasUrl}

-- ---- a target has one URL

rest_same
    : (a b r t : List ℕ) → AllByRecursion IsAuthorityByte a → AllByRecursion IsAuthorityByte b
    → MayFollowAuthority r → MayFollowAuthority t → a ++ r ≡ b ++ t → r ≡ t
rest_same [] [] r t pa pb fr ft e = e
rest_same [] (y ∷ b) [] t pa pb fr ft e = cc
rest_same [] (y ∷ b) (z ∷ r) t pa pb (inl s) ft e = absurd (pb.0.0 (cc))
rest_same [] (y ∷ b) (z ∷ r) t pa pb (inr s) ft e = absurd (pb.0.1 (cc))
rest_same (x ∷ a) [] r [] pa pb fr ft e = cc
rest_same (x ∷ a) [] r (z ∷ t) pa pb fr (inl s) e = absurd (pa.0.0 (cc))
rest_same (x ∷ a) [] r (z ∷ t) pa pb fr (inr s) e = absurd (pa.0.1 (cc))
rest_same (x ∷ a) (y ∷ b) r t pa pb fr ft e = rest_same a b r t pa.1 pb.1 fr ft (cc)

rooted_same : (text one other : List ℕ) → IsRootedForm text one → IsRootedForm text other → one ≡ other
rooted_same text one other (inl p) (inl q) = p.1 ∙ sym q.1
rooted_same text one other (inl p) (inr q) = absurd (q.0 p.0)
rooted_same text one other (inr p) (inl q) = absurd (p.0 q.0)
rooted_same text one other (inr p) (inr q) = p.1 ∙ sym q.1

not_both : (target url other : List ℕ) → IsOriginForm target url → IsAbsoluteForm target other → ⊥
not_both target url other o a =
    let rooted : IsRooted (codes "http://" ++ (a.authority ++ a.rest)) = subst IsRooted a.spelled o.rooted in
    omega (arith, rooted)

absolute_same : (target one other : List ℕ) → IsAbsoluteForm target one
    → IsAbsoluteForm target other → one ≡ other
absolute_same target one other p q =
    let joined : p.authority ++ p.rest ≡ q.authority ++ q.rest =
    append_cancel_left (codes "http://") _ _ (sym p.spelled ∙ q.spelled) in
    let same : p.rest ≡ q.rest =
    rest_same p.authority q.authority p.rest q.rest
    (recursion_from_All IsAuthorityByte p.authority p.authority_named.1)
    (recursion_from_All IsAuthorityByte q.authority q.authority_named.1) p.authority_ends q.authority_ends joined in
    rooted_same q.rest one other (subst (λ text. IsRootedForm text one) same p.rooted) q.rooted

pub one_url : (target one other : List ℕ) → IsTarget target one → IsTarget target other → one ≡ other
one_url target one other (inl p) (inl q) = p.same ∙ sym q.same
one_url target one other (inl p) (inr q) = absurd (not_both target one other p q)
one_url target one other (inr p) (inl q) = absurd (not_both target other one q p)
one_url target one other (inr p) (inr q) = absolute_same target one other p q

-- ---- the cut after an authority

abbrev pub delimiters : List ℕ
delimiters = slash ∷ question_mark ∷ []

-- a character that is one of the delimiters
delimiter_is : (c : ℕ) → char_set_contains delimiters c ≡ true → (c ≡ slash) ⊎ (c ≡ question_mark)
delimiter_is c e = grind (arith, nat_tests)

-- a text without a delimiter
authority_bytes : (s : List ℕ) → NoCharPasses (char_set_contains delimiters) s → All IsAuthorityByte s
authority_bytes s none k d here =
    let same = get_or_default s k d 0 here in (
      λ e. let at : get_or s k 0 ≡ slash = sym same ∙ e in
          absurd
          (false≢true (sym (rw at at
          (NoCharPasses-byte (char_set_contains delimiters) s k none here (omega arith))))),
      λ e. let at : get_or s k 0 ≡ question_mark = sym same ∙ e in
          absurd
          (false≢true (sym (rw at at
          (NoCharPasses-byte (char_set_contains delimiters) s k none here (omega arith))))),
    )

-- a delimiter, and what follows it
follows : (s rest : List ℕ) (c : ℕ) → (c ≡ slash) ⊎ (c ≡ question_mark) → s ≡ encode c ++ rest
    → MayFollowAuthority s
unfolding encode
follows s rest c (inl e) at = subst MayFollowAuthority (sym (at ∙ ap (λ b. encode b ++ rest) e)) (inl refl)
follows s rest c (inr e) at = subst MayFollowAuthority (sym (at ∙ ap (λ b. encode b ++ rest) e)) (inr refl)

-- where `find` found the first delimiter
pub record IsCut (s : List ℕ) (end : ℕ) : Type 0 where
  pub before : All IsAuthorityByte (take end s)
  pub after : MayFollowAuthority (drop end s)

pub cut_at_first : (s : List ℕ) (r : Option ℕ) → MatchOption r
    ((k : ℕ → Bool) → ((c : ℕ) → char_set_contains delimiters c ≡ k c) → FindsBy k s None)
    (λ i.
    (j : ℕ)
    × ((k : ℕ → Bool) → ((c : ℕ) → char_set_contains delimiters c ≡ k c) → FindsBy k s (Some (i, j)))
    × (i ≤ j) × IsCharBoundary s i × IsCharBoundary s j)
    → IsCut s (unwrap_or r (length s))
cut_at_first s None h = record {
  before = rw (take_all (length s) s (omega arith)) (authority_bytes s (h (char_set_contains delimiters) (λ c. refl)));
  after = rw (drop_all (length s) s (omega arith)) tt;
}
cut_at_first s (Some i) h =
    let found = h.1 (char_set_contains delimiters) (λ c. refl) in
    record {
      before = authority_bytes (take i s) found.0;
      after = follows (drop i s) (drop h.0 s) found.1.0 (delimiter_is found.1.0 found.1.1) found.1.2.split;
    }

-- ---- what the code answers

rooted_form : (text : List ℕ) → (url : List ℕ) × IsRootedForm text url
rooted_form [] = (slash ∷ [], inr ((λ h. h), refl))
rooted_form (b ∷ bs) = first_form (b ∷ bs) (eqb_tells b slash)
  where
    first_form
        : (bytes : List ℕ) → ((eqb b slash ≡ true) × (b ≡ slash))
        ⊎ ((eqb b slash ≡ false) × (b ≢ slash)) → (url : List ℕ) × IsRootedForm (b ∷ bs) url
    first_form bytes (inl e) = (b ∷ bs, inl (e.1, refl))
    first_form bytes (inr e) = (slash ∷ b ∷ bs, inr (e.1, refl))

-- a target that begins with a slash
pub has_origin : (target : List ℕ) → get_or target 0 0 ≡ slash → HasUrl target
has_origin [] e = absurd (omega (arith, e))
has_origin (b ∷ bs) e = (b ∷ bs, inl (record { rooted = e; same = refl }))

-- one with a scheme and no authority
pub has_no_authority
    : (target rest : List ℕ) → target ≡ codes "http://" ++ rest → MayFollowAuthority rest → ¬ (HasUrl target)
has_no_authority target rest spelled ends (url, inl o) =
    let rooted : IsRooted (codes "http://" ++ rest) = subst IsRooted spelled o.rooted in
    omega (arith, rooted)
has_no_authority target rest spelled ends (url, inr a) =
    nothing_before a.authority a.rest rest a.authority_named ends
    (append_cancel_left (codes "http://") _ _ (sym a.spelled ∙ spelled))
  where
    nothing_before
        : (authority rest text : List ℕ) → IsAuthority authority → MayFollowAuthority text
        → authority ++ rest ≡ text → ⊥
    nothing_before [] rest text named follows e = named.0 refl
    nothing_before (x ∷ xs) rest [] named follows e = cc
    nothing_before (x ∷ xs) rest (y ∷ ys) named (inl s) e = (named.1 0 0 (omega arith)).0 (cc)
    nothing_before (x ∷ xs) rest (y ∷ ys) named (inr s) e = (named.1 0 0 (omega arith)).1 (cc)

pub not_nil : (bs : List ℕ) → false ≡ eqb (length bs) 0 → bs ≢ []
not_nil bs more none = false≢true (more ∙ ap (λ l. eqb (length l) 0) none)

-- one with both
has_absolute
    : (target authority rest : List ℕ) → target ≡ codes "http://" ++ (authority ++ rest) → IsAuthority authority
    → MayFollowAuthority rest → (url : List ℕ) → IsRootedForm rest url → IsTarget target url
has_absolute target authority rest spelled named ends url rooted =
    inr (record {
      authority = authority;
      rest = rest;
      spelled = spelled;
      authority_named = named;
      authority_ends = ends;
      rooted = rooted;
    })

pub has_url_absolute
    : (target authority rest : List ℕ) → target ≡ codes "http://" ++ (authority ++ rest) → IsAuthority authority
    → MayFollowAuthority rest → HasUrl target
has_url_absolute target authority rest spelled named ends =
    let url = rooted_form rest in
    (url.0, has_absolute target authority rest spelled named ends url.0 url.1)
