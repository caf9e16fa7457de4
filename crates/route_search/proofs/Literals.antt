-- Patterns whose bytes are known: what is shown of them by computing.
use Rattle.std.proofs.Common.{◌≡◌, ◌⊎◌, inl, inr, ℕ, ◌<◌, List, [], ◌∷◌, ◌++◌, Bool, true, ◌==◌, ◌&&◌, ◌||◌, ltb}
use Rattle.std.proofs.Common.{refl, ap, ◌∙◌, arith}
use Rattle.std.proofs.lemmas.Bool.{and_parts, or_cases, ltb-true, eqb-true}
use Rattle.matchit.specs.Level.{IsText}
use Rattle.matchit.specs.Rows.{RowsOf, param_token}
use Rattle.route_search.specs.Segment.{slash}
use Rattle.route_search.proofs.Fits.{Fits, EndsSegment, IsWhole, AllWhole}

-- ---- tests

abbrev pub ends_segment : List ℕ → Bool
ends_segment [] = true
ends_segment (token ∷ pattern) = token == slash

abbrev pub is_whole : List ℕ → Bool
is_whole [] = true
is_whole (token ∷ pattern) =
    (ltb token param_token || (token == param_token && ends_segment pattern)) && is_whole pattern

abbrev pub are_whole : {K : Type 0} → RowsOf K → Bool
are_whole [] = true
are_whole ((pattern, key) ∷ rows) = is_whole pattern && are_whole rows

abbrev pub are_bytes : List ℕ → Bool
are_bytes [] = true
are_bytes (b ∷ bs) = ltb b param_token && are_bytes bs

ends : (pattern : List ℕ) → ends_segment pattern ≡ true → EndsSegment pattern
ends [] e = tt
ends (token ∷ pattern) e = eqb-true token slash e

whole : (pattern : List ℕ) → is_whole pattern ≡ true → IsWhole pattern
whole [] e = tt
whole (token ∷ pattern) e =
    let parts = and_parts (ltb token param_token || (token == param_token && ends_segment pattern)) (is_whole pattern) e in
    (by (or_cases (ltb token param_token) (token == param_token && ends_segment pattern) parts.0), whole pattern parts.1)
  where
    by : (ltb token param_token ≡ true) ⊎ ((token == param_token && ends_segment pattern) ≡ true)
        → (token < param_token) ⊎ ((token ≡ param_token) × EndsSegment pattern)
    by (inl less) = inl (ltb-true token param_token less)
    by (inr both) =
        let parts = and_parts (token == param_token) (ends_segment pattern) both in
        inr (eqb-true token param_token parts.0, ends pattern parts.1)

pub all_are_whole : {K : Type 0} (rows : RowsOf K) → are_whole rows ≡ true → AllWhole rows
all_are_whole [] e = tt
all_are_whole ((pattern, key) ∷ rows) e =
    let parts = and_parts (is_whole pattern) (are_whole rows) e in
    (whole pattern parts.0, all_are_whole rows parts.1)

pub all_are_bytes : (text : List ℕ) → are_bytes text ≡ true → IsText text
all_are_bytes [] e = tt
all_are_bytes (b ∷ bs) e =
    let parts = and_parts (ltb b param_token) (are_bytes bs) e in
    (ltb-true b param_token parts.0, all_are_bytes bs parts.1)

-- ---- bytes and what fits them

-- a path that fits bytes, and a pattern after them, begins with these bytes
pub record Follows (text pattern path : List ℕ) : Type 0 where
  pub rest : List ℕ
  pub whole : path ≡ text ++ rest
  pub left : Fits pattern rest

pub follows : (text pattern path : List ℕ) → IsText text → Fits (text ++ pattern) path → Follows text pattern path
follows [] pattern path bytes fits = record { rest = path; whole = refl; left = fits }
follows (b ∷ bs) pattern path bytes (rest, inl (byte, same), fits) =
    let later = follows bs pattern rest bytes.1 fits in
    record { rest = later.rest; whole = same ∙ ap (λ x. b ∷ x) later.whole; left = later.left }
follows (b ∷ bs) pattern path bytes (rest, inr (param, other), fits) =
    let byte : b < param_token = bytes.0 in
    absurd (omega (arith, param, byte))

pub fits_after
    : (text pattern rest : List ℕ) → IsText text → Fits pattern rest → Fits (text ++ pattern) (text ++ rest)
fits_after [] pattern rest bytes fits = fits
fits_after (b ∷ bs) pattern rest bytes fits = (bs ++ rest, inl (bytes.0, refl), fits_after bs pattern rest bytes.1 fits)

pub only_bytes : (text path : List ℕ) → IsText text → Fits text path → path ≡ text
only_bytes [] path bytes fits = fits
only_bytes (b ∷ bs) path bytes (rest, inl (byte, same), fits) = same ∙ ap (λ x. b ∷ x) (only_bytes bs rest bytes.1 fits)
only_bytes (b ∷ bs) path bytes (rest, inr (param, other), fits) =
    let byte : b < param_token = bytes.0 in
    absurd (omega (arith, param, byte))

pub bytes_fit : (text : List ℕ) → IsText text → Fits text text
bytes_fit [] bytes = refl
bytes_fit (b ∷ bs) bytes = (bs, inl (bytes.0, refl), bytes_fit bs bytes.1)
