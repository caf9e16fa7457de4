-- The first segment of a path, and the others.
use Rattle.std.proofs.Common.{◌≡◌, ◌≢◌, ℕ, ◌<◌, false, List, [], ◌∷◌, Bor, Option, None, Some}
use Rattle.std.proofs.Common.{MatchOption, All, length, get_or, refl, ap, ◌∙◌, arith, lit<}
use Rattle.std.specs.List.{slice_split}
use Rattle.std.proofs.lemmas.Bool.Decides.{nat_tests}
use Rattle.std.proofs.lemmas.List.{get_or_default}
use Rattle.std.proofs.lemmas.List.Splits.{slice_split_none, slice_split_at}
use Rattle.std.proofs.lemmas.Str.Pattern.{IsSplitOnceResult, split_parts}
use Rattle.mock_request.specs.Target.{slash, IsRooted}
use Rattle.mock_request.specs.Url.{is_slash}

no_slash : (text : List ℕ) → ((i : ℕ) → i < length text → get_or text i 0 ≢ slash)
    → All (λ b. is_slash b ≡ false) text
no_slash text none k d within =
    let same = get_or_default text k d 0 within in let other = none k within in grind (arith, nat_tests)

pub first_cut
    : (text : List ℕ) (parts : Option (Bor (List ℕ) × Bor (List ℕ))) → IsSplitOnceResult slash text parts
    → MatchOption parts (slice_split is_slash text ≡ text ∷ [])
    (λ x. slice_split is_slash text ≡ x.0.now ∷ slice_split is_slash x.1.now)
first_cut text None cut =
    slice_split_none is_slash text (no_slash text (split_parts slash text None cut (lit< tt)))
first_cut text (Some x) cut =
    let parts = split_parts slash text (Some x) cut (lit< tt) in
    ap (slice_split is_slash) parts.0
    ∙ slice_split_at is_slash x.0.now slash x.1.now (no_slash x.0.now parts.1) refl

pub not_rooted : (path : List ℕ) → ((rest : List ℕ) → path ≢ slash ∷ rest) → ¬ (IsRooted path)
not_rooted [] none rooted = rooted
not_rooted (b ∷ bs) none rooted = none bs (ap (λ d. d ∷ bs) rooted)
