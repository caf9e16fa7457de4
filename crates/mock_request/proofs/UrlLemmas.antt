-- What follows from the definition of a URL's parts.
use Rattle.std.proofs.Common.{◌≡◌, ℕ, ◌+◌, ◌<◌, Bool, true, false, not, ◌||◌, cond, if◌then◌else◌, ◌++◌, List, [], ◌∷◌}
use Rattle.std.proofs.Common.{MatchOption, length, get_or, None, Some, All, eqb, sym, refl, ap, ◌∙◌, arith}
use Rattle.std.proofs.lemmas.Bool.{eqb-true, false≢true}
use Rattle.std.proofs.lemmas.Bool.Decides.{nat_tests}
use Rattle.std.proofs.lemmas.List.{get_or_default, take_all}
use Rattle.std.proofs.lemmas.List.Folds.{list_any_none}
use Rattle.std.proofs.lemmas.Str.Pattern.{NoCharPasses-char}
use Rattle.std.proofs.lemmas.List.Sums.{passes_at_first, split_at_first, fails_before_first}
use Rattle.std.proofs.lemmas.List.Splits.{join_with_byte-slice_split}
use Rattle.std.specs.List.{list_any, position_or_len, before_first, after_first, join_with_byte, Contains}
use Rattle.std.specs.List.{slice_split, onto_first}
use Rattle.std.proofs.lemmas.Grind.{common_steps}
use Rattle.std.proofs.lemmas.List.Elements.{All-nil, All-cons, All-head, All-tail, All-contains}
use Rattle.std.specs.Str.{NoCharPasses}
use Rattle.mock_request.specs.Url.{is_slash, is_question_mark, path_of, query_of, segments_of}
use Rattle.mock_request.specs.Target.{slash, question_mark, IsRooted}

-- a text without a character has none of its bytes
pub lacks_char : (c : ℕ) (bs : List ℕ) → NoCharPasses (λ d. eqb d c) bs → c < 128
    → list_any (λ b. eqb b c) bs ≡ false
lacks_char c bs none ascii = list_any_none (λ b. eqb b c) bs all_other
  where
    all_other : All (λ b. eqb b c ≡ false) bs
    all_other k d here =
        let same = get_or_default bs k d 0 here in
        let other = NoCharPasses-char c bs k none ascii here in
        grind (arith, nat_tests)

-- a URL without a question mark has no query
pub query_of_none : (url : List ℕ) → NoCharPasses (λ d. eqb d question_mark) url → query_of url ≡ None
query_of_none url none = rw (lacks_char question_mark url none (omega arith)) refl

-- ---- what the parts make together

any_below : (p : ℕ → Bool) (xs : List ℕ) → list_any p xs ≡ true → position_or_len p xs < length xs
any_below p [] any = absurd (false≢true any)
any_below p (x ∷ xs) any =
    (elim (p x) as (λ b. (b || list_any p xs) ≡ true
    → cond (not b) (1 + position_or_len p xs) 0 < length (x ∷ xs)) [
      | true ↦ λ _. omega arith
      | false ↦ λ later. omega (arith, any_below p xs later)
    ]) any

none_below : (p : ℕ → Bool) (xs : List ℕ) → list_any p xs ≡ false → position_or_len p xs ≡ length xs
none_below p [] none = refl
none_below p (x ∷ xs) none =
    (elim (p x) as (λ b. (b || list_any p xs) ≡ false
    → cond (not b) (1 + position_or_len p xs) 0 ≡ length (x ∷ xs)) [
      | true ↦ λ here. absurd (false≢true (sym here))
      | false ↦ λ later. omega (arith, none_below p xs later)
    ]) none

-- a URL is its path, or its path, a question mark and its query
pub joined_parts
    : (url : List ℕ)
    → MatchOption (query_of url) (url ≡ path_of url) (λ query. url ≡ path_of url ++ question_mark ∷ query)
joined_parts url = by (list_any is_question_mark url) refl
  where
    by
        : (b : Bool) → list_any is_question_mark url ≡ b
        → MatchOption (if b then Some (after_first is_question_mark url) else None)
        (url ≡ path_of url) (λ query. url ≡ path_of url ++ question_mark ∷ query)
    by true any =
        let below = any_below is_question_mark url any in
        let mark : get_or url (position_or_len is_question_mark url) 0 ≡ question_mark =
        eqb-true _ _ (passes_at_first is_question_mark url 0 below) in
        split_at_first is_question_mark url 0 below
        ∙ ap (λ m. path_of url ++ m ∷ after_first is_question_mark url) mark
    by false none =
        sym (take_all (position_or_len is_question_mark url) url (omega (arith, none_below is_question_mark url none)))

-- a path is a slash, and its segments with a slash between two
pub joined_segments : (path : List ℕ) → IsRooted path → path ≡ slash ∷ join_with_byte slash (segments_of path)
joined_segments [] rooted = absurd rooted
joined_segments (b ∷ []) rooted = ap (λ d. d ∷ []) rooted
joined_segments (b ∷ c ∷ cs) rooted =
    ap (λ d. d ∷ c ∷ cs) rooted
    ∙ ap (λ rest. slash ∷ rest) (sym (join_with_byte-slice_split slash (c ∷ cs)))

-- ---- what the parts don't have

all_before : (p : ℕ → Bool) (xs : List ℕ) → All (λ x. p x ≡ false) (before_first p xs)
all_before p xs k d within =
    let fails = fails_before_first p xs k d (grind (arith, common_steps)) in grind (arith, common_steps)

pub no_question_mark : (url : List ℕ) → ¬ (Contains (path_of url) question_mark)
no_question_mark url has =
    let every = all_before is_question_mark url in
    false≢true (sym (All-contains (λ b. is_question_mark b ≡ false) (path_of url) question_mark every has))

module _ (p : ℕ → Bool) where
  abbrev Lacks : List ℕ → Type 0
  Lacks part = All (λ x. p x ≡ false) part

  onto_first_lacks
      : (x : ℕ) (parts : List (List ℕ)) → p x ≡ false → All Lacks parts → All Lacks (onto_first x parts)
  onto_first_lacks x [] fails each =
      All-cons Lacks (x ∷ []) []
      (All-cons (λ y. p y ≡ false) x [] fails (All-nil (λ y. p y ≡ false))) (All-nil Lacks)
  onto_first_lacks x (part ∷ parts) fails each =
      All-cons Lacks (x ∷ part) parts
      (All-cons (λ y. p y ≡ false) x part fails (All-head Lacks part parts each))
      (All-tail Lacks part parts each)

  parts_lack : (xs : List ℕ) → All Lacks (slice_split p xs)
  parts_lack [] = All-cons Lacks [] [] (All-nil (λ y. p y ≡ false)) (All-nil Lacks)
  parts_lack (x ∷ xs) = by (p x) refl (parts_lack xs)
    where
      by
          : (b : Bool) → p x ≡ b → All Lacks (slice_split p xs)
          → All Lacks (cond b ([] ∷ slice_split p xs) (onto_first x (slice_split p xs)))
      by true passes each = All-cons Lacks [] (slice_split p xs) (All-nil (λ y. p y ≡ false)) each
      by false fails each = onto_first_lacks x (slice_split p xs) fails each

pub no_slash : (path : List ℕ) → All (λ segment. ¬ (Contains segment slash)) (segments_of path)
no_slash [] = All-nil (λ segment. ¬ (Contains segment slash))
no_slash (leading ∷ []) = All-nil (λ segment. ¬ (Contains segment slash))
no_slash (leading ∷ b ∷ bs) = λ k segment within has.
    let every = parts_lack is_slash (b ∷ bs) k segment within in
    let part = get_or (slice_split is_slash (b ∷ bs)) k segment in
    false≢true (sym (All-contains (λ c. is_slash c ≡ false) part slash every has))
