-- Marks in a text: what the searches of std say of `begins` and `offset_of`.
use Rattle.std.proofs.Common.{◌≡◌, ℕ, zero, suc, ◌+◌, ◌<◌, ◌≤◌, true, false, ◌&&◌, not}
use Rattle.std.proofs.Common.{◌==◌, List, [], ◌∷◌, ◌++◌, length, take, drop, get_or, Option, Some, None}
use Rattle.std.proofs.Common.{Result, Ok, Err, MatchOption, IfSome, option_map, refl, sym, ap, subst, ◌∙◌, arith}
use Rattle.std.proofs.Common.{IsCharBoundary, length-append, length-drop, inl, inr}
use Rattle.std.specs.Str.Pattern.{FindsText, FindsTextPrefix, LacksTextAt, StripsPrefix, SplitsAroundMatch}
use Rattle.std.proofs.lemmas.Str.Pattern.{starts_text}
use Rattle.std.proofs.lemmas.Str.{IsCharBoundary-before_ascii}
use Rattle.std.proofs.lemmas.Bool.{and_parts, and_from, eqb-true, eq-eqb, false≢true, cases_Bool, cond_both}
use Rattle.std.proofs.lemmas.List.{drop_all, get_or-drop}
use denote.Ref.{Bor}
use Rattle.template_words.specs.declared.mode.Mode.{Mode}
use Rattle.template_words.specs.Marks.{begins, offset_of, around, close_from}
use Rattle.template_words.specs.Modes.{mode_after, is_literal}
use Rattle.template_words.specs.Views.{parts_view}
use Rattle.template_words.specs.Words.{closed_at_end}

pub strip_is : (n s : List ℕ) (r : Option (Bor (List ℕ)))
    → MatchOption r (FindsTextPrefix n s None) (λ x. StripsPrefix (FindsTextPrefix n) s x.now)
    → MatchOption r (begins n s ≡ false) (λ x. (begins n s ≡ true) × (x.now ≡ drop (length n) s))
strip_is n s None h = sym (starts_text false n s h)
strip_is n s (Some x) h =
    let boundary : ℕ → Type 0 = λ i. IsCharBoundary s i in
    (sym (starts_text true n s (h.0, h.1, subst boundary (sym h.1.0) h.1.2)), h.2 ∙ ap (λ i. drop i s) h.1.0)

-- a text that is a mark and more begins with the mark
pub begins_own : (n rest : List ℕ) → begins n (n ++ rest) ≡ true
begins_own [] rest = refl
begins_own (a ∷ n) rest = and_from (a == a) (begins n (n ++ rest)) (eq-eqb a a refl) (begins_own n rest)

pub begins_split : (n s : List ℕ) → begins n s ≡ true → s ≡ n ++ drop (length n) s
begins_split [] s h = refl
begins_split (a ∷ n) [] h = absurd (false≢true h)
begins_split (a ∷ n) (b ∷ s) h =
    let p = and_parts (a == b) (begins n s) h in
    let e : a ≡ b = eqb-true a b p.0 in
    let ih : s ≡ n ++ drop (length n) s = begins_split n s p.1 in
    cc

pub lacks : (n s : List ℕ) → LacksTextAt n s 0 → begins n s ≡ false
lacks n s h =
    elim (cases_Bool (begins n s)) [ inl t ↦ absurd (h (drop (length n) s) (begins_split n s t)) | inr f ↦ f ]

pub offset_none : (n s : List ℕ) → 0 < length n → ((i : ℕ) → i ≤ length s → LacksTextAt n s i)
    → offset_of n s ≡ None
offset_none n [] some h = refl
offset_none n (b ∷ s) some h =
    let f : begins n (b ∷ s) ≡ false = lacks n (b ∷ s) (h 0 (omega arith)) in
    let ih : offset_of n s ≡ None = offset_none n s some (λ i le. h (suc i) (omega arith)) in
    rw f (rw ih refl)

pub offset_some : (n s rest : List ℕ) (i : ℕ) → 0 < length n → ((k : ℕ) → k < i → LacksTextAt n s k)
    → drop i s ≡ n ++ rest → offset_of n s ≡ Some i
offset_some n [] rest i some h e =
    let z : [] ≡ n ++ rest = sym (drop_all i [] (omega arith)) ∙ e in
    absurd (omega (arith, length-append n rest, ap length z))
offset_some n (b ∷ s) rest zero some h e =
    let t : begins n (b ∷ s) ≡ true = ap (begins n) e ∙ begins_own n rest in
    rw t refl
offset_some n (b ∷ s) rest (suc i) some h e =
    let f : begins n (b ∷ s) ≡ false = lacks n (b ∷ s) (h 0 (omega arith)) in
    let ih : offset_of n s ≡ Some i = offset_some n s rest i some (λ k lt. h (suc k) (omega arith)) e in
    rw f (rw ih refl)

pub split_once_is : (n s : List ℕ) (r : Option (Bor (List ℕ) × Bor (List ℕ))) → 0 < length n
    → MatchOption r (FindsText n s None) (λ x. SplitsAroundMatch (FindsText n) s x.0.now x.1.now)
    → parts_view r ≡ around n s (offset_of n s)
split_once_is n s None some h = sym (ap (around n s) (offset_none n s some h))
split_once_is n s (Some x) some h =
    let e : offset_of n s ≡ Some h.0 = offset_some n s (drop h.1 s) h.0 some h.2.0 h.2.1.split in
    let q : drop h.1 s ≡ drop (h.0 + length n) s = ap (λ i. drop i s) h.2.1.ends in
    rw e (cc (h.3, h.4, q))

-- what `find` answers
pub find_is : (n s : List ℕ) (r : Option ℕ) → 0 < length n
    → MatchOption r (FindsText n s None)
    (λ i. (j : ℕ) × FindsText n s (Some (i, j)) × (i ≤ j) × IsCharBoundary s i × IsCharBoundary s j)
    → r ≡ offset_of n s
find_is n s None some h = sym (offset_none n s some h)
find_is n s (Some i) some h = sym (offset_some n s (drop h.0 s) i some h.1.0 h.1.1.split)

pub some_suc : (P Q : ℕ → Type 0) (o : Option ℕ) → ((n : ℕ) → P n → Q (suc n)) → IfSome o P
    → IfSome (option_map suc o) Q
some_suc P Q None f h = h
some_suc P Q (Some n) f h = f n h

-- where a mark is found, the text goes on with it
pub offset_at : (n s : List ℕ) → IfSome (offset_of n s) (λ i. (i < length s) × (begins n (drop i s) ≡ true))
offset_at n [] = tt
offset_at n (b ∷ s) =
    cond_both (begins n (b ∷ s)) (Some 0) (option_map suc (offset_of n s))
    (λ o. IfSome o (λ i. (i < length (b ∷ s)) × (begins n (drop i (b ∷ s)) ≡ true)))
    (λ t. (omega arith, t))
    (λ f. some_suc (λ i. (i < length s) × (begins n (drop i s) ≡ true))
    (λ i. (i < length (b ∷ s)) × (begins n (drop i (b ∷ s)) ≡ true)) (offset_of n s)
    (λ i h. (omega arith, h.1))
    (offset_at n s))

pub close_at : (close : List ℕ) (mode : Mode) (s : List ℕ)
    → IfSome (close_from close mode s) (λ i. (i < length s) × (begins close (drop i s) ≡ true))
close_at close mode [] = tt
close_at close mode (b ∷ s) =
    cond_both (not (is_literal mode) && begins close (b ∷ s)) (Some 0)
    (option_map suc (close_from close (mode_after mode b) s))
    (λ o. IfSome o (λ i. (i < length (b ∷ s)) × (begins close (drop i (b ∷ s)) ≡ true)))
    (λ t. (omega arith, (and_parts (not (is_literal mode)) (begins close (b ∷ s)) t).1))
    (λ f. some_suc (λ i. (i < length s) × (begins close (drop i s) ≡ true))
    (λ i. (i < length (b ∷ s)) × (begins close (drop i (b ∷ s)) ≡ true))
    (close_from close (mode_after mode b) s)
    (λ i h. (omega arith, h.1)) (close_at close (mode_after mode b) s))

pub if_some : (P : ℕ → Type 0) (o : Option ℕ) (n : ℕ) → o ≡ Some n → IfSome o P → P n
if_some P o n e h = let Q : Option ℕ → Type 0 = λ x. IfSome x P in subst Q e h

pub begins_first : (n s : List ℕ) → begins n s ≡ true → 0 < length n → get_or s 0 0 ≡ get_or n 0 0
begins_first [] s h some = absurd (omega arith)
begins_first (a ∷ n) s h some = ap (λ x. get_or x 0 0) (begins_split (a ∷ n) s h)

pub begins_fits : (n s : List ℕ) → begins n s ≡ true → length n ≤ length s
begins_fits n s h = omega (arith, length-append n (drop (length n) s), ap length (begins_split n s h))

-- a text may be cut before a mark that begins with an ASCII byte
pub boundary_at : (n s : List ℕ) (i : ℕ) → (i < length s) × (begins n (drop i s) ≡ true) → 0 < length n
    → get_or n 0 0 < 128 → IsCharBoundary s i
boundary_at n s i h some ascii =
    let first = begins_first n (drop i s) h.1 some in
    let same = get_or-drop i s 0 0 in
    let here : get_or s (i + 0) 0 ≡ get_or s i 0 = ap (λ k. get_or s k 0) (omega arith) in
    IsCharBoundary-before_ascii s i h.0 (omega arith)

pub fits_at : (n s : List ℕ) (i : ℕ) → (i < length s) × (begins n (drop i s) ≡ true)
    → i + length n ≤ length s
fits_at n s i h = omega (arith, begins_fits n (drop i s) h.1, length-drop i s, h.0)

front_of : Option (List ℕ × List ℕ) → List ℕ
front_of None = []
front_of (Some x) = x.0

back_of : Option (List ℕ × List ℕ) → List ℕ
back_of None = []
back_of (Some x) = x.1

pub some_pair : (a b x y : List ℕ) → ◌≡◌ {A = Option (List ℕ × List ℕ)} (Some (a, b)) (Some (x, y))
    → (a ≡ x) × (b ≡ y)
unfolding front_of back_of
some_pair a b x y e = (ap front_of e, ap back_of e)

closed_yes : (close body inner rest : List ℕ) (o : Option ℕ)
    → IfSome o (λ i. (i < length body) × (begins close (drop i body) ≡ true))
    → Some (inner, rest) ≡ around close body o → length rest ≡ 0 → Some inner ≡ closed_at_end close body o
closed_yes close body inner rest None found e h = cc
closed_yes close body inner rest (Some n) found e h =
    let p = some_pair inner rest (take n body) (drop (n + length close) body) e in
    let r : rest ≡ drop (n + length close) body = p.1 in
    let i : inner ≡ take n body = p.0 in
    let z = ap length r in
    let q : n + length close ≡ length body =
    omega (arith, length-drop (n + length close) body, z, h, fits_at close body n found) in
    rw (eq-eqb (n + length close) (length body) q) (ap Some i)

pub closed_at_end_yes : (close body inner rest : List ℕ)
    → Some (inner, rest) ≡ around close body (offset_of close body)
    → length rest ≡ 0 → Some inner ≡ closed_at_end close body (offset_of close body)
closed_at_end_yes close body inner rest h e =
    closed_yes close body inner rest (offset_of close body) (offset_at close body) h e

pub ok_err : {A E : Type 0} (r : Result A E) (x : A) (e : E) → r ≡ Ok x → r ≡ Err e → ⊥
ok_err r x e p q = cc

pub find_cut : (n s : List ℕ) (r : Option ℕ)
    → MatchOption r (FindsText n s None)
    (λ i. (j : ℕ) × FindsText n s (Some (i, j)) × (i ≤ j) × IsCharBoundary s i × IsCharBoundary s j)
    → IfSome r (λ i. IsCharBoundary s i)
find_cut n s None h = tt
find_cut n s (Some i) h = h.3
