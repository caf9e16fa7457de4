-- Names so far, and one more: are they distinct?
use Rattle.std.proofs.Common.{◌≡◌, ◌≢◌, ℕ, zero, suc, ◌<◌, Bool, true, false, ◌||◌, cond, List, [], ◌∷◌, ◌++◌, Bor, map}
use Rattle.std.proofs.Common.{length, get_or, take, drop, refl, sym, ap, ◌∙◌, arith}
use Rattle.std.specs.List.{list_any, AllPairs}
use Rattle.std.specs.Cmp.Lexicographic.{slice_cmp}
use Rattle.std.specs.Ordering.{nat_cmp, is_eq}
use Rattle.std.specs.Str.{bytes_eq}
use Rattle.std.proofs.lemmas.Bool.{false≢true}
use Rattle.std.proofs.lemmas.List.Quantifiers.{all_pairs_push}
use Rattle.std.proofs.lemmas.Map.Text.{is_eq-slice_cmp}
use Rattle.std.proofs.lemmas.Slice.Eq.{bytes_eq-Decides}

abbrev pub AreDistinct : List (List ℕ) → Type 0
AreDistinct names = AllPairs (λ one other. one ≢ other) names

abbrev pub has : List ℕ → List (List ℕ) → Bool
has name names = list_any (bytes_eq name) names

same : (name : List ℕ) → bytes_eq name name ≡ true
same name = (bytes_eq-Decides name name).1 refl

-- which names there are, with one more
pub has_more
    : (before : List (List ℕ)) (name q : List ℕ)
    → has q (before ++ name ∷ []) ≡ cond (is_eq (slice_cmp nat_cmp name q)) true (has q before)
has_more before name q = rw (is_eq-slice_cmp name q) (by (bytes_eq name q) refl before)
  where
    turned : (b : Bool) → bytes_eq name q ≡ b → bytes_eq q name ≡ b
    turned true e = let at = (bytes_eq-Decides name q).0 e in (bytes_eq-Decides q name).1 (sym at)
    turned false e = apart (bytes_eq q name) refl
      where
        apart : (b : Bool) → bytes_eq q name ≡ b → b ≡ false
        apart false h = refl
        apart true h =
            absurd (false≢true (sym e ∙ (bytes_eq-Decides name q).1 (sym ((bytes_eq-Decides q name).0 h))))

    by : (b : Bool) → bytes_eq name q ≡ b → (names : List (List ℕ))
        → has q (names ++ name ∷ []) ≡ cond b true (has q names)
    by true e [] = rw (turned true e) refl
    by false e [] = rw (turned false e) refl
    by true e (n ∷ names) = rw (by true e names) (or_true (bytes_eq q n))
      where
        or_true : (b : Bool) → (b || true) ≡ true
        or_true true = refl
        or_true false = refl
    by false e (n ∷ names) = rw (by false e names) refl

other : (names : List (List ℕ)) (name : List ℕ) → has name names ≡ false → (k : ℕ) (d : List ℕ)
    → k < length names → get_or names k d ≢ name
other [] name none k d within = absurd (omega arith)
other (n ∷ names) name none zero d within = λ is. by (bytes_eq name n) refl none is
  where
    by : (b : Bool) → bytes_eq name n ≡ b → (b || has name names) ≡ false → n ≢ name
    by true e h is = absurd (false≢true (sym h))
    by false e h is = false≢true (sym e ∙ (bytes_eq-Decides name n).1 (sym is))
other (n ∷ names) name none (suc k) d within =
    by (bytes_eq name n) none (λ h. other names name h k d (omega arith))
  where
    by
        : (b : Bool) → (b || has name names) ≡ false → (has name names ≡ false → get_or names k d ≢ name)
        → get_or names k d ≢ name
    by true h later = absurd (false≢true (sym h))
    by false h later = later h

pub distinct_more
    : (before : List (List ℕ)) (name : List ℕ) → AreDistinct before → has name before ≡ false
    → AreDistinct (before ++ name ∷ [])
distinct_more before name distinct none =
    all_pairs_push (λ one other. one ≢ other) before name distinct (other before name none)

at_end : (names : List (List ℕ)) (name : List ℕ) (rest : List (List ℕ)) (d : List ℕ)
    → get_or (names ++ name ∷ rest) (length names) d ≡ name
at_end [] name rest d = refl
at_end (n ∷ names) name rest d = at_end names name rest d

within_whole : (names : List (List ℕ)) (name : List ℕ) (rest : List (List ℕ))
    → length names < length (names ++ name ∷ rest)
within_whole [] name rest = omega arith
within_whole (n ∷ names) name rest = omega (arith, within_whole names name rest)

-- a name that is there before makes them not distinct, whatever follows
pub twice
    : (before : List (List ℕ)) (name : List ℕ) (rest : List (List ℕ)) → has name before ≡ true
    → ¬ (AreDistinct (before ++ name ∷ rest))
twice [] name rest here distinct = false≢true here
twice (n ∷ before) name rest here distinct =
    by (bytes_eq name n) refl here
    (λ h. twice before name rest h (λ i j d lower within. distinct (suc i) (suc j) d (omega arith) (omega arith)))
  where
    by : (b : Bool) → bytes_eq name n ≡ b → (b || has name before) ≡ true
        → (has name before ≡ true → ⊥) → ⊥
    by true e h later =
        distinct 0 (suc (length before)) [] (omega arith) (omega (arith, within_whole before name rest))
        (sym ((bytes_eq-Decides name n).0 e) ∙ sym (at_end before name rest []))
    by false e h later = later h

-- ---- names that a loop went over

abbrev pub texts : List (Bor (List ℕ)) → List (List ℕ)
texts names = map (λ name. name.now) names

module _ (d : Bor (List ℕ)) where
  pub parts_from : (names : List (Bor (List ℕ))) (i : ℕ) → i < length names →
      texts names ≡ texts (take i names) ++ (get_or names i d).now ∷ texts (drop (suc i) names)
  parts_from [] i within = absurd (omega arith)
  parts_from (n ∷ names) zero within = refl
  parts_from (n ∷ names) (suc i) within = ap (λ ts. n.now ∷ ts) (parts_from names i (omega arith))

  pub more_from : (names : List (Bor (List ℕ))) (i : ℕ) → i < length names →
      texts (take (suc i) names) ≡ texts (take i names) ++ (get_or names i d).now ∷ []
  more_from [] i within = absurd (omega arith)
  more_from (n ∷ names) zero within = refl
  more_from (n ∷ names) (suc i) within = ap (λ ts. n.now ∷ ts) (more_from names i (omega arith))
