-- A walk over the numbers of a line, which looks for one that isn't above the one before it.
use Rattle.std.proofs.Common.{◌≡◌, ℕ, zero, suc, ◌+◌, ◌<◌, ◌≤◌, List, ◌∷◌, length, drop, get_or}
use Rattle.std.proofs.Common.{refl, sym, ap, ◌∙◌, subst, arith, drop-cons}
use Rattle.std.specs.Prelude.{slice_index, IsSomeAnd, Option, Some, None}
use Rattle.std.specs.List.Sorted.{IsStrictlyIncreasing}
use Rattle.shared_book.specs.Receipts.{Line, IsRising, Falls, numbers}
use Rattle.shared_book.specs.declared.receipt.Receipt.{Receipt}

-- the numbers from the one before them, if there is one
abbrev pub numbers_from : Option ℕ → List ℕ → List ℕ
numbers_from None ns = ns
numbers_from (Some before) ns = before ∷ ns

-- a number of these that isn't above the one before it
abbrev pub FallsIn : ℕ → List ℕ → Type 0
FallsIn number ns = (k : ℕ) × (k + 1 < length ns) × (slice_index ns (k + 1) ≡ number) × (number ≤ slice_index ns k)

-- what a walk knows that has come to the numbers that are left: these, with the one before them, decide it
pub record IsWalked (line : Line) (before : Option ℕ) (left : List ℕ) : Type 0 where
  pub rising : IsStrictlyIncreasing (numbers_from before left) → IsRising line
  pub falls : (n : ℕ) → FallsIn n (numbers_from before left) → Falls n line

rises_cons : (b n : ℕ) (ns : List ℕ) → b < n → IsStrictlyIncreasing (n ∷ ns) → IsStrictlyIncreasing (b ∷ n ∷ ns)
rises_cons b n ns lt up zero l = lt
rises_cons b n ns lt up (suc k) l =
    let next : suc (k + 1) ≡ suc k + 1 = omega arith in
    subst (λ (j : ℕ). slice_index (n ∷ ns) k < slice_index (b ∷ n ∷ ns) j) next (up k (omega (arith, l)))

falls_cons : (b m : ℕ) (ns : List ℕ) → FallsIn m ns → FallsIn m (b ∷ ns)
falls_cons b m ns falls =
    let next : suc (falls.0 + 1) ≡ suc falls.0 + 1 = omega arith in (
      suc falls.0,
      (let short = falls.1 in omega (arith, short)),
      subst (λ (j : ℕ). slice_index (b ∷ ns) j ≡ m) next falls.2,
      falls.3,
    )

-- one number more, which is above the one before it
pub walk_more : (line : Line) (before : Option ℕ) (left rest : List ℕ) (n : ℕ) → IsWalked line before left
    → left ≡ n ∷ rest → (IsSomeAnd before (λ b. n ≤ b) → ⊥) → IsWalked line (Some n) rest
walk_more line None left rest n walked e above = record {
  rising = λ up. walked.rising (subst IsStrictlyIncreasing (sym e) up);
  falls = λ m falls. walked.falls m (subst (FallsIn m) (sym e) falls);
}
walk_more line (Some b) left rest n walked e above = record {
  rising = λ up. walked.rising (subst (λ ns. IsStrictlyIncreasing (b ∷ ns)) (sym e)
      (rises_cons b n rest (omega (arith, above)) up));
  falls = λ m falls. walked.falls m (subst (λ ns. FallsIn m (b ∷ ns)) (sym e) (falls_cons b m (n ∷ rest) falls));
}

-- a number that isn't
pub walk_falls : (line : Line) (before : Option ℕ) (left rest : List ℕ) (n : ℕ) → IsWalked line before left
    → left ≡ n ∷ rest → IsSomeAnd before (λ b. n ≤ b) → Falls n line
walk_falls line None left rest n walked e le = absurd le
walk_falls line (Some b) left rest n walked e le =
    walked.falls n (subst (λ ns. FallsIn n (b ∷ ns)) (sym e) (0, omega arith, refl, le))

-- ---- the numbers of the receipts from an index on

pub numbers_left : (items held : List Receipt) (i : ℕ) (item : Receipt) → items ≡ held → item ≡ get_or items i item
    → i < length items → numbers (drop i held) ≡ item.number ∷ numbers (drop (i + 1) held)
numbers_left items held i item e is l =
    let next : suc i ≡ i + 1 = omega arith in
    ap (λ (rs : List Receipt). numbers (drop i rs)) (sym e)
    ∙ ap numbers (drop-cons items i item l)
    ∙ ap (λ (r : Receipt). r.number ∷ numbers (drop (suc i) items)) (sym is)
    ∙ ap (λ (j : ℕ). item.number ∷ numbers (drop j items)) next
    ∙ ap (λ (rs : List Receipt). item.number ∷ numbers (drop (i + 1) rs)) e
