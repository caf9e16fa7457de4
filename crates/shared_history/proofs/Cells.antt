-- Cells after a step: those that were at home stay there.
use Rattle.std.proofs.Common.{◌≡◌, ◌≢◌, ℕ, zero, suc, ◌<◌, ◌==◌, Bool, true, false, List, [], ◌∷◌, ◌++◌, length, All}
use Rattle.std.proofs.Common.{slice_set, refl, ap, arith}
use Rattle.std.proofs.lemmas.Bool.Decides.{nat_tests}
use Rattle.std.proofs.lemmas.List.Elements.{All-weaker}
use Rattle.logbook.specs.Pages.{Cell, cell}
use prog.Atomic.{either}
use Rattle.shared_history.specs.Inner.Lines.{IsUnused}
use Rattle.shared_history.specs.declared.line.Line.{Line}

abbrev pub IsHome : List Cell → ℕ → Type 0
IsHome cs k = (cell cs k).1 ≡ true

pub home_set : (cs : List Cell) (j k n : ℕ) → IsHome cs k → IsHome (slice_set cs j (n, true)) k
home_set [] j k n h = h
home_set (c ∷ cs) zero zero n h = refl
home_set (c ∷ cs) zero (suc k) n h = h
home_set (c ∷ cs) (suc j) zero n h = h
home_set (c ∷ cs) (suc j) (suc k) n h = home_set cs j k n h

pub home_grown : (cs : List Cell) (k : ℕ) → IsHome cs k → IsHome (cs ++ (0, false) ∷ []) k
home_grown [] zero h = h
home_grown [] (suc k) h = h
home_grown (c ∷ cs) zero h = h
home_grown (c ∷ cs) (suc k) h = home_grown cs k h

-- a cell that is set is at home
pub home_there : (cs : List Cell) (k n : ℕ) → k < length cs → IsHome (slice_set cs k (n, true)) k
home_there [] k n h = absurd (omega arith)
home_there (c ∷ cs) zero n h = refl
home_there (c ∷ cs) (suc k) n h = home_there cs k n (omega arith)

pub head_set : (cs : List Cell) (c : Cell) → 0 < length cs → cell (slice_set cs 0 c) 0 ≡ c
head_set [] c h = absurd (omega arith)
head_set (d ∷ cs) c h = refl

pub head_kept : (cs : List Cell) (j : ℕ) (c : Cell) → j ≢ 0 → cell (slice_set cs j c) 0 ≡ cell cs 0
head_kept cs zero c h = absurd (h refl)
head_kept [] (suc j) c h = refl
head_kept (d ∷ cs) (suc j) c h = refl

pub head_grown : (cs : List Cell) (c : Cell) → 0 < length cs → cell (cs ++ c ∷ []) 0 ≡ cell cs 0
head_grown [] c h = absurd (omega arith)
head_grown (d ∷ cs) c h = refl

pub either_same : (n m : ℕ) → either (n == m) m n ≡ n
either_same n m = cases (n == m) refl where
  cases : (b : Bool) → (n == m) ≡ b → either (n == m) m n ≡ n
  cases true is = rw is (grind (arith, nat_tests))
  cases false is = rw is

module _ {O E : Type 0} where
  pub homes : (cs ds : List Cell) → ((k : ℕ) → IsHome cs k → IsHome ds k) → (lines : List (Line O E))
      → All (λ l. IsHome cs l.turn) lines → All (λ l. IsHome ds l.turn) lines
  homes cs ds keeps lines =
      All-weaker (λ (l : Line O E). IsHome cs l.turn) (λ l. IsHome ds l.turn) (λ l. keeps l.turn) lines

  -- a turn that is away was not used up
  pub unused : (cs : List Cell) (key : ℕ) → (cell cs key).1 ≡ false → (lines : List (Line O E))
      → All (λ l. IsHome cs l.turn) lines → IsUnused key lines
  unused cs key away lines =
      All-weaker (λ (l : Line O E). IsHome cs l.turn) (λ l. l.turn ≢ key)
      (λ l home is. absurd (cc (ap (λ k. (cell cs k).1) is, away, home))) lines
