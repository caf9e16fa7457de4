-- What the searches at each byte say of a search of the whole text.
use Rattle.std.proofs.Common.{◌≡◌, ℕ, ◌<◌, ◌≤◌, Bool, true, false, cond, List, length, Option, Some}
use Rattle.std.proofs.Common.{None, is_some, refl, sym, ap, subst, ◌∙◌, ⊎_elim, arith, inl, inr}
use Rattle.std.proofs.Math.Logic.{∥∥₁_elim}
use Rattle.std.proofs.lemmas.Bool.{cases_lt}
use Rattle.std.proofs.lemmas.Option.{none-some, same_Some}
use Rattle.regex_hir.specs.Re.{Re, Trace, Rest, accept}
use Rattle.regex_hir.specs.Find.{first_between}
use Rattle.regex_hir.specs.Matches.{Matches}
use Rattle.regex_hir.specs.Text.{is_boundary}
use Rattle.regex_hir.proofs.AttemptLemmas.{attempt_sound}
use Rattle.regex_hir.proofs.OptionLemmas.{option_cases}
use Rattle.regex_hir.proofs.FindLemmas.{first_between_here, first_between_none, none_of_first_between}
use Rattle.regex_nfa.specs.declared.nfa.Nfa.{Nfa}
use Rattle.regex_compile.specs.Implements.{Implements}
use Rattle.regex_extract.specs.Bounds.{IsAnchored}
use Rattle.value_match.specs.Inner.Search.{run_in_text, found_in, StartsAtZero}

-- a search at one byte alone
pub only_at : (f : Rest) (i : ℕ) → is_some (first_between f i i) ≡ is_some (f i)
only_at f i = ⊎_elim
    (λ none. ap is_some (first_between_none f i i (λ j low high. let same : j ≡ i = omega arith in rw same none))
    ∙ sym (ap is_some none))
    (λ some. ap is_some (first_between_here f i i some.0 (omega arith) some.1) ∙ sym (ap is_some some.1))
    (option_cases (f i))

pub none_of_is_some : {A : Type 0} (o : Option A) → is_some o ≡ false → o ≡ None
none_of_is_some None e = refl
none_of_is_some (Some x) e = absurd cc

false_of_not : (b : Bool) → ¬ (b ≡ true) → b ≡ false
false_of_not true h = absurd (h refl)
false_of_not false h = refl

inner_some : (b : Bool) (o : Option Trace) (t : Trace) → cond b o None ≡ Some t → o ≡ Some t
inner_some true o t e = e
inner_some false o t e = absurd (none-some t e)

-- where all matches of the tree start at the first byte, so do those of its automaton
pub starts_at_zero : (nfa : Nfa) (re : Re) → Implements nfa re → IsAnchored true re → StartsAtZero nfa
starts_at_zero nfa re implements anchored hay i t le found =
    let c = attempt_sound hay re accept i t (sym (implements hay i) ∙ found) in
    anchored.at hay i _ le
    (subst (Matches hay re i) (ap (λ (u : Trace). u.end) (same_Some _ _ c.gave) ∙ sym c.same_end) c.leads)

module _ (nfa : Nfa) (hay : List ℕ) where
  pub found_by_run : (i : ℕ) → i ≤ length hay → is_some (run_in_text nfa hay i) ≡ true
      → is_some (found_in nfa hay) ≡ true
  found_by_run i le some = ⊎_elim
      (λ none.
      absurd cc (ap is_some (none_of_first_between (run_in_text nfa hay) 0 (length hay) none i (omega arith) le)))
      (λ found. ap is_some found.1)
      (option_cases (found_in nfa hay))

  pub not_found : ((i : ℕ) → i ≤ length hay → run_in_text nfa hay i ≡ None)
      → is_some (found_in nfa hay) ≡ false
  not_found none = ap is_some (first_between_none (run_in_text nfa hay) 0 (length hay) (λ i low high. none i high))

  -- a pattern whose matches start at the first byte has none at a later one
  none_later : StartsAtZero nfa → run_in_text nfa hay 0 ≡ None → (i : ℕ) → i ≤ length hay
      → run_in_text nfa hay i ≡ None
  none_later starts none i le = ⊎_elim
      (λ here. here)
      (λ some.
      let zero : i ≡ 0 = starts hay i some.0 le (inner_some (is_boundary hay i) _ some.0 some.1) in
      absurd (none-some some.0 (sym none ∙ subst (λ k. run_in_text nfa hay k ≡ Some some.0) zero some.1)))
      (option_cases (run_in_text nfa hay i))

  -- the same where the pattern was tested for that
  pub not_found_anchored : (anchored : Bool) → ∥ (anchored ≡ true → StartsAtZero nfa) ∥₁ →
      anchored ≡ true → run_in_text nfa hay 0 ≡ None → is_some (found_in nfa hay) ≡ false
  not_found_anchored anchored starts is none = false_of_not _
      (λ found. ∥∥₁_elim starts (λ x y. absurd x)
      (λ h. absurd cc (sym found ∙ not_found (λ i le. none_later (h is) none i le))))

  -- none below the byte and none there
  pub none_from_start : (at : ℕ) → ((k : ℕ) → k < at → run_in_text nfa hay k ≡ None) →
      run_in_text nfa hay at ≡ None → (k : ℕ) → k ≤ at → run_in_text nfa hay k ≡ None
  none_from_start at below here k le = elim (cases_lt k at) [
    | inl lt ↦ below k lt
    | inr ge ↦ let same : k ≡ at = omega arith in rw same here
  ]
