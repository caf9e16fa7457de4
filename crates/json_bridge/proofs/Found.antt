-- The steps that are found are those that the text spells.
use Rattle.std.proofs.Common.{◌≡◌, ℕ, zero, suc, ◌≤◌, List, [], ◌∷◌, length, Option, Some, None}
use Rattle.std.proofs.Common.{refl, sym, ap, subst, ◌∙◌, arith, ◌↔◌}
use Rattle.std.specs.Prelude.{option_map, option_and_then}
use Rattle.data_tree.specs.declared.step.Step.{Step}
use Rattle.json_bridge.specs.Inner.NextStep.{next_step, after_byte}
use Rattle.json_bridge.specs.Path.{dollar, SpellsSteps, SpellsPath}
use Rattle.json_bridge.specs.PathFound.{steps_within, steps_of, path_of}
use Rattle.json_bridge.proofs.Cuts.{some_same, none_some, after_byte_split}
use Rattle.json_bridge.proofs.Next.{found_at_front, spelled_found}
use Rattle.json_bridge.proofs.Unique.{found_shorter}

abbrev more : ℕ → Option (Step × List ℕ) → Option (List Step)
more n o = option_and_then (λ p. option_map (λ steps. p.0 ∷ steps) (steps_within n p.1)) o

cons_found : (step : Step) (o : Option (List Step)) (steps : List Step)
    → option_map (λ later. step ∷ later) o ≡ Some steps
    → (later : List Step) × (o ≡ Some later) × (steps ≡ step ∷ later)
cons_found step None steps e = absurd (none_some steps e)
cons_found step (Some later) steps e = (later, refl, sym (some_same (step ∷ later) steps e))

spelled_next : (n : ℕ) (s : List ℕ) (o : Option (Step × List ℕ)) (steps : List Step)
    → ((rest : List ℕ) (later : List Step) → steps_within n rest ≡ Some later → SpellsSteps rest later)
    → next_step s ≡ o → more n o ≡ Some steps → SpellsSteps s steps
spelled_next n s None steps each at e = absurd (none_some steps e)
spelled_next n s (Some (step, rest)) steps each at e =
    let front = found_at_front s rest step at in
    let found = cons_found step (steps_within n rest) steps e in
    let P : List Step → Type 0 = λ all. SpellsSteps s all in
    subst P (sym found.2) (front.0, rest, front.1, front.2, each rest found.0 found.1)

spelled_within : (n : ℕ) (s : List ℕ) (steps : List Step) → steps_within n s ≡ Some steps
    → SpellsSteps s steps
spelled_within n [] [] e = refl
spelled_within n [] (x ∷ steps) e = cc
spelled_within zero (b ∷ bs) steps e = absurd (none_some steps e)
spelled_within (suc n) (b ∷ bs) steps e =
    spelled_next n (b ∷ bs) (next_step (b ∷ bs)) steps (λ rest later h. spelled_within n rest later h) refl e

found_within : (n : ℕ) (s : List ℕ) (steps : List Step) → SpellsSteps s steps → length s ≤ n
    → steps_within n s ≡ Some steps
found_within n [] [] h le = refl
found_within n (b ∷ bs) [] h le = cc
found_within n [] (x ∷ steps) h le = let f = spelled_found [] x steps h in absurd (none_some (x, f.0) f.1)
found_within zero (b ∷ bs) (x ∷ steps) h le = absurd (omega (arith, le))
found_within (suc n) (b ∷ bs) (x ∷ steps) h le =
    let f = spelled_found (b ∷ bs) x steps h in
    let shorter = found_shorter (b ∷ bs) f.0 x f.1 in
    let later = found_within n f.0 steps f.2 (omega (arith, shorter, le)) in
    ap (more n) f.1 ∙ ap (option_map (λ later. x ∷ later)) later

after_dollar : (o : Option (List ℕ)) (s : List ℕ) (steps : List Step) → after_byte dollar s ≡ o
    → option_and_then steps_of o ≡ Some steps → SpellsPath s steps
after_dollar None s steps at e = absurd (none_some steps e)
after_dollar (Some rest) s steps at e =
    (rest, after_byte_split dollar s rest at, spelled_within (length rest) rest steps e)

pub found_path : (s : List ℕ) (steps : List Step) → SpellsPath s steps → path_of s ≡ Some steps
found_path s steps h =
    ap path_of h.1 ∙ found_within (length h.0) h.0 steps h.2 (omega arith)

pub path_found_is_spelled : (s : List ℕ) (steps : List Step) → (path_of s ≡ Some steps) ↔ SpellsPath s steps
path_found_is_spelled s steps = (after_dollar (after_byte dollar s) s steps refl, found_path s steps)
