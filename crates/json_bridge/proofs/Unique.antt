-- A text spells one list of steps at most, and the pass over the text finds it.
use Rattle.std.proofs.Common.{◌≡◌, ℕ, ◌<◌, List, [], ◌∷◌, ◌++◌, length, Some, None, refl, sym, ap}
use Rattle.std.proofs.Common.{subst, ◌∙◌, arith, append_assoc, append-nil, length-append}
use Rattle.data_tree.specs.declared.step.Step.{Step}
use Rattle.json_bridge.specs.Inner.NextStep.{next_step, after_byte, IsSteps, HasOnlySteps}
use Rattle.json_bridge.specs.Path.{dollar, SpellsSteps, SpellsPath, IsPath}
use Rattle.json_bridge.proofs.Cuts.{some_same, none_some}
use Rattle.json_bridge.proofs.Next.{found_at_front, spelled_found}

found_twice : (s rest more : List ℕ) (a b : Step) → next_step s ≡ Some (a, rest)
    → next_step s ≡ Some (b, more) → (a ≡ b) × (rest ≡ more)
found_twice s rest more a b p q =
    let same = some_same (a, rest) (b, more) (sym p ∙ q) in
    (ap (λ x. x.0) same, ap (λ x. x.1) same)

-- an empty text begins with no step
empty_spells : (s : List ℕ) (step : Step) (steps : List Step) → s ≡ [] → SpellsSteps s (step ∷ steps) → ⊥
empty_spells s step steps e h =
    let found = spelled_found s step steps h in
    none_some (step, found.0) (sym (ap next_step e) ∙ found.1)

pub same_steps : (s : List ℕ) (a b : List Step) → SpellsSteps s a → SpellsSteps s b → a ≡ b
same_steps s [] [] p q = refl
same_steps s [] (y ∷ b) p q = absurd (empty_spells s y b p q)
same_steps s (x ∷ a) [] p q = absurd (empty_spells s x a q p)
same_steps s (x ∷ a) (y ∷ b) p q =
    let f = spelled_found s x a p in
    let g = spelled_found s y b q in
    let same = found_twice s f.0 g.0 x y f.1 g.1 in
    let P : List ℕ → Type 0 = λ z. SpellsSteps z b in
    let later = same_steps f.0 a b f.2 (subst P (sym same.1) g.2) in
    (λ i. same.0 i ∷ later i)

cons_same : (x : ℕ) (a b : List ℕ) → x ∷ a ≡ x ∷ b → a ≡ b
cons_same x a b e = cc

pub one_path : (s : List ℕ) (a b : List Step) → SpellsPath s a → SpellsPath s b → a ≡ b
one_path s a b p q =
    let same = cons_same 36 p.0 q.0 (sym p.1 ∙ q.1) in
    let P : List ℕ → Type 0 = λ z. SpellsSteps z b in
    same_steps p.0 a b p.2 (subst P (sym same) q.2)

-- ---- the pass over a text that may be steps

pub found_shorter : (s rest : List ℕ) (step : Step) → next_step s ≡ Some (step, rest) → length rest < length s
found_shorter s rest step found =
    let at = found_at_front s rest step found in
    omega (arith, at.3, ap length at.1, length-append at.0 rest)

no_more : (s : List ℕ) (more : List Step) → 0 < length s → next_step s ≡ None → SpellsSteps s more → ⊥
no_more s [] some none h = absurd (omega (arith, some, ap length h))
no_more s (x ∷ more) some none h = let f = spelled_found s x more h in none_some (x, f.0) (sym none ∙ f.1)

-- steps of the rest are steps of the whole, with the first one before them
pub steps_onward : (s rest : List ℕ) (step : Step) → next_step s ≡ Some (step, rest)
    → IsSteps rest → IsSteps s
steps_onward s rest step found h =
    let at = found_at_front s rest step found in
    (step ∷ h.0, (at.0, rest, at.1, at.2, h.1))

later_steps : (s rest : List ℕ) (step : Step) (all : List Step) → next_step s ≡ Some (step, rest)
    → SpellsSteps s all → (more : List Step) × (all ≡ step ∷ more) × SpellsSteps rest more
later_steps s rest step [] found h = absurd (none_some (step, rest) (sym (ap next_step h) ∙ found))
later_steps s rest step (x ∷ more) found h =
    let f = spelled_found s x more h in
    let same = found_twice s f.0 rest x step f.1 found in
    let P : List ℕ → Type 0 = λ z. SpellsSteps z more in
    (more, ap (λ y. y ∷ more) same.0, subst P same.1 f.2)

pub steps_back : (s rest : List ℕ) (step : Step) → next_step s ≡ Some (step, rest) → IsSteps s → IsSteps rest
steps_back s rest step found h = let later = later_steps s rest step h.0 found h.1 in (later.0, later.2)

pub no_steps : (s : List ℕ) → 0 < length s → next_step s ≡ None → IsSteps s → ⊥
no_steps s some none h = no_more s h.0 some none h.1

pub steps_end : (s : List ℕ) → length s ≡ 0 → IsSteps s
steps_end [] e = ([], refl)
steps_end (b ∷ s) e = absurd (omega (arith, e))

-- ---- the pass that keeps the steps

-- where the whole is steps, they begin with these, and the rest has the others
abbrev pub BeginsWith : List ℕ → List ℕ → List Step → Type 0
BeginsWith whole rest steps =
    (all : List Step) → SpellsSteps whole all
    → (more : List Step) × (all ≡ steps ++ more) × SpellsSteps rest more

pub begins_here : (s : List ℕ) → BeginsWith s s []
begins_here s = λ all h. (all, refl, h)

begins_onward : (whole s rest : List ℕ) (steps : List Step) (step : Step) → BeginsWith whole s steps
    → next_step s ≡ Some (step, rest) → BeginsWith whole rest (steps ++ step ∷ [])
begins_onward whole s rest steps step h found = λ all spelled.
    let b = h all spelled in
    let later = later_steps s rest step b.0 found b.2 in
    (later.0, b.1 ∙ ap (λ y. steps ++ y) later.1 ∙ sym (append_assoc steps (step ∷ []) later.0), later.2)

pub begins_pushed
    : (whole s rest : List ℕ) (steps pushed : List Step) (step copied : Step) → BeginsWith whole s steps
    → next_step s ≡ Some (step, rest) → copied ≡ step → pushed ≡ steps ++ copied ∷ []
    → BeginsWith whole rest pushed
begins_pushed whole s rest steps pushed step copied h found same is =
    subst (BeginsWith whole rest) (sym (is ∙ ap (λ x. steps ++ x ∷ []) same))
    (begins_onward whole s rest steps step h found)

ends_here : (s : List ℕ) (more : List Step) → next_step s ≡ None → SpellsSteps s more → more ≡ []
ends_here s [] none h = refl
ends_here s (x ∷ more) none h =
    let f = spelled_found s x more h in absurd (none_some (x, f.0) (sym none ∙ f.1))

pub only_these
    : (whole s : List ℕ) (steps made : List Step) → BeginsWith whole s steps → next_step s ≡ None
    → made ≡ steps → HasOnlySteps whole made
only_these whole s steps made h none is = λ all spelled.
    let b = h all spelled in
    b.1 ∙ ap (λ y. steps ++ y) (ends_here s b.0 none b.2) ∙ append-nil steps ∙ sym is

-- ---- paths

pub path_of_steps : (s rest : List ℕ) → s ≡ dollar ∷ rest → IsSteps rest → IsPath s
path_of_steps s rest e h = (h.0, (rest, e, h.1))

pub steps_of_path : (s rest : List ℕ) → s ≡ dollar ∷ rest → IsPath s → IsSteps rest
steps_of_path s rest e h =
    let P : List ℕ → Type 0 = λ z. SpellsSteps z h.0 in
    (h.0, subst P (cons_same dollar h.1.0 rest (sym h.1.1 ∙ e)) h.1.2)

pub path_begins : (s : List ℕ) → IsPath s → after_byte dollar s ≡ None → ⊥
path_begins s h none = none_some h.1.0 (sym none ∙ ap (after_byte dollar) h.1.1)

pub path_found : (s rest : List ℕ) (steps : List Step) → s ≡ dollar ∷ rest → IsPath s
    → HasOnlySteps rest steps → SpellsPath s steps
path_found s rest steps e h only =
    let all = steps_of_path s rest e h in
    (rest, e, subst (SpellsSteps rest) (only all.0 all.1) all.1)

pub path_refused : (s rest : List ℕ) → s ≡ dollar ∷ rest
    → ((all : List Step) → SpellsSteps rest all → ⊥) → (steps : List Step) → SpellsPath s steps → ⊥
path_refused s rest e none steps h =
    let P : List ℕ → Type 0 = λ z. SpellsSteps z steps in
    none steps (subst P (cons_same dollar h.0 rest (sym h.1 ∙ e)) h.2)
