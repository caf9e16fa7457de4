-- For private clauses: the step that a text begins with, and what follows it, as one pass over the text finds them.
use Rattle.std.specs.Prelude.{◌≡◌, ℕ, ◌==◌, nat_lt, List, [], ◌∷◌, length, Option, Some, None}
use Rattle.std.specs.Prelude.{option_map, option_and_then, if◌then◌else◌}
use Rattle.std.specs.Option.{option_map_or}
use denote.Ref.{Bor}
use Rattle.data_tree.specs.Digits.{index_of}
use Rattle.data_tree.specs.declared.step.Step.{Step}
use Rattle.data_tree.specs.declared.step.Step.TheVariants.{Name, Index}
use Rattle.json_bridge.specs.declared.next_step.StepText.{StepText}
use Rattle.json_bridge.specs.declared.next_step.StepText.TheVariants as texts
use Rattle.json_bridge.specs.Path.{dot, open_bracket, close_bracket, quote, is_step_byte, SpellsSteps}

-- the name bytes at the front, and what follows them
abbrev pub name_at : List ℕ → List ℕ
name_at [] = []
name_at (b ∷ bs) = if is_step_byte b then b ∷ name_at bs else []

abbrev pub after_name : List ℕ → List ℕ
after_name [] = []
after_name (b ∷ bs) = if is_step_byte b then after_name bs else b ∷ bs

-- what is before the first such byte, and what follows it
abbrev pub cut_at : ℕ → List ℕ → Option (List ℕ × List ℕ)
cut_at c [] = None
cut_at c (b ∷ bs) = if b == c then Some ([], bs) else option_map (λ p. (b ∷ p.0, p.1)) (cut_at c bs)

-- what follows that byte, where it is the first
abbrev pub after_byte : ℕ → List ℕ → Option (List ℕ)
after_byte c [] = None
after_byte c (b ∷ bs) = if b == c then Some bs else None

-- after a `.`
abbrev pub dotted : List ℕ → Option (Step × List ℕ)
dotted s = if nat_lt 0 (length (name_at s)) then Some (Name (name_at s), after_name s) else None

-- after a `['`
abbrev pub quoted : List ℕ → Option (Step × List ℕ)
quoted s = option_and_then
    (λ p. option_map (λ rest. (Name p.0, rest)) (after_byte close_bracket p.1)) (cut_at quote s)

abbrev pub index_before : List ℕ × List ℕ → Option (Step × List ℕ)
index_before p = option_map (λ n. (Index n, p.1)) (index_of p.0)

abbrev pub indexed : List ℕ → Option (Step × List ℕ)
indexed s = option_and_then index_before (cut_at close_bracket s)

-- after a `[`
abbrev pub bracketed : List ℕ → Option (Step × List ℕ)
bracketed s = option_map_or quoted (after_byte quote s) (indexed s)

abbrev pub next_step : List ℕ → Option (Step × List ℕ)
next_step s = option_map_or dotted (after_byte dot s) (option_map_or bracketed (after_byte open_bracket s) None)

-- the text is steps to its end
abbrev pub IsSteps : List ℕ → Type 0
IsSteps s = (steps : List Step) × SpellsSteps s steps

-- if the text is steps to its end, it is these
abbrev pub HasOnlySteps : List ℕ → List Step → Type 0
HasOnlySteps s steps = (all : List Step) → SpellsSteps s all → all ≡ steps

-- ---- the views of parts of a text

abbrev pub step_view : StepText → Step
step_view (texts.Name name) = Name name.now
step_view (texts.Index n) = Index n

abbrev pub part_view : Option (Bor (List ℕ)) → Option (List ℕ)
part_view = option_map (λ x. x.now)

abbrev pub parts_view : Option (Bor (List ℕ) × Bor (List ℕ)) → Option (List ℕ × List ℕ)
parts_view = option_map (λ x. (x.0.now, x.1.now))

abbrev pub found_view : Option (StepText × Bor (List ℕ)) → Option (Step × List ℕ)
found_view = option_map (λ x. (step_view x.0, x.1.now))
