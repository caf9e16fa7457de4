-- Which word spells which path, by cases (Handlebars' paths with `.`, `..` and `[segment literals]`): as many `../` as
-- it begins with, and the steps that follow. A law says that words are read so.
use Rattle.std.specs.Prelude.{◌≡◌, ◌⊎◌, ℕ, zero, suc, ◌^◌, ◌<◌, ◌==◌, not, false, IsTrue, List, [], ◌∷◌, ◌++◌}
use Rattle.std.specs.Prelude.{Result, Err, decimal, codes}
use Rattle.std.specs.List.{list_all}
use Rattle.data_tree.specs.declared.digits.TheConstants.{INDEX_DIGITS}
use Rattle.data_tree.specs.declared.step.Step.{Step}
use Rattle.data_tree.specs.declared.step.Step.TheVariants.{Name, Index}
use Rattle.template_words.specs.declared.error.TagError.{TagError}
use Rattle.template_words.specs.declared.error.TagError.TheVariants.{BadPath}
use Rattle.template_words.specs.declared.reference.Reference.{Reference}
use Rattle.template_words.specs.Bytes.{dot, open_bracket, close_bracket}
use Rattle.template_words.specs.Marks.{begins}
use Rattle.template_words.specs.Paths.{is_name, unreserved}

-- a name as it is, or any text without `]` between brackets
abbrev pub IsWritten : List ℕ → List ℕ → Type 0
IsWritten name text =
    ((text ≡ name) × IsTrue (is_name name))
    ⊎ ((text ≡ open_bracket ∷ (name ++ close_bracket ∷ []))
    × IsTrue (list_all (λ b. not (b == close_bracket)) name))

-- a number of nine digits at most, in decimal, is an index; no `0` is before another digit
abbrev pub SpellsStep : List ℕ → Step → Type 0
SpellsStep text (Index n) = IsWritten (decimal n) text × (n < 10 ^ INDEX_DIGITS)
SpellsStep text (Name name) = IsWritten name text × ((n : ℕ) → n < 10 ^ INDEX_DIGITS → name ≡ decimal n → ⊥)

-- steps, with a dot between two
abbrev pub SpellsSteps : List ℕ → List Step → Type 0
SpellsSteps text [] = ⊥
SpellsSteps text (step ∷ []) = SpellsStep text step
SpellsSteps text (step ∷ next ∷ steps) =
    (first : List ℕ) × (rest : List ℕ) × (text ≡ first ++ dot ∷ rest) × SpellsStep first step
    × SpellsSteps rest (next ∷ steps)

-- `../`, that many times
abbrev pub climbs : ℕ → List ℕ
climbs zero = []
climbs (suc n) = codes "../" ++ climbs n

-- after the climbs no step: `.`, or `..`, which is a climb, too; or steps that begin with no bracket
abbrev pub SpellsPath : List ℕ → ℕ → List Step → Type 0
SpellsPath text depth steps =
    ((text ≡ climbs depth ++ codes ".") × (steps ≡ []))
    ⊎ ((n : ℕ) × (text ≡ climbs n ++ codes "..") × (depth ≡ suc n) × (steps ≡ []))
    ⊎ ((rest : List ℕ) × (text ≡ climbs depth ++ rest) × SpellsSteps rest steps × (begins (codes "[") rest ≡ false))

-- a word is read as the path that it spells, and is malformed where it spells none
abbrev pub IsReadOf : List ℕ → Result Reference TagError → Type 0
IsReadOf text read =
    ((depth : ℕ) × (steps : List Step) × SpellsPath text depth steps × (read ≡ unreserved depth steps))
    ⊎ (((depth : ℕ) (steps : List Step) → SpellsPath text depth steps → ⊥) × (read ≡ Err BadPath))
