-- Which text spells which path: `$`, then steps `.name`, `['text']` and `[n]`. These are notation of JSONPath
-- (RFC 9535, sections 2.2 and 2.3), but `['text']` has no escapes: in `$['a\b']` both bytes `\` and `b` are of the
-- name, where the RFC reads a backspace. Which names may follow a dot is this product's own: `$.0` and `$.b-c` are
-- paths here, and not in the RFC's notation.
use Rattle.std.specs.Prelude.{◌≡◌, ◌⊎◌, ℕ, ◌^◌, ◌<◌, ◌==◌, ◌||◌, not, Bool, IsTrue, List}
use Rattle.std.specs.Prelude.{[], ◌∷◌, ◌++◌, length, decimal}
use Rattle.std.specs.Char.{is_ascii_alphanumeric}
use Rattle.std.specs.List.{list_all}
use Rattle.data_tree.specs.declared.digits.TheConstants.{INDEX_DIGITS}
use Rattle.data_tree.specs.declared.step.Step.{Step}
use Rattle.data_tree.specs.declared.step.Step.TheVariants.{Name, Index}

-- b'$'
abbrev pub dollar : ℕ
dollar = 36

-- b'.'
abbrev pub dot : ℕ
dot = 46

-- b'['
abbrev pub open_bracket : ℕ
open_bracket = 91

-- b']'
abbrev pub close_bracket : ℕ
close_bracket = 93

-- b'\''
abbrev pub quote : ℕ
quote = 39

-- b'_'
abbrev pub underscore : ℕ
underscore = 95

-- b'-'
abbrev pub hyphen : ℕ
hyphen = 45

-- what a step's name is made of after a `.`: an ASCII letter or digit, `_` or `-`
abbrev pub is_step_byte : ℕ → Bool
is_step_byte b = is_ascii_alphanumeric b || (b == underscore) || (b == hyphen)

-- `.name`, with a name of at least one such byte
abbrev pub IsDotted : List ℕ → List ℕ → Type 0
IsDotted name s = (s ≡ dot ∷ name) × (0 < length name) × IsTrue (list_all is_step_byte name)

-- `['text']`, with any text that has no `'`
abbrev pub IsQuoted : List ℕ → List ℕ → Type 0
IsQuoted name s =
    (s ≡ open_bracket ∷ quote ∷ (name ++ quote ∷ close_bracket ∷ []))
    × IsTrue (list_all (λ b. not (b == quote)) name)

-- `[n]`, with a number of nine digits at most, in decimal: no `0` is before another digit
abbrev pub IsIndexed : ℕ → List ℕ → Type 0
IsIndexed n s = (s ≡ open_bracket ∷ (decimal n ++ close_bracket ∷ [])) × (n < 10 ^ INDEX_DIGITS)

abbrev pub SpellsStep : List ℕ → Step → Type 0
SpellsStep s (Name name) = IsDotted name s ⊎ IsQuoted name s
SpellsStep s (Index n) = IsIndexed n s

-- the steps, one after the other
abbrev pub SpellsSteps : List ℕ → List Step → Type 0
SpellsSteps s [] = s ≡ []
SpellsSteps s (step ∷ steps) =
    (first : List ℕ) × (rest : List ℕ) × (s ≡ first ++ rest) × SpellsStep first step × SpellsSteps rest steps

abbrev pub SpellsPath : List ℕ → List Step → Type 0
SpellsPath s steps = (rest : List ℕ) × (s ≡ dollar ∷ rest) × SpellsSteps rest steps

-- the text spells some path
abbrev pub IsPath : List ℕ → Type 0
IsPath s = (steps : List Step) × SpellsPath s steps
