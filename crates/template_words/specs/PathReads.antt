-- What a word is read as, as a function of it: a law says that this is what `Spelled` says.
use Rattle.std.specs.Prelude.{ℕ, ◌+◌, false, List, [], ◌∷◌, Option, Some, None, Result, Ok, Err, if◌then◌else◌, codes}
use Rattle.std.specs.Str.{bytes_eq}
use Rattle.data_tree.specs.declared.step.Step.{Step}
use Rattle.template_words.specs.declared.error.TagError.{TagError}
use Rattle.template_words.specs.declared.error.TagError.TheVariants.{BadPath}
use Rattle.template_words.specs.declared.reference.Reference.{Reference}
use Rattle.template_words.specs.declared.reference.Reference.TheVariants.{Item}
use Rattle.template_words.specs.Marks.{begins}
use Rattle.template_words.specs.Paths.{is_name, step_named, dotted_parts, unreserved}
use Rattle.template_words.specs.Reading.{◌>>=◌}
use Rattle.template_words.specs.Words.{enclosed}

abbrev pub name_step : List ℕ → Result Step TagError
name_step text = if is_name text then Ok (step_named text) else Err BadPath

abbrev pub bracketed_step : List ℕ → Option (List ℕ) → Result Step TagError
bracketed_step text None = name_step text
bracketed_step text (Some inner) = Ok (step_named inner)

-- a name, or any text without `]` in brackets
unfoldable pub step_of : List ℕ → Result Step TagError
step_of text = bracketed_step text (enclosed (codes "[") (codes "]") text)

-- each part as a step
abbrev pub all_steps : List (List ℕ) → Result (List Step) TagError
all_steps [] = Ok []
all_steps (part ∷ parts) = step_of part >>= λ step. all_steps parts >>= λ steps. Ok (step ∷ steps)

-- what the rest of a word, after `depth` times `../`, refers to
abbrev pub reference_below : ℕ → List ℕ → Result Reference TagError
reference_below depth text =
    if bytes_eq text (codes ".") then Ok (Item depth [])
    else if bytes_eq text (codes "..") then Ok (Item (depth + 1) [])
    else if begins (codes "[") text then Err BadPath
    else (all_steps (dotted_parts false text) >>= unreserved depth)

-- what a word refers to that comes after `depth` times `../`
unfoldable pub reference_from : ℕ → List ℕ → Result Reference TagError
reference_from depth [] = reference_below depth []
reference_from depth (a ∷ []) = reference_below depth (a ∷ [])
reference_from depth (a ∷ b ∷ []) = reference_below depth (a ∷ b ∷ [])
reference_from depth (a ∷ b ∷ c ∷ text) =
    if begins (codes "../") (a ∷ b ∷ c ∷ text) then reference_from (depth + 1) text
    else reference_below depth (a ∷ b ∷ c ∷ text)

abbrev pub reference_of : List ℕ → Result Reference TagError
reference_of text = reference_from 0 text
