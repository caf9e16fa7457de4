-- Which arguments of the command line ask for a command that this crate does itself, and which for help by a command of
-- that name. The first of them is the program's name.
use Rattle.std.specs.Prelude.{◌≡◌, ◌⊎◌, ℕ, Bool, true, ◌||◌, List, [], ◌∷◌, codes}
use Rattle.std.specs.Str.{bytes_eq}

abbrev pub is_own : List ℕ → Bool
is_own command =
    bytes_eq command (codes "serve")
    || (bytes_eq command (codes "record") || bytes_eq command (codes "save"))

-- `PROGRAM serve ..` and the like
abbrev pub AskForOwn : List (List ℕ) → Type 0
AskForOwn arguments =
    (program : List ℕ) × (command : List ℕ) × (rest : List (List ℕ)) × (is_own command ≡ true)
    × (arguments ≡ program ∷ command ∷ rest)

-- `PROGRAM help`, or `PROGRAM help COMMAND`
abbrev pub AskToHelp : List (List ℕ) → Type 0
AskToHelp arguments = (program : List ℕ)
    × ((arguments ≡ program ∷ codes "help" ∷ [])
    ⊎ ((command : List ℕ) × (arguments ≡ program ∷ codes "help" ∷ command ∷ [])))
