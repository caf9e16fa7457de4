-- Whether the arguments ask for a command of this crate, or for help, for private contracts.
use Rattle.std.specs.Prelude.{ℕ, Bool, false, List, [], ◌∷◌, codes}
use Rattle.std.specs.Str.{bytes_eq}
use Rattle.mock.specs.CommandLine.{is_own}

abbrev pub ask_for_own : List (List ℕ) → Bool
ask_for_own (program ∷ command ∷ rest) = is_own command
ask_for_own _ = false

abbrev pub ask_to_help : List (List ℕ) → Bool
ask_to_help (program ∷ command ∷ []) = bytes_eq command (codes "help")
ask_to_help (program ∷ command ∷ name ∷ []) = bytes_eq command (codes "help")
ask_to_help _ = false
