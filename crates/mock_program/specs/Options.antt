-- The options of `answer` and `explain`: they may stand anywhere after the command's name and before a `--`. The value
-- of an option is the next argument, or stands in the same one after a `=`. What is left is the command with its other
-- arguments.
use Rattle.std.specs.Prelude.{ℕ, Bool, List, [], ◌∷◌, ◌++◌, Option, None, Some, codes, ◌||◌, if◌then◌else◌}
use Rattle.std.specs.Str.{bytes_eq}
use Rattle.clap.specs.Lexer.{name_and_value}
use Rattle.mock_program.specs.declared.options.GivenOption.{GivenOption}

abbrev pub takes_options : List ℕ → Bool
takes_options command = bytes_eq command (codes "answer") || bytes_eq command (codes "explain")

-- an option without a value, and one with a value
abbrev pub is_switch : List ℕ → Bool
is_switch argument = bytes_eq argument (codes "--json")

abbrev pub is_option : List ℕ → Bool
is_option argument =
    bytes_eq argument (codes "--header")
    || (bytes_eq argument (codes "--body")
    || (bytes_eq argument (codes "--body-file") || bytes_eq argument (codes "--state")))

-- The option and its value, of an argument that has both, as `--body=x`. The value begins after the first `=`.
abbrev pub joined_parts : List ℕ × Option (List ℕ) → Option (List ℕ × List ℕ)
joined_parts (name, None) = None
joined_parts (name, Some value) = if is_option name then Some (name, value) else None

unfoldable pub joined : List ℕ → Option (List ℕ × List ℕ)
joined argument = joined_parts (name_and_value argument)

-- such an option; and the argument, where it is none
abbrev pub as_option : Option (List ℕ × List ℕ) → List (List ℕ × List ℕ)
as_option None = []
as_option (Some given) = given ∷ []

abbrev pub as_word : Option (List ℕ × List ℕ) → List ℕ → List (List ℕ)
as_word None argument = argument ∷ []
as_word (Some given) argument = []

-- The options among arguments, with their values, which of a switch are empty. Before the arguments there may be the
-- name of an option whose value is next; where there is none, it is no option.
abbrev pub options_in : Option (List ℕ) → List (List ℕ) → List (List ℕ × List ℕ)
options_in None [] = []
options_in (Some name) [] = []
options_in (Some name) (value ∷ rest) = (name, value) ∷ options_in None rest
options_in None (argument ∷ rest) =
    if bytes_eq argument (codes "--") then []
    else (if is_switch argument then (argument, []) ∷ options_in None rest
    else (if is_option argument then options_in (Some argument) rest
    else as_option (joined argument) ++ options_in None rest))

-- the other arguments
abbrev pub words_in : Option (List ℕ) → List (List ℕ) → List (List ℕ)
words_in None [] = []
words_in (Some name) [] = name ∷ []
words_in (Some name) (value ∷ rest) = words_in None rest
words_in None (argument ∷ rest) =
    if bytes_eq argument (codes "--") then argument ∷ rest
    else (if is_switch argument then words_in None rest
    else (if is_option argument then words_in (Some argument) rest
    else as_word (joined argument) argument ++ words_in None rest))

-- the same of the whole command line, whose first argument is the program's name
abbrev pub options_of : List (List ℕ) → List (List ℕ × List ℕ)
options_of (program ∷ command ∷ rest) = if takes_options command then options_in None rest else []
options_of _ = []

abbrev pub words_of : List (List ℕ) → List (List ℕ)
words_of (program ∷ command ∷ rest) =
    program ∷ command ∷ (if takes_options command then words_in None rest else rest)
words_of arguments = arguments

abbrev pub given_of : GivenOption → List ℕ × List ℕ
given_of given = (given.name.now, given.value.now)
