-- The arguments that the parser is given for those of the command line, for private contracts.
use Rattle.std.specs.Prelude.{ℕ, Bool, false, not, ◌||◌, if◌then◌else◌, List, [], ◌∷◌, ◌++◌, codes}
use Rattle.std.specs.Str.{bytes_eq}
use Rattle.template_tree.specs.declared.escape.Escape.{Escape}
use Rattle.template_tree.specs.declared.escape.Escape.TheVariants.{Off, Html}

abbrev pub is_flag : List ℕ → Bool
is_flag argument =
    bytes_eq argument (codes "-h")
    || (bytes_eq argument (codes "--help")
    || (bytes_eq argument (codes "--") || bytes_eq argument (codes "--html-escape")))

-- there is a first argument, and it isn't a flag
abbrev pub needs_delimiter : List (List ℕ) → Bool
needs_delimiter [] = false
needs_delimiter (first ∷ rest) = not (is_flag first)

-- the `--` that ends the flags, so that the arguments after it are none
abbrev pub delimiter : List (List ℕ) → List (List ℕ)
delimiter arguments = if needs_delimiter arguments then codes "--" ∷ [] else []

-- the arguments of a command without the flag for escapes before them
abbrev pub unflagged : List (List ℕ) → List (List ℕ)
unflagged [] = []
unflagged (first ∷ rest) = if bytes_eq first (codes "--html-escape") then rest else first ∷ rest

-- whether the flag stands there
abbrev pub escape_before : List (List ℕ) → Escape
escape_before [] = Off
escape_before (first ∷ rest) = if bytes_eq first (codes "--html-escape") then Html else Off

abbrev pub escape_asked : List (List ℕ) → Escape
escape_asked (program ∷ command ∷ rest) = escape_before rest
escape_asked _ = Off

-- the arguments of a command, without that flag and with that delimiter before them
abbrev pub parser_arguments : List (List ℕ) → List (List ℕ)
parser_arguments (program ∷ command ∷ rest) =
    codes "mock" ∷ command ∷ (delimiter (unflagged rest) ++ unflagged rest)
parser_arguments _ = codes "mock" ∷ []
