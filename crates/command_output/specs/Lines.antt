-- The lines that a command writes.
use Rattle.std.specs.Prelude.{ℕ, List, [], ◌∷◌, ◌++◌, codes, decimal, flat_map, Option, None, Some}
use Rattle.error_code.specs.Codes.{number_of, title_of}
use Rattle.error_code.specs.declared.error_code.ErrorCode.{ErrorCode}
use Rattle.command_output.specs.declared.error.CommandError.{CommandError}

-- a comma and a number
abbrev pub next_number : ℕ → List ℕ
next_number n = codes "," ++ decimal n

-- numbers in brackets, as [6,1]
abbrev pub numbers_text : List ℕ → List ℕ
numbers_text [] = codes "[]"
numbers_text (n ∷ ns) = codes "[" ++ (decimal n ++ (flat_map next_number ns ++ codes "]"))

-- how many were taken, and the coefficients of how many are allowed, as `steps 5 of [5]`
abbrev pub measure_line : List ℕ → ℕ → List ℕ → List ℕ
measure_line name taken budget =
    name ++ (codes " " ++ (decimal taken ++ (codes " of " ++ (numbers_text budget ++ codes "\n"))))

-- the byte offset of the error, for an error in a template
abbrev pub offset_text : Option ℕ → List ℕ
offset_text None = []
offset_text (Some at) = codes " at " ++ decimal at

-- as `error 20 at 6: unclosed tag`
abbrev pub error_line : CommandError → List ℕ
error_line e =
    codes "error " ++ (decimal (number_of e.code)
    ++ (offset_text e.at ++ (codes ": " ++ (title_of e.code ++ codes "\n"))))

abbrev pub out_of_memory : CommandError
out_of_memory = record { code = ErrorCode.OutOfMemory; at = None }

abbrev pub not_utf8_line : List ℕ
not_utf8_line = codes "error: the arguments aren't UTF-8\n"

-- the file at the path can't be read, or is too large
abbrev pub unreadable_line : List ℕ → List ℕ
unreadable_line path = codes "error: cannot read " ++ (path ++ codes "\n")
