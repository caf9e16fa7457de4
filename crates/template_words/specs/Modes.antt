-- Which bytes of a tag are in literals, in brackets or outside of both (Handlebars' literals and segment literals).
-- A quote opens a literal only right after white space, `(` or the opening mark, and not between `[` and `]`.
use Rattle.std.specs.Prelude.{ℕ, ◌==◌, Bool, true, false, ◌||◌, List, [], ◌∷◌, if◌then◌else◌}
use Rattle.template_words.specs.Bytes.{tab, line_feed, carriage_return, space, double_quote, single_quote}
use Rattle.template_words.specs.Bytes.{open_parenthesis, open_bracket, close_bracket}
use Rattle.template_words.specs.declared.mode.Mode.{Mode}
use Rattle.template_words.specs.declared.mode.Mode.TheVariants.{Start, Word, Bracket, Literal}

-- white space
abbrev pub is_blank : ℕ → Bool
is_blank b = (b == space) || (b == tab) || (b == line_feed) || (b == carriage_return)

abbrev pub is_quote : ℕ → Bool
is_quote b = (b == double_quote) || (b == single_quote)

-- the mode after a byte that opens or closes no literal and closes no bracket
abbrev pub mode_of_byte : ℕ → Mode
mode_of_byte b = if b == open_bracket then Bracket else if is_blank b || (b == open_parenthesis) then Start else Word

abbrev pub mode_after : Mode → ℕ → Mode
mode_after Start b = if is_quote b then Literal b else mode_of_byte b
mode_after Word b = mode_of_byte b
mode_after Bracket b = if b == close_bracket then Word else Bracket
mode_after (Literal quote) b = if b == quote then Word else Literal quote

-- the mode after the bytes of a tag
abbrev pub mode_after_bytes : Mode → List ℕ → Mode
mode_after_bytes mode [] = mode
mode_after_bytes mode (b ∷ bs) = mode_after_bytes (mode_after mode b) bs

abbrev pub is_literal : Mode → Bool
is_literal Start = false
is_literal Word = false
is_literal Bracket = false
is_literal (Literal quote) = true

-- outside of literals and brackets
abbrev pub is_outside : Mode → Bool
is_outside Start = true
is_outside Word = true
is_outside Bracket = false
is_outside (Literal quote) = false
