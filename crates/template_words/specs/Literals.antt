-- Which word is which literal (Handlebars' string, number and boolean literals).
use Rattle.std.specs.Prelude.{ℕ, ℤ, pos, neg_ℤ, Bool, true, false, List, drop, Option, Some, None, option_map}
use Rattle.std.specs.Prelude.{codes, if◌then◌else◌}
use Rattle.std.specs.Option.{option_or}
use Rattle.std.specs.Str.{bytes_eq}
use Rattle.std.specs.Str.Parse.{digits_value}
use Rattle.template_words.specs.Marks.{begins}
use Rattle.template_words.specs.Words.{enclosed, is_short_digits}

-- what is between two `"` or two `'`, as it is: there are no escapes
abbrev pub text_literal : List ℕ → Option (List ℕ)
text_literal text = option_or (enclosed (codes "\"") (codes "\"") text) (enclosed (codes "'") (codes "'") text)

abbrev pub short_number : List ℕ → Option ℕ
short_number text = if is_short_digits text then Some (digits_value 10 text) else None

abbrev pub negative : ℕ → ℤ
negative n = neg_ℤ (pos n)

-- a whole number of at most 18 digits, in decimal, with a minus before it or not
abbrev pub whole_number : List ℕ → Option ℤ
whole_number text =
    if begins (codes "-") text then option_map negative (short_number (drop 1 text))
    else option_map pos (short_number text)

abbrev pub truth_literal : List ℕ → Option Bool
truth_literal text =
    if bytes_eq text (codes "true") then Some true
    else if bytes_eq text (codes "false") then Some false
    else None
