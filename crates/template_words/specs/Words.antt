-- What a word in a tag is, before it is read as a path.
use Rattle.std.specs.Prelude.{ℕ, ◌+◌, ◌==◌, nat_lt, nat_le, Bool, true, false, ◌&&◌, ◌||◌, List, []}
use Rattle.std.specs.Prelude.{◌∷◌, length, take, drop, Option, Some, None, if◌then◌else◌, codes}
use Rattle.std.specs.List.{list_any}
use Rattle.std.specs.Str.{bytes_eq, all_ascii_digits}
use Rattle.template_words.specs.Bytes.{open_parenthesis, close_parenthesis}
use Rattle.template_words.specs.declared.mode.Mode.{Mode}
use Rattle.template_words.specs.declared.words.TheConstants.{NUMBER_DIGITS}
use Rattle.template_words.specs.Marks.{begins, offset_of}
use Rattle.template_words.specs.Modes.{is_blank, mode_after, is_outside}

abbrev pub is_nil : List ℕ → Bool
is_nil [] = true
is_nil (b ∷ bs) = false

-- white space or a parenthesis
abbrev pub is_break : ℕ → Bool
is_break b = is_blank b || (b == open_parenthesis) || (b == close_parenthesis)

-- a break is outside of literals and brackets
abbrev pub has_break : Mode → List ℕ → Bool
has_break mode [] = false
has_break mode (b ∷ bs) = (is_outside mode && is_break b) || has_break (mode_after mode b) bs

abbrev pub closed_at_end : List ℕ → List ℕ → Option ℕ → Option (List ℕ)
closed_at_end close body None = None
closed_at_end close body (Some n) = if n + length close == length body then Some (take n body) else None

-- the text between an opening mark at the front and the first closing mark after it, which is at the end
abbrev pub enclosed : List ℕ → List ℕ → List ℕ → Option (List ℕ)
enclosed open_mark close text =
    if begins open_mark text
    then closed_at_end close (drop (length open_mark) text) (offset_of close (drop (length open_mark) text))
    else None

abbrev pub is_short_digits : List ℕ → Bool
is_short_digits text = nat_lt 0 (length text) && nat_le (length text) NUMBER_DIGITS && all_ascii_digits text

-- helpers that only other implementations of Handlebars have
abbrev pub is_foreign_helper : List ℕ → Bool
is_foreign_helper text =
    list_any (bytes_eq text)
    (codes "now" ∷ codes "randomValue" ∷ codes "xPath" ∷ codes "math" ∷ codes "lookup" ∷ codes "log" ∷ [])
