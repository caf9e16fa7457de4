-- Which text of decimal digits spells which index.
use Rattle.std.specs.Prelude.{ℕ, ◌==◌, nat_lt, nat_le, Bool, ◌&&◌, ◌||◌, not, List, length, slice_index}
use Rattle.std.specs.Prelude.{Option, Some, None, if◌then◌else◌}
use Rattle.std.specs.Str.{all_ascii_digits}
use Rattle.std.specs.Str.Parse.{digits_value}
use Rattle.data_tree.specs.declared.digits.TheConstants.{INDEX_DIGITS}

-- the byte `0`
abbrev pub zero_digit : ℕ
zero_digit = 48

-- `0`, or one to nine digits of which the first isn't `0`
abbrev pub is_index : List ℕ → Bool
is_index text = nat_lt 0 (length text) && nat_le (length text) INDEX_DIGITS && all_ascii_digits text
    && ((length text == 1) || not (slice_index text 0 == zero_digit))

-- its number
abbrev pub index_of : List ℕ → Option ℕ
index_of text = if is_index text then Some (digits_value 10 text) else None
