-- How often a request was forwarded, which a header of this program's own tells.
use Rattle.std.specs.Prelude.{ℕ, ◌-◌, ◌+◌, Bool, List, [], ◌∷◌, nat_le, if◌then◌else◌, codes, decimal}
use Rattle.std.specs.Char.{is_ascii_digit}
use Rattle.std.specs.Str.{bytes_eq}
use Rattle.mock_request.specs.Request.{Header}
use Rattle.recorder.specs.declared.forward_count.TheConstants.{FORWARD_LIMIT}

abbrev pub count_name : List ℕ
count_name = codes "x-mock-forwarded"

-- more than is let through
abbrev pub too_many : ℕ
too_many = 9

-- a digit; what else a client sends is too many
abbrev pub count_of : List ℕ → ℕ
count_of [] = too_many
count_of (b ∷ []) = if is_ascii_digit b then b - 48 else too_many
count_of (b ∷ c ∷ bs) = too_many

-- the first such header tells; without one it comes from a client
abbrev pub forward_count : List Header → ℕ
forward_count [] = 0
forward_count (header ∷ headers) =
    if bytes_eq header.name count_name then count_of header.value else forward_count headers

-- it isn't forwarded once more
abbrev pub is_forwarded_too_often : List Header → Bool
is_forwarded_too_often headers = nat_le FORWARD_LIMIT (forward_count headers)

-- the header of a request that is forwarded once more
abbrev pub count_header : List Header → Header
count_header headers = record { name = count_name; value = decimal (forward_count headers + 1) }
