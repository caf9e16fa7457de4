-- The cookies that the `cookie` headers of a request bring (RFC 6265, section 4.2.1, read leniently: any piece with
-- a name and an equals sign is a cookie).
use Rattle.std.specs.Prelude.{ℕ, Bool, ◌&&◌, List, [], ◌∷◌, reverse, length, Option, None, Some, ◌==◌}
use Rattle.std.specs.Prelude.{nat_lt, if◌then◌else◌, codes}
use Rattle.std.specs.List.{before_first, after_first, slice_split, list_any, filter_map, flat_map}
use Rattle.mock_request.specs.Request.{Header}
use Rattle.mock_request.specs.HeaderFields.{texts_of}

-- b' '
abbrev pub space : ℕ
space = 32

-- b';'
abbrev pub semicolon : ℕ
semicolon = 59

-- b'='
abbrev pub equals_sign : ℕ
equals_sign = 61

abbrev pub is_semicolon : ℕ → Bool
is_semicolon b = b == semicolon

abbrev pub is_equals_sign : ℕ → Bool
is_equals_sign b = b == equals_sign

abbrev pub without_leading_spaces : List ℕ → List ℕ
without_leading_spaces [] = []
without_leading_spaces (b ∷ bs) = if b == space then without_leading_spaces bs else b ∷ bs

-- without the spaces at both ends; other white space stays
abbrev pub without_spaces_around : List ℕ → List ℕ
without_spaces_around piece = reverse (without_leading_spaces (reverse (without_leading_spaces piece)))

-- a name and a value on the two sides of the first `=`; without one, or with no name, it is no cookie
abbrev pub cookie_in : List ℕ → Option (List ℕ × List ℕ)
cookie_in piece =
    if list_any is_equals_sign piece && nat_lt 0 (length (before_first is_equals_sign piece))
    then Some (before_first is_equals_sign piece, after_first is_equals_sign piece) else None

-- the cookies between the semicolons of a header's text
abbrev pub cookies_in : List ℕ → List (List ℕ × List ℕ)
cookies_in text = filter_map (λ piece. cookie_in (without_spaces_around piece)) (slice_split is_semicolon text)

-- those of all `cookie` headers, in order
abbrev pub cookie_pairs : List Header → List (List ℕ × List ℕ)
cookie_pairs headers = flat_map cookies_in (texts_of (codes "cookie") headers)
