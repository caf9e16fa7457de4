-- Path templates (WireMock's documentation, "Request Matching", path templates): paths with names in braces.
use Rattle.std.specs.Prelude.{◌≢◌, ℕ, Bool, true, false, List, [], ◌∷◌, ◌++◌, ◌||◌, ◌&&◌, Option, None, Some, ◌==◌}
use Rattle.std.specs.Prelude.{if◌then◌else◌, map, take, drop, length, ◌-◌, Contains, AllPairs}
use Rattle.std.specs.Char.{is_ascii_alphanumeric}
use Rattle.std.specs.List.{list_all}
use Rattle.std.specs.Option.{option_map_or}
use Rattle.std.specs.Str.{bytes_eq}
use Rattle.mock_request.specs.Target.{question_mark, IsRooted}
use Rattle.mock_request.specs.Url.{segments_of}

-- a segment of a template: the bytes that it equals, or the name that it binds
pub data Piece : Type 0 where
  Literal : List ℕ → Piece
  Named : List ℕ → Piece

-- b'{'
abbrev pub opening_brace : ℕ
opening_brace = 123

-- b'}'
abbrev pub closing_brace : ℕ
closing_brace = 125

-- what a parameter's name is made of: an ASCII letter or digit, `_` or `-`
abbrev pub is_parameter_byte : ℕ → Bool
is_parameter_byte b = is_ascii_alphanumeric b || ((b == 95) || (b == 45))

abbrev pub is_not_empty : List ℕ → Bool
is_not_empty [] = false
is_not_empty (b ∷ bs) = true

-- not empty, and of such bytes alone
abbrev pub is_name : List ℕ → Bool
is_name text = is_not_empty text && list_all is_parameter_byte text

abbrev pub braced : List ℕ → List ℕ
braced name = opening_brace ∷ (name ++ closing_brace ∷ [])

-- what is between the first byte and the last
abbrev pub inner : List ℕ → List ℕ
inner segment = take (length segment - 2) (drop 1 segment)

-- the name of a segment that is a name in braces
abbrev pub name_in : List ℕ → Option (List ℕ)
name_in segment =
    if is_name (inner segment) && bytes_eq segment (braced (inner segment)) then Some (inner segment) else None

abbrev pub piece_of : List ℕ → Piece
piece_of segment = option_map_or Named (name_in segment) (Literal segment)

abbrev pub pieces_of : List ℕ → List Piece
pieces_of text = map piece_of (segments_of text)

-- the names that pieces bind, in their order
abbrev pub names_of : List Piece → List (List ℕ)
names_of [] = []
names_of (Literal bytes ∷ pieces) = names_of pieces
names_of (Named name ∷ pieces) = name ∷ names_of pieces

-- a path, with no question mark, whose names are distinct
pub record IsTemplate (text : List ℕ) : Type 0 where
  pub rooted : IsRooted text
  pub no_query : ¬ (Contains text question_mark)
  pub distinct : AllPairs (λ one other. one ≢ other) (names_of (pieces_of text))
