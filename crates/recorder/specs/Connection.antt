-- The headers of a message that belong to its connection alone (RFC 9110, section 7.6.1; RFC 9112, section 6).
use Rattle.std.specs.Prelude.{ℕ, Bool, ◌&&◌, ◌||◌, ◌==◌, List, codes}
use Rattle.std.specs.List.{list_any, slice_split}
use Rattle.std.specs.Str.{bytes_eq, str_eq_ignore_ascii_case}
use Rattle.mock_request.specs.ConnectionNames.{is_connection_name}
use Rattle.mock_request.specs.Request.{Header}

-- a comma, a space or a tab
abbrev pub is_between_options : ℕ → Bool
is_between_options b = b == 44 || (b == 32 || b == 9)

-- The options in a value of `connection`. What is empty is none: no header has that name.
abbrev pub connection_options : List ℕ → List (List ℕ)
connection_options value = slice_split is_between_options value

-- an option is the header's name, which has no case
abbrev pub has_option : List ℕ → List ℕ → Bool
has_option name value = list_any (str_eq_ignore_ascii_case name) (connection_options value)

-- the header is a `connection` header that names another one
abbrev pub is_naming : List ℕ → Header → Bool
is_naming name header = bytes_eq header.name (codes "connection") && has_option name header.value

-- a `connection` header of the message names the header
abbrev pub is_named_by_connection : List Header → List ℕ → Bool
is_named_by_connection headers name = list_any (is_naming name) headers

-- it belongs to the connection of the message with these headers
abbrev pub is_of_connection : List Header → List ℕ → Bool
is_of_connection headers name = is_connection_name name || is_named_by_connection headers name
