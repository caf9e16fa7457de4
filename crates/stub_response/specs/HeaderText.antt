-- The value of a header as it is sent: only bytes that a field's value may have (RFC 9110, section 5.5).
use Rattle.std.specs.Prelude.{ℕ, List, map, if◌then◌else◌}
use Rattle.http_header.specs.Token.{is_value_byte, space}

-- a control byte other than tab becomes a space
abbrev pub value_byte : ℕ → ℕ
value_byte b = if is_value_byte b then b else space

abbrev pub header_text : List ℕ → List ℕ
header_text bytes = map value_byte bytes
