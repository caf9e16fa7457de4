-- Headers that are sent as they are.
use Rattle.std.specs.Prelude.{◌≡◌, ℕ, List, false}
use Rattle.http_header.specs.FieldValue.{FieldValue}
use Rattle.mock_request.specs.ConnectionNames.{is_connection_name}
use Rattle.http_messages.specs.Wire.{without_blanks}

-- it is none of the connection, and its value has no blanks at its ends
pub record IsAsSent (field : List ℕ × FieldValue) : Type 0 where
  pub other : is_connection_name field.0 ≡ false
  pub trimmed : without_blanks field.1.bytes ≡ field.1.bytes
