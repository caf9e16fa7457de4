-- The names of the headers that say how a message is framed, or what else holds of its connection alone (RFC 9112,
-- sections 6 and 9.6; RFC 9110, section 7.6.1): they aren't those of who wrote the message.
use Rattle.std.specs.Prelude.{ℕ, Bool, List, [], ◌∷◌, codes, bytes_eq}
use Rattle.std.specs.List.{list_any}

abbrev pub connection_names : List (List ℕ)
connection_names =
    codes "content-length" ∷ codes "transfer-encoding" ∷ codes "connection" ∷ codes "keep-alive"
    ∷ codes "proxy-connection" ∷ codes "te" ∷ codes "trailer" ∷ codes "upgrade" ∷ []

-- names have lower case
abbrev pub is_connection_name : List ℕ → Bool
is_connection_name name = list_any (bytes_eq name) connection_names
