-- Which content has a transfer coding that isn't known (RFC 9112, section 6.1).
use Rattle.std.specs.Prelude.{◌≡◌, Any, codes, map}
use Rattle.std.specs.Char.{to_ascii_lowercase}
use Rattle.http_header.specs.FieldValue.{FieldValue}
use Rattle.http_header.specs.HeaderMap.{Entries, get_all}

-- a value of `Transfer-Encoding` that is `chunked` alone
abbrev pub IsChunked : FieldValue → Type 0
IsChunked value = map to_ascii_lowercase value.bytes ≡ codes "chunked"

-- the content is in another coding than `chunked`, too
abbrev pub HasOtherCoding : Entries FieldValue → Type 0
HasOtherCoding headers = Any (λ value. ¬ (IsChunked value)) (get_all headers (codes "transfer-encoding"))
