-- How much the headers and the path template of a request count for the bound on its data, in bytes.
use Rattle.std.specs.Prelude.{ℕ, ◌+◌, ◌*◌, List, length, Option, None, Some, if◌then◌else◌, codes}
use Rattle.std.specs.Str.{bytes_eq}
use Rattle.mock_request.specs.Request.{Header}

-- the name and the value; the value of a `cookie` header counts three times, since its cookies are in the data too
abbrev pub header_weight : Header → ℕ
header_weight header =
    length header.name
    + (if bytes_eq header.name (codes "cookie") then 3 * length header.value else length header.value)

abbrev pub template_len : Option (List ℕ) → ℕ
template_len None = 0
template_len (Some template) = length template
