-- How `http` holds the headers of a reply.
use Rattle.std.specs.Prelude.{Bool, ◌&&◌, List, [], fold, length, if◌then◌else◌, nat_le}
use Rattle.std.specs.List.{list_all}
use Rattle.http_header.specs.FieldValue.{FieldValue, plain_value}
use Rattle.http_header.specs.HeaderMap.{Entries, append}
use Rattle.http_header.specs.Token.{is_value_byte, lowercase}
use Rattle.mapping_model.specs.declared.reply.ReplyHeader.{ReplyHeader}

-- `http` holds names of up to 65,535 bytes, and values without control bytes other than tab (RFC 9110, section 5.5)
abbrev pub is_held : ReplyHeader → Bool
is_held header = nat_le (length header.name) 65535 && list_all is_value_byte header.value

-- one more header, whose name is in lower case there
abbrev pub with_header : Entries FieldValue → ReplyHeader → Entries FieldValue
with_header headers header =
    if is_held header then append headers (lowercase header.name) (plain_value header.value) else headers

abbrev pub headers_of : List ReplyHeader → Entries FieldValue
headers_of headers = fold with_header [] headers
