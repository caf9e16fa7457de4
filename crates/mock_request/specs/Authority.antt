-- The host and the port of an authority, which is the text of a `host` header (RFC 9110, section 7.2) and what a URL
-- has between its scheme and its path (RFC 3986, section 3.2): a host and an optional colon and port. Two things are as
-- this program has them and not as the RFC does: a text whose last colon is followed by no port is a host as a whole
-- (`a:` is the host `a:`, in the RFC `a` with an empty port), and an address in version 6 without brackets is cut as
-- any other text (`::1` is the host `:` and port 1).
use Rattle.std.specs.Prelude.{ℕ, Bool, ◌&&◌, List, length, ◌==◌, nat_lt, nat_le, if◌then◌else◌}
use Rattle.std.specs.List.{before_last, after_last, list_any}
use Rattle.std.specs.Str.{all_ascii_digits}
use Rattle.std.specs.Str.Parse.{digits_value}

-- b':'
abbrev pub colon : ℕ
colon = 58

abbrev pub is_colon : ℕ → Bool
is_colon b = b == colon

-- the port of an authority that names none: HTTP's
abbrev pub default_port : ℕ
default_port = 80

abbrev pub greatest_port : ℕ
greatest_port = 65535

-- the most digits of a port, leading zeros among them
abbrev pub port_digits : ℕ
port_digits = 5

abbrev pub is_port : List ℕ → Bool
is_port bs =
    all_ascii_digits bs && nat_lt 0 (length bs) && nat_le (length bs) port_digits
    && nat_le (digits_value 10 bs) greatest_port

-- a port follows the last colon
abbrev pub has_port : List ℕ → Bool
has_port authority = list_any is_colon authority && is_port (after_last is_colon authority)

-- what is before that colon, or the whole
abbrev pub host_of : List ℕ → List ℕ
host_of authority = if has_port authority then before_last is_colon authority else authority

abbrev pub port_of : List ℕ → ℕ
port_of authority = if has_port authority then digits_value 10 (after_last is_colon authority) else default_port
