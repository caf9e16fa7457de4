-- Queries, headers, cookies and authorities that the definitions read as the standards and the documents say.
use Rattle.std.proofs.Common.{◌≡◌, ℕ, List, [], ◌∷◌, refl, codes}
use Rattle.std.specs.Str.{is_utf8, chars}
use Rattle.std.specs.Str.Lossy.{utf8_lossy, utf8_valid_len, utf8_error_len}
use Rattle.std.proofs.Math.Utf8.{encode}
use Rattle.form_urlencoded.proofs.OnLiterals.{form_urlencoded_on_literals}
use Rattle.mock_request.specs.Request.{Header}
use Rattle.mock_request.specs.Values.{values_of}
use Rattle.mock_request.specs.Query.{query_pairs}
use Rattle.mock_request.specs.Cookies.{cookies_in, cookie_pairs}
use Rattle.mock_request.specs.Authority.{host_of, port_of}

-- ---- names and values by name

two_values
    : values_of (codes "q") ((codes "q", codes "a") ∷ (codes "p", codes "x") ∷ (codes "q", codes "b") ∷ [])
    ≡ codes "a" ∷ codes "b" ∷ []
two_values = refl

-- ---- queries

query_twice : query_pairs (codes "/?q=a&q=b") ≡ (codes "q", codes "a") ∷ (codes "q", codes "b") ∷ []
unfolding form_urlencoded_on_literals utf8_lossy utf8_valid_len is_utf8 chars encode
query_twice = refl

query_decoded : query_pairs (codes "/?q=a%20b/") ≡ (codes "q", codes "a b/") ∷ []
unfolding form_urlencoded_on_literals utf8_lossy utf8_valid_len is_utf8 chars encode
query_decoded = refl

-- empty pieces are no pairs; a name may lack a value, and a value a name
query_odd
    : query_pairs (codes "/??&&=v&a+b&c=d=e")
    ≡ (codes "?", []) ∷ ([], codes "v") ∷ (codes "a b", []) ∷ (codes "c", codes "d=e") ∷ []
unfolding form_urlencoded_on_literals utf8_lossy utf8_valid_len is_utf8 chars encode
query_odd = refl

no_query : query_pairs (codes "/a%3Fq=1") ≡ []
no_query = refl

-- ---- bytes that aren't UTF-8

bad_byte : utf8_lossy (97 ∷ 255 ∷ 98 ∷ []) ≡ 97 ∷ 0xEF ∷ 0xBF ∷ 0xBD ∷ 98 ∷ []
unfolding utf8_lossy utf8_valid_len utf8_error_len is_utf8 chars encode
bad_byte = refl

-- ---- cookies

cookies_of_a_header : cookies_in (codes "a=1; b=2;;=3; c") ≡ (codes "a", codes "1") ∷ (codes "b", codes "2") ∷ []
cookies_of_a_header = refl

-- spaces round the piece alone, no tab, and the first equals sign
cookie_cut : cookies_in (codes "  a = 1=2  ;\tb=3") ≡ (codes "a ", codes " 1=2") ∷ (codes "\tb", codes "3") ∷ []
cookie_cut = refl

abbrev host_and_cookies : List Header
host_and_cookies =
    record { name = codes "cookie"; value = codes "a=1" } ∷ record { name = codes "host"; value = codes "h:81" }
    ∷ record { name = codes "cookie"; value = codes "b=2;a=3" }
    ∷ record { name = codes "host"; value = codes "i" } ∷ []

cookies_of_all_headers
    : cookie_pairs host_and_cookies
    ≡ (codes "a", codes "1") ∷ (codes "b", codes "2") ∷ (codes "a", codes "3") ∷ []
unfolding utf8_lossy utf8_valid_len is_utf8 chars encode
cookies_of_all_headers = refl

-- ---- host and port

-- what an authority names
abbrev named_by : List ℕ → List ℕ × ℕ
named_by authority = (host_of authority, port_of authority)

host_with_port : named_by (codes "a:80") ≡ (codes "a", 80)
host_with_port = refl

port_too_large : named_by (codes "a:65536") ≡ (codes "a:65536", 80)
port_too_large = refl

greatest_port : named_by (codes "a:65535") ≡ (codes "a", 65535)
greatest_port = refl

address_with_port : named_by (codes "[::1]:8080") ≡ (codes "[::1]", 8080)
address_with_port = refl

-- an IPv6 address without its brackets: its last colon counts as any other
bare_address : named_by (codes "::1") ≡ (codes ":", 1)
bare_address = refl

no_digits : named_by (codes "a:") ≡ (codes "a:", 80)
no_digits = refl

leading_zeros : named_by (codes "a:00081") ≡ (codes "a", 81)
leading_zeros = refl

six_digits : named_by (codes "a:000081") ≡ (codes "a:000081", 80)
six_digits = refl

no_colon : named_by (codes "a") ≡ (codes "a", 80)
no_colon = refl

nothing_named : named_by [] ≡ ([], 80)
nothing_named = refl
