-- Which texts are targets of a recording: `http://host[:port][/prefix]` (RFC 9112, section 3.2.2; the host as in RFC
-- 3986, section 3.2.2, an IP address or the name `localhost`).
use Rattle.std.specs.Prelude.{◌≡◌, ℕ, Bool, true, not, ◌&&◌, List, [], ◌∷◌, ◌++◌, ◌⊎◌}
use Rattle.std.specs.Prelude.{length, drop, ◌==◌, nat_lt, if◌then◌else◌, codes}
use Rattle.std.specs.List.{before_first, after_first, list_all}
use Rattle.std.specs.Net.Grammar.{IsIpv4Text, IsIpv6Text}
use Rattle.std.specs.declared.net.ipv4_addr.Ipv4Addr.{Ipv4Addr}
use Rattle.std.specs.declared.net.ipv6_addr.Ipv6Addr.{Ipv6Addr}
use Rattle.mock_request.specs.Authority.{host_of, port_of}

-- b'/'
abbrev pub is_slash : ℕ → Bool
is_slash b = b == 47

abbrev pub scheme : List ℕ
scheme = codes "http://"

-- what is after as many bytes as the scheme has
abbrev pub after_scheme : List ℕ → List ℕ
after_scheme text = drop 7 text

-- up to the first slash
abbrev pub authority_of : List ℕ → List ℕ
authority_of rest = before_first is_slash rest

-- after that slash
abbrev pub prefix_of : List ℕ → List ℕ
prefix_of rest = after_first is_slash rest

-- from that slash on
abbrev pub path_of : List ℕ → List ℕ
path_of rest = drop (length (authority_of rest)) rest

-- an address in version 6, in brackets
abbrev pub IsBracketed : List ℕ → Type 0
IsBracketed host = (inner : List ℕ) × (a : Ipv6Addr) × (host ≡ codes "[" ++ (inner ++ codes "]"))
    × IsIpv6Text inner a

abbrev pub IsHost : List ℕ → Type 0
IsHost host = (host ≡ codes "localhost") ⊎ (((a : Ipv4Addr) × IsIpv4Text host a) ⊎ IsBracketed host)

-- visible ASCII, and neither `?` nor `#`
abbrev pub is_prefix_byte : ℕ → Bool
is_prefix_byte b = nat_lt 32 b && nat_lt b 127 && not (b == 63) && not (b == 35)

-- the text is `http://`, a host, perhaps a colon and a port, and perhaps a slash and a prefix
pub record IsTarget (text : List ℕ) : Type 0 where
  pub spelled : text ≡ scheme ++ after_scheme text
  pub host : IsHost (host_of (authority_of (after_scheme text)))
  pub prefix : list_all is_prefix_byte (prefix_of (after_scheme text)) ≡ true

-- a slash at the end is left out
abbrev pub without_last_slash : List ℕ → List ℕ
without_last_slash [] = []
without_last_slash (b ∷ []) = if is_slash b then [] else b ∷ []
without_last_slash (b ∷ c ∷ cs) = b ∷ without_last_slash (c ∷ cs)

-- the parts of a target
abbrev pub target_host : List ℕ → List ℕ
target_host text = host_of (authority_of (after_scheme text))

abbrev pub target_port : List ℕ → ℕ
target_port text = port_of (authority_of (after_scheme text))

-- from the slash after the host and port on, but without a slash at the end
abbrev pub target_prefix : List ℕ → List ℕ
target_prefix text = without_last_slash (path_of (after_scheme text))
