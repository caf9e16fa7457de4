-- The address of an upstream: its host names an IP address (RFC 3986, section 3.2.2), or is `localhost`.
use Rattle.std.specs.Prelude.{◌≡◌, ℕ, List, [], ◌∷◌, ◌++◌, ◌⊎◌, codes}
use Rattle.std.specs.Net.Addr.{ipv4_octets}
use Rattle.std.specs.Net.Socket.{socket_ip, socket_port}
use Rattle.std.specs.Net.Grammar.{IsIpv4Text, IsIpv6Text}
use Rattle.std.specs.declared.net.ip_addr.IpAddr.{IpAddr}
use Rattle.std.specs.declared.net.ip_addr.IpAddr.TheVariants.{V4, V6}
use Rattle.std.specs.declared.net.socket_addr.SocketAddr.{SocketAddr}
use Rattle.recorder.specs.Target.{target_host, target_port}

-- `localhost` is the first address of loopback (RFC 6761, section 6.3)
abbrev pub IsIpOf : List ℕ → IpAddr → Type 0
IsIpOf host (V4 a) =
    ((host ≡ codes "localhost") × (ipv4_octets a ≡ 127 ∷ 0 ∷ 0 ∷ 1 ∷ [])) ⊎ IsIpv4Text host a
IsIpOf host (V6 a) = (inner : List ℕ) × (host ≡ codes "[" ++ (inner ++ codes "]")) × IsIpv6Text inner a

pub record IsAddressOf (target : List ℕ) (address : SocketAddr) : Type 0 where
  pub ip : IsIpOf (target_host target) (socket_ip address)
  pub port : socket_port address ≡ target_port target
