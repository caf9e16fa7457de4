-- Whether a connection to an address comes to the server that listens at another.
use Rattle.std.specs.Prelude.{◌≡◌, ◌≢◌, ◌⊎◌}
use Rattle.std.specs.Net.Addr.{IsCanonicalOf, IsLoopbackV4, IsLoopbackV6, IsUnspecifiedV4, IsUnspecifiedV6, MatchIp}
use Rattle.std.specs.Net.Socket.{socket_ip, socket_port}
use Rattle.std.specs.declared.net.ip_addr.IpAddr.{IpAddr}
use Rattle.std.specs.declared.net.socket_addr.SocketAddr.{SocketAddr}

-- the IPv4 address that an IPv6 address maps, and else the address itself
abbrev pub IsCanonicalIp : IpAddr → IpAddr → Type 0
IsCanonicalIp ip canonical = MatchIp ip (λ _. canonical ≡ ip) (λ a. IsCanonicalOf a canonical)

-- 0.0.0.0 or ::. Who connects there connects to the machine itself, and who listens there listens at all of the
-- machine's addresses.
abbrev pub IsUnspecified : IpAddr → Type 0
IsUnspecified ip = MatchIp ip IsUnspecifiedV4 IsUnspecifiedV6

-- 127.0.0.0/8 or ::1
abbrev pub IsLoopback : IpAddr → Type 0
IsLoopback ip = MatchIp ip IsLoopbackV4 IsLoopbackV6

-- a connection to the first address comes to a server on this machine that listens at the second
abbrev pub ComesTo : IpAddr → IpAddr → Type 0
ComesTo ip own = (ip ≡ own) ⊎ (IsUnspecified ip ⊎ (IsLoopback ip × IsUnspecified own))

-- the server's port, and an address by which connections come to it
abbrev pub IsOwnAddress : SocketAddr → SocketAddr → Type 0
IsOwnAddress own address = (socket_port address ≡ socket_port own)
    × ((ip : IpAddr) × IsCanonicalIp (socket_ip address) ip
    × ((own_ip : IpAddr) × IsCanonicalIp (socket_ip own) own_ip × ComesTo ip own_ip))

-- another port than the server's, or an address by which connections don't come to it
abbrev pub IsElsewhere : SocketAddr → SocketAddr → Type 0
IsElsewhere own address = (socket_port address ≢ socket_port own)
    ⊎ ((ip : IpAddr) × IsCanonicalIp (socket_ip address) ip
    × ((own_ip : IpAddr) × IsCanonicalIp (socket_ip own) own_ip × (¬ (ComesTo ip own_ip))))

-- the ends of a connection that a server which listens at the first address has with itself: they have one address, and
-- the peer has the server's port
abbrev pub AreOwnEnds : SocketAddr → SocketAddr → SocketAddr → Type 0
AreOwnEnds own local peer = (socket_port peer ≡ socket_port own)
    × ((ip : IpAddr) × IsCanonicalIp (socket_ip local) ip × IsCanonicalIp (socket_ip peer) ip)

-- the peer has another port than the server, or the ends have two addresses
abbrev pub AreOtherEnds : SocketAddr → SocketAddr → SocketAddr → Type 0
AreOtherEnds own local peer = (socket_port peer ≢ socket_port own)
    ⊎ ((ip : IpAddr) × IsCanonicalIp (socket_ip local) ip
    × ((peer_ip : IpAddr) × IsCanonicalIp (socket_ip peer) peer_ip × (ip ≢ peer_ip)))
