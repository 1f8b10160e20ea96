-- The address at which a page is served.
use Rattle.std.specs.Prelude.{◌≡◌, [], ◌∷◌}
use Rattle.std.specs.declared.net.socket_addr.SocketAddrV4.{SocketAddrV4}
use Rattle.std.specs.Net.Addr.{ipv4_octets}
use Rattle.std.specs.Net.Socket.{v4_ip}

-- The IP address is 127.0.0.1, which only this machine reaches.
abbrev pub IsLoopback : SocketAddrV4 → Type 0
IsLoopback a = ipv4_octets (v4_ip a) ≡ 127 ∷ 0 ∷ 0 ∷ 1 ∷ []
