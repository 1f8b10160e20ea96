-- Values of --link as links.
use Rattle.std.specs.Prelude.{◌≡◌, ℕ, ◌<◌, ◌≤◌, ◌⊎◌, List, [], ◌∷◌, ◌++◌, length, slice_index, true}
use Rattle.std.specs.List.{All, AllPairs, AllZip, Contains, slice_index_or}
use Rattle.std.specs.Net.Addr.{ipv4_octets}
use Rattle.std.specs.Net.Grammar.{IsIpv4Text}
use Rattle.std.specs.Net.Socket.{v4_ip, v4_port}
use Rattle.std.specs.declared.net.socket_addr.SocketAddrV4.{SocketAddrV4}
use Rattle.std.specs.declared.net.socket_addr.SocketAddr.TheVariants as socket
use Rattle.click_classes.specs.Values.{is_device}
use Rattle.click_links.specs.Ends.{Line}
use Rattle.click_prog.specs.Numbers.{IsNumber}
use Rattle.click_prog.specs.declared.link.Link.{Link}
use Rattle.click_prog.specs.declared.link.LinkFault.{LinkFault}
use Rattle.click_prog.specs.declared.link.LinkFault.TheVariants.{NoMemory, NoLink, Circle, Twice, TooMany}

-- the text is split at the first one of these bytes
pub record IsCut (byte : ℕ) (text before after : List ℕ) : Type 0 where
  pub spelled : text ≡ before ++ byte ∷ after
  pub first : (k : ℕ) → k < length before → slice_index before k ≡ byte → ⊥

-- the text is an IPv4 address, then `:`, then a port
pub record IsAddressed (text : List ℕ) (place : SocketAddrV4) : Type 0 where
  pub address : List ℕ
  pub port : List ℕ
  pub cut : IsCut 58 text address port
  pub ip : IsIpv4Text address (v4_ip place)
  pub number : IsNumber 1 65535 port (v4_port place)

-- the text is not an IPv4 address with a port
abbrev pub IsUnaddressed : List ℕ → Type 0
IsUnaddressed text = (place : SocketAddrV4) → IsAddressed text place → ⊥

-- the text is a port alone, which means one of 127.0.0.1
abbrev pub IsOwnPort : List ℕ → SocketAddrV4 → Type 0
IsOwnPort text place = IsNumber 1 65535 text (v4_port place) × (ipv4_octets (v4_ip place) ≡ 127 ∷ 0 ∷ 0 ∷ 1 ∷ [])

-- the text means this address
abbrev pub IsPlace : List ℕ → SocketAddrV4 → Type 0
IsPlace text place = IsOwnPort text place ⊎ IsAddressed text place

-- the text means no address
abbrev pub IsNoPlace : List ℕ → Type 0
IsNoPlace text = (place : SocketAddrV4) → IsPlace text place → ⊥

-- The value is a device, as FromDevice and ToDevice take it, then `=`, then two addresses with a
-- comma between them.
pub record IsLink (value : List ℕ) (link : Link) : Type 0 where
  pub places : List ℕ
  pub near : List ℕ
  pub far : List ℕ
  pub device : IsCut 61 value link.device.now places
  pub named : is_device link.device.now ≡ true
  pub pair : IsCut 44 places near far
  pub here : IsPlace near link.here
  pub there : IsPlace far link.there

-- the value is not a link
abbrev pub IsNoLink : List ℕ → Type 0
IsNoLink value = (link : Link) → IsLink value link → ⊥

-- the two links have different devices
abbrev pub AreApart : Link → Link → Type 0
AreApart a b = a.device.now ≡ b.device.now → ⊥

-- the two addresses of the link are different
abbrev pub HasTwoPlaces : Link → Type 0
HasTwoPlaces link = link.here ≡ link.there → ⊥

-- the values are these links, one each, in order: at most 16, each with two different addresses, no
-- two of one device
pub record AreLinks (values : List (List ℕ)) (links : List Link) : Type 0 where
  pub each : AllZip IsLink values links
  pub few : length links ≤ 16
  pub distinct : All HasTwoPlaces links
  pub apart : AllPairs AreApart links

-- the value is a link of this device
abbrev pub IsLinkOf : List ℕ → List ℕ → Type 0
IsLinkOf value device = (link : Link) × IsLink value link × (link.device.now ≡ device)

-- the value is a link whose two addresses are the same
abbrev pub IsCircle : List ℕ → Type 0
IsCircle value = (link : Link) × IsLink value link × (link.here ≡ link.there)

-- one of the values is a link of this device, and so is a later one
pub record IsTwice (values : List (List ℕ)) (device : List ℕ) : Type 0 where
  pub first : ℕ
  pub later : ℕ
  pub order : first < later
  pub within : later < length values
  pub one : (d : List ℕ) → IsLinkOf (slice_index_or values first d) device
  pub other : (d : List ℕ) → IsLinkOf (slice_index_or values later d) device

-- the reason why values are refused
abbrev pub IsLinkFault : List (List ℕ) → LinkFault → Type 0
IsLinkFault values NoMemory = Unit {0}
IsLinkFault values (NoLink value) = Contains values value.now × IsNoLink value.now
IsLinkFault values (Circle value) = Contains values value.now × IsCircle value.now
IsLinkFault values (Twice device) = IsTwice values device.now
IsLinkFault values TooMany = 16 < length values

-- the line over which the packets of a link's device are sent: from HERE to THERE
abbrev pub line_of : Link → Line
line_of link = record { device = link.device.now; here = socket.V4 link.here; there = socket.V4 link.there }
