-- The IP addresses that can be one host's (RFC 1122, section 3.2.1.3), and the Ethernet addresses
-- of those that name many hosts.
use Rattle.std.specs.Prelude.{ℕ, ◌+◌, ◌%◌, ◌==◌, nat_le, nat_lt, Bool, not, ◌&&◌, List, [], ◌∷◌, slice_index, Option, Some, None, if◌then◌else◌}
use Rattle.std.specs.Str.{bytes_eq}

-- the four bytes from an offset on, and the six
abbrev pub four : ℕ → List ℕ → List ℕ
four at bytes = slice_index bytes at ∷ slice_index bytes (at + 1) ∷ slice_index bytes (at + 2) ∷ slice_index bytes (at + 3) ∷ []

abbrev pub six : ℕ → List ℕ → List ℕ
six at bytes = slice_index bytes at ∷ slice_index bytes (at + 1) ∷ slice_index bytes (at + 2) ∷ slice_index bytes (at + 3) ∷ slice_index bytes (at + 4) ∷ slice_index bytes (at + 5) ∷ []

-- Whether an address can be one host's: its first byte is 1 to 223, except 127. So it is not in
-- network 0, in the loopback network 127 or in class E. It is no multicast address, and not the
-- limited broadcast. An address does not show whether it is the broadcast address of a subnet.
abbrev pub is_host : List ℕ → Bool
is_host address = let first = slice_index address 0 in nat_le 1 first && nat_lt first 224 && not (first == 127)

abbrev pub broadcast_ip : List ℕ
broadcast_ip = 255 ∷ 255 ∷ 255 ∷ 255 ∷ []

abbrev pub broadcast_ether : List ℕ
broadcast_ether = 255 ∷ 255 ∷ 255 ∷ 255 ∷ 255 ∷ 255 ∷ []

-- The Ethernet address of an address of many hosts, for which no query is made. The limited
-- broadcast has the broadcast address. A multicast address has 01:00:5e and its own lower 23 bits
-- (RFC 1112, section 6.4).
abbrev pub ethernet_of_group : List ℕ → Option (List ℕ)
ethernet_of_group address =
    if bytes_eq address broadcast_ip then Some broadcast_ether
    else if nat_le 224 (slice_index address 0) && nat_lt (slice_index address 0) 240
    then Some (1 ∷ 0 ∷ 94 ∷ slice_index address 1 % 128 ∷ slice_index address 2 ∷ slice_index address 3 ∷ [])
    else None
