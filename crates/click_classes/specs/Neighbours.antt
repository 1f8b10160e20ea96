-- The table of an ARPQuerier: the addresses of the packets that it forwarded, in the order of the
-- first packet for each.
use Rattle.std.specs.Prelude.{ℕ, List, length, filter_map, position, Option}
use Rattle.std.specs.Str.{bytes_eq}
use Rattle.click_packet.specs.Packet.{Packet}

-- An address, its Ethernet address if that is known, and the packet that waits for it. `used` is the
-- number of packets of the querier at the last use of the entry.
pub record Neighbour : Type 0 where
  pub address : List ℕ
  pub ether : Option (List ℕ)
  pub waiting : Option Packet
  pub used : ℕ

-- the maximum number of addresses of a table
abbrev pub most_neighbours : ℕ
most_neighbours = 256

-- the index of the neighbour with an address
abbrev pub place_of : List Neighbour → List ℕ → Option ℕ
place_of table address = position (λ (n : Neighbour). bytes_eq n.address address) table

-- the number of packets that wait for these neighbours
abbrev pub waiting_in : List Neighbour → ℕ
waiting_in ns = length (filter_map (λ (n : Neighbour). n.waiting) ns)
