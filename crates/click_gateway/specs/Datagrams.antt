-- IP datagrams that are made: a header without options before the bytes that they carry (RFC 791,
-- section 3.1).
use Rattle.std.specs.Prelude.{ℕ, ◌+◌, ◌/◌, ◌%◌, List, ◌∷◌, ◌++◌, length}
use Rattle.click_packet.specs.Header.{with_ttl}
use Rattle.click_gateway.specs.Addresses.{four}

abbrev pub destination : List ℕ → List ℕ
destination bytes = four 16 bytes

-- The fields of a header that differ between datagrams. `flags` is byte 6, where 64 stands for "do
-- not fragment" (DF); `hops` is the time to live.
pub record HeaderFields : Type 0 where
  pub protocol : ℕ
  pub service : ℕ
  pub id_high : ℕ
  pub id_low : ℕ
  pub flags : ℕ
  pub hops : ℕ

-- the datagram with these fields and the right checksum, between two addresses
unfoldable pub datagram_of : HeaderFields → List ℕ → List ℕ → List ℕ → List ℕ
datagram_of f source destination content =
    let total = length content + 20 in
    with_ttl
    (69 ∷ f.service ∷ (total / 256) ∷ (total % 256) ∷ f.id_high ∷ f.id_low ∷ f.flags ∷ 0 ∷ 0 ∷ f.protocol ∷ 0 ∷ 0 ∷ (source ++ (destination ++ content)))
    f.hops
