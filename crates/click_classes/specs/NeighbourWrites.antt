-- An ARPQuerier after an operator wrote its table. A packet that waits for a neighbour that is
-- removed or overwritten counts as dropped.
use Rattle.std.specs.Prelude.{ℕ, ◌-◌, Bool, false, not, ◌&&◌, nat_lt, List, [], ◌∷◌, ◌++◌, length, filter, slice_get, slice_set, is_some, Option, Some, None, option_map, if◌then◌else◌}
use Rattle.std.specs.Str.{bytes_eq}
use Rattle.click_gateway.specs.Addresses.{is_host}
use Rattle.click_gateway.specs.Arp.{is_station}
use Rattle.click_classes.specs.Acts.{up_by}
use Rattle.click_classes.specs.Neighbours.{Neighbour, most_neighbours, place_of, waiting_in}
use Rattle.click_classes.specs.declared.neighbours.Querier.{Querier}

-- the querier with only the neighbours that pass a test
abbrev pub keeping : (Neighbour → Bool) → Querier → Querier
keeping keep q = record q { table = filter keep q.table; drops = up_by q.drops (waiting_in (filter (λ n. not (keep n)) q.table)) }

-- no neighbours
abbrev pub cleared : Querier → Querier
cleared q = keeping (λ n. false) q

-- all neighbours except the one with an address
abbrev pub without : List ℕ → Querier → Querier
without address q = keeping (λ n. not (bytes_eq n.address address)) q

-- the neighbours after whose last use fewer than that number of packets arrived at input 0
abbrev pub recent : ℕ → Querier → Querier
recent packets q = keeping (λ n. nat_lt (q.packets - n.used) packets) q

-- the querier in which the neighbour with that index, or a new one, has an Ethernet address
abbrev pub inserted_at : Querier → List ℕ → List ℕ → Option ℕ → Option Querier
inserted_at q address ether None =
    if nat_lt (length q.table) most_neighbours
    then Some (record q { table = q.table ++ record { address = address; ether = Some ether; waiting = None; used = q.packets } ∷ [] })
    else None
inserted_at q address ether (Some place) =
    option_map (λ n. record q {
      table = slice_set q.table place (record n { ether = Some ether; waiting = None; used = q.packets });
      drops = if is_some n.waiting then up_by q.drops 1 else q.drops;
    }) (slice_get q.table place)

-- Whether an operator may write these addresses: an IP address that can be one host's, and the
-- Ethernet address of one station (RFC 1812, section 3.3.2). That is not zero and not a group's.
abbrev pub can_be_known : List ℕ → List ℕ → Bool
can_be_known address ether = is_host address && is_station ether && not (bytes_eq ether (0 ∷ 0 ∷ 0 ∷ 0 ∷ 0 ∷ 0 ∷ []))

-- the querier in which an address has an Ethernet address, if they may be written and the table has
-- room for them
abbrev pub inserted : List ℕ → List ℕ → Querier → Option Querier
inserted address ether q = if can_be_known address ether then inserted_at q address ether (place_of q.table address) else None
