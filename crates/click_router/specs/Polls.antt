-- The calls that carry packets, under names that contracts can use.
use Rattle.std.specs.Prelude.{ℕ, List, Bool, true, false}
use Rattle.click_packet.specs.Packet.{Packet}
use Rattle.click_router.specs.declared.call.Call.{Call}
use Rattle.click_router.specs.declared.call.Call.TheVariants as call

-- whether the call enters packets that were drawn from a feed
abbrev pub is_poll : Call → Bool
is_poll (call.Read name text) = false
is_poll (call.Write name text) = false
is_poll (call.CheckRead name) = false
is_poll (call.CheckWrite name) = false
is_poll (call.Swap text) = false
is_poll (call.Arrive device p) = false
is_poll (call.Poll device ps) = true
is_poll call.Round = false
is_poll (call.Transmit device) = false

-- packets of a device enter, one after another
abbrev pub poll : List ℕ → List Packet → Call
poll device taken = call.Poll device taken

-- a packet of a device enters
abbrev pub arrival : List ℕ → Packet → Call
arrival device p = call.Arrive device p

-- a device takes a packet
abbrev pub transmit : List ℕ → Call
transmit device = call.Transmit device
