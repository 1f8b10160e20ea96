-- All that a forwarder does, however its turns are made: the calls that its seat made, and that
-- exactly the packets that these returned were sent.
use Rattle.std.specs.Prelude.{◌≡◌, ℕ, ◌≤◌, List, [], ◌∷◌, ◌++◌, length, map, Some, None, if◌then◌else◌}
use Rattle.std.specs.List.{All, Contains}
use Rattle.std.specs.Str.{bytes_eq}
use Rattle.click_packet.specs.Packet.{Packet}
use Rattle.click_router.specs.declared.call.Call.{Call}
use Rattle.click_router.specs.declared.call.Call.TheVariants as call
use Rattle.click_router.specs.declared.call.Reply.{Reply}
use Rattle.click_router.specs.declared.call.Reply.TheVariants as reply
use Rattle.click_links.specs.Ends.{Attempt}

-- The packet that a reply has to send, if it has one, as a list.
abbrev pub packets_in : Reply → List Packet
packets_in (reply.Value value) = []
packets_in reply.Done = []
packets_in (reply.Refused why) = []
packets_in (reply.Entered count) = []
packets_in (reply.Worked count) = []
packets_in (reply.Sent None) = []
packets_in (reply.Sent (Some p)) = p ∷ []
packets_in reply.NoDevice = []

-- The packets that a call returned in its reply, each with the device that transmitted it.
abbrev pub given : Call → Reply → List (List ℕ × Packet)
given (call.Read name text) r = []
given (call.Write name text) r = []
given (call.CheckRead name) r = []
given (call.CheckWrite name) r = []
given (call.Swap text) r = []
given (call.Arrive from p) r = []
given (call.Poll from taken) r = []
given call.Round r = []
given (call.Transmit from) r = map (λ p. (from, p)) (packets_in r)

-- The packets that the Transmits among these calls returned, in order, each with its device.
abbrev pub packets_given : List (Call × Reply) → List (List ℕ × Packet)
packets_given [] = []
packets_given (m ∷ ms) = given m.0 m.1 ++ packets_given ms

-- The packets whose sending was attempted, in order, each with its device.
abbrev pub sendings : List Attempt → List (List ℕ × Packet)
sendings tries = map (λ t. (t.device, t.packet)) tries

-- A forwarder of these devices may make this call: a Poll of up to 32 packets of one of them, a
-- Transmit of one of them, or a Round.
abbrev pub IsForwarding : List (List ℕ) → Call → Type 0
IsForwarding devices (call.Read name text) = ⊥
IsForwarding devices (call.Write name text) = ⊥
IsForwarding devices (call.CheckRead name) = ⊥
IsForwarding devices (call.CheckWrite name) = ⊥
IsForwarding devices (call.Swap text) = ⊥
IsForwarding devices (call.Arrive from p) = ⊥
IsForwarding devices (call.Poll from taken) = Contains devices from × (length taken ≤ 32)
IsForwarding devices call.Round = Unit {0}
IsForwarding devices (call.Transmit from) = Contains devices from

-- What a forwarder of these devices did. The seat's calls grew by calls of such a forwarder.
-- Sending was attempted for exactly the packets that its Transmits returned, each over the link of
-- the device that transmitted it, in order and exactly once.
pub record Forwards (devices : List (List ℕ)) (calls calls2 : List (Call × Reply)) (before after : List Attempt) : Type 0 where
  pub made : List (Call × Reply)
  pub tries : List Attempt
  pub grown : calls2 ≡ calls ++ made
  pub sent : after ≡ before ++ tries
  pub own : All (λ m. IsForwarding devices m.0) made
  pub each : packets_given made ≡ sendings tries

-- The packets whose sending over the link of a device was attempted, in order.
abbrev pub sent_by : List ℕ → List Attempt → List Packet
sent_by device [] = []
sent_by device (t ∷ ts) = (if bytes_eq t.device device then t.packet ∷ [] else []) ++ sent_by device ts

-- The packets that a call returned in its reply, if it is a Transmit of this device.
abbrev pub given_by : List ℕ → Call → Reply → List Packet
given_by device (call.Read name text) r = []
given_by device (call.Write name text) r = []
given_by device (call.CheckRead name) r = []
given_by device (call.CheckWrite name) r = []
given_by device (call.Swap text) r = []
given_by device (call.Arrive from p) r = []
given_by device (call.Poll from taken) r = []
given_by device call.Round r = []
given_by device (call.Transmit from) r = if bytes_eq from device then packets_in r else []

-- The packets that the Transmits of a device returned, in order.
abbrev pub gifts_by : List ℕ → List (Call × Reply) → List Packet
gifts_by device [] = []
gifts_by device (m ∷ ms) = given_by device m.0 m.1 ++ gifts_by device ms
