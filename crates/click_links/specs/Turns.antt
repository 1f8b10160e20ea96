-- What a device turn does.
use Rattle.std.specs.Prelude.{◌≡◌, ℕ, ◌+◌, ◌<◌, ◌⊎◌, Bool, true, false, List, [], ◌∷◌, ◌++◌, length, map, Some}
use Rattle.std.specs.List.{All}
use Rattle.click_packet.specs.Packet.{Packet}
use Rattle.click_rings.specs.Feeds.{FeedName}
use Rattle.click_router.specs.One.{sends_packet}
use Rattle.click_router.specs.Polls.{poll, transmit}
use Rattle.click_router.specs.declared.call.Call.{Call}
use Rattle.click_router.specs.declared.call.Reply.{Reply}
use Rattle.click_router.specs.declared.call.Reply.TheVariants as reply
use Rattle.click_desk.specs.Polls.{MayTake}
use Rattle.click_desk.specs.declared.logged_router.DeskFault.{DeskFault}
use Rattle.click_desk.specs.declared.logged_router.DeskFault.TheVariants.{HistoryFull}
use Rattle.click_desk.specs.SeatStates.{SeatState}
use Rattle.click_links.specs.declared.device.Device.{Device}
use Rattle.click_links.specs.declared.turns.Tally.{Tally}
use Rattle.click_links.specs.declared.turns.Turn.{Turn}
use Rattle.click_links.specs.Ends.{Attempt}

-- The seat has the same number, desk and feeds.
abbrev pub SameSeat : SeatState → SeatState → Type 0
SameSeat old new = (new.desk ≡ old.desk) × (new.number ≡ old.number) × (new.feeds ≡ old.feeds)

-- A full history is reported only if the history that the seat has seen is full.
abbrev pub IsFullIfReported : SeatState → DeskFault → Type 0
IsFullIfReported seat fault = fault ≡ HistoryFull → seat.desk.options.room ≡ Some (length seat.seen)

-- The names of these devices.
abbrev pub names_of : List Device → List (List ℕ)
names_of devices = map (λ d. d.name) devices

-- The number of packets that entered, by a reply.
abbrev pub count_entered : Reply → ℕ
count_entered (reply.Value value) = 0
count_entered reply.Done = 0
count_entered (reply.Refused why) = 0
count_entered (reply.Entered count) = count
count_entered (reply.Worked count) = 0
count_entered (reply.Sent packet) = 0
count_entered reply.NoDevice = 0

-- The Transmit that returned a packet, with its reply.
abbrev pub gave : Attempt → Call × Reply
gave t = (transmit t.device, reply.Sent (Some t.packet))

-- A Transmit, with its reply.
abbrev pub transmit_call : List ℕ → Reply → Call × Reply
transmit_call device r = (transmit device, r)

-- Each of these attempts is of this device.
abbrev pub AreOf : List ℕ → List Attempt → Type 0
AreOf device tries = All (λ t. t.device ≡ device) tries

-- These numbers after one more attempt.
abbrev pub tallied : Tally → Bool → Tally
tallied n true = record { sent = n.sent + 1; lost = n.lost }
tallied n false = record { sent = n.sent; lost = n.lost + 1 }

-- These numbers after these attempts.
abbrev pub tally_after : Tally → List Attempt → Tally
tally_after n [] = n
tally_after n (t ∷ ts) = tally_after (tallied n t.sent) ts

-- The numbers of packets that were sent and lost in these attempts.
abbrev pub tally_of : List Attempt → Tally
tally_of ts = tally_after (record { sent = 0; lost = 0 }) ts

-- The seat's calls grew by Transmits of the device, each of which returned a packet. Sending was
-- attempted for exactly these packets, in this order.
pub record Sends (device : List ℕ) (calls calls2 : List (Call × Reply)) (before after tries : List Attempt) : Type 0 where
  pub made : calls2 ≡ calls ++ map gave tries
  pub sent : after ≡ before ++ tries
  pub own : AreOf device tries

-- The device turn has sent `count` packets so far, with these numbers.
pub record SendsSo (device : List ℕ) (calls calls2 : List (Call × Reply)) (before after : List Attempt) (count : ℕ) (tally : Tally) : Type 0 where
  pub tries : List Attempt
  pub sends : Sends device calls calls2 before after tries
  pub many : length tries ≡ count
  pub counts : tally ≡ tally_of tries

-- The device turn stopped early, after it sent fewer packets than the maximum.
pub record Breaks (device : List ℕ) (calls calls2 : List (Call × Reply)) (before after : List Attempt) : Type 0 where
  pub tries : List Attempt
  pub sends : Sends device calls calls2 before after tries
  pub within : length tries < 256

-- Either there are `most` items and nothing follows, or fewer, and one reply follows that satisfies
-- `Other`.
abbrev pub Ends : (Reply → Type 0) → ℕ → Bool → ℕ → List Reply → Type 0
Ends Other most true count last = (count ≡ most) × (last ≡ [])
Ends Other most false count last = (count < most) × (r : Reply) × (last ≡ r ∷ []) × Other r

-- The reply has no packet to send.
abbrev pub GivesNone : Reply → Type 0
GivesNone r = sends_packet r ≡ false

-- The seat's calls grew by Transmits of the device. All returned a packet, up to 256, or all but
-- the last one. Sending was attempted for exactly these packets, in order.
pub record SendsUntil (device : List ℕ) (calls calls2 : List (Call × Reply)) (before after : List Attempt) (tally : Tally) (more : Bool) : Type 0 where
  pub tries : List Attempt
  pub last : List Reply
  pub made : calls2 ≡ (calls ++ map gave tries) ++ map (transmit_call device) last
  pub sent : after ≡ before ++ tries
  pub own : AreOf device tries
  pub ends : Ends GivesNone 256 more (length tries) last
  pub counts : tally ≡ tally_of tries

-- A device turn: one poll of the device, then Transmits of it until one returned no packet or 256
-- returned one. Sending was attempted for exactly these packets, in order and exactly once.
pub record IsTurn (device : List ℕ) (feeds : List FeedName) (calls calls2 : List (Call × Reply)) (before after : List Attempt) (turn : Turn) : Type 0 where
  pub taken : List Packet
  pub polled : Reply
  pub may : MayTake feeds device 32 taken polled
  pub entered : turn.entered ≡ count_entered polled
  pub sends : SendsUntil device (calls ++ (poll device taken, polled) ∷ []) calls2 before after turn.tally turn.more

-- A device turn that made its poll and then stopped early.
pub record IsBrokenLater (device : List ℕ) (feeds : List FeedName) (calls calls2 : List (Call × Reply)) (before after : List Attempt) : Type 0 where
  pub taken : List Packet
  pub polled : Reply
  pub may : MayTake feeds device 32 taken polled
  pub breaks : Breaks device (calls ++ (poll device taken, polled) ∷ []) calls2 before after

-- A device turn that stopped early: either at its poll, and nothing was done, or later.
abbrev pub IsBroken : List ℕ → List FeedName → List (Call × Reply) → List (Call × Reply) → List Attempt → List Attempt → Type 0
IsBroken device feeds calls calls2 before after =
    ((calls2 ≡ calls) × (after ≡ before)) ⊎ IsBrokenLater device feeds calls calls2 before after

-- The device turn found no work: no packet entered, and none was sent or lost.
abbrev pub IsIdleTurn : Turn → Type 0
IsIdleTurn turn = (turn.entered ≡ 0) × (turn.tally.sent ≡ 0) × (turn.tally.lost ≡ 0)
