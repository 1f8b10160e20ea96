-- What a run with links leaves.
use Rattle.std.specs.Prelude.{◌≡◌, ◌⊎◌, ℕ, ◌+◌, List, [], ◌∷◌, ◌++◌, drop, map, Bool, true, false, Option, None, IfSome}
use Rattle.std.specs.List.{All}
use Rattle.click_packet.specs.Packet.{Packet}
use Rattle.click_rings.specs.Feeds.{RingName, FeedName, ConsumerState, name_of, has_feed}
use Rattle.click_router.specs.One.{is_transmit}
use Rattle.click_router.specs.declared.call.Call.{Call}
use Rattle.click_router.specs.declared.call.Reply.{Reply}
use Rattle.click_desk.specs.BookState.{BookState}
use Rattle.click_desk.specs.Openings.{IsOpenFault}
use Rattle.click_desk.specs.Polls.{polled}
use Rattle.click_desk.specs.SeatStates.{SeatState}
use Rattle.click_desk.specs.declared.entry.Entry.{Entry}
use Rattle.click_desk.specs.declared.open.OpenFault.{OpenFault}
use Rattle.click_desk.specs.declared.open.OpenFault.TheVariants as fault
use Rattle.click_links.specs.Ends.{Attempt, IsNewFeed, Offering, Received}
use Rattle.click_links.specs.Fates.{Receives}
use Rattle.click_links.specs.Forwarding.{Forwards}
use Rattle.click_links.specs.declared.dropped.Dropped.{Dropped}
use Rattle.click_workers.specs.Runs.{HeadlineWith}
use Rattle.click_workers.specs.Work.{Worked}
use Rattle.click_workers.specs.declared.session.SessionEnd.{SessionEnd}

-- The calls of all seats in a history, with their replies.
abbrev pub calls_in : List Entry → List (Call × Reply)
calls_in history = map (λ e. (e.call, e.reply)) history

-- Each of these feeds that is of this device has this ring.
abbrev pub FitsConsumers : List ConsumerState → List ℕ → RingName → Type 0
FitsConsumers consumers device ring = All (λ t. t.device ≡ device → t.ring ≡ ring) consumers

-- One of these feeds is of this device, and each feed of this device has this ring.
abbrev pub HasRing : List ConsumerState → List ℕ → RingName → Type 0
HasRing consumers device ring = (has_feed device (map name_of consumers) ≡ true) × FitsConsumers consumers device ring

-- The headline of a live desk with one feed for each of these devices.
abbrev pub LinkedHeadline : List (List ℕ) → List ℕ → ℕ → BookState → Type 0
LinkedHeadline devices text n book = (feeds : List FeedName) × (map (λ (f : FeedName). f.device) feeds ≡ devices) × HeadlineWith feeds None text n book

-- The outcomes of a run with links. The first seats, `served`, are those of the session slots and
-- drivers, each with its outcome. The last seat is the forwarder's: it made the calls of a
-- forwarder of these devices, and exactly the packets that its Transmits returned were sent.
pub record LinkedWork (attends : SeatState → SessionEnd → Type 0) (drives : SeatState → Bool → Type 0) (places workers : ℕ) (devices : List (List ℕ)) (before after : List Attempt)
    (seats : List SeatState) (ended : List SessionEnd) (drivers : List Bool) : Type 0 where
  pub served : List SeatState
  pub forwarder : SeatState
  pub parts : seats ≡ served ++ forwarder ∷ []
  pub number : forwarder.number ≡ places + workers
  pub worked : Worked attends drives places (places + workers) served ended drivers
  pub forwards : Forwards devices [] forwarder.calls before after

-- None of these calls is a Transmit.
abbrev pub AreQuiet : List (Call × Reply) → Type 0
AreQuiet calls = All (λ (p : Call × Reply). is_transmit p.0 ≡ false) calls

-- Of these seats, only the first n may have made a Transmit.
abbrev pub AreQuietFrom : ℕ → List SeatState → Type 0
AreQuietFrom n seats = All (λ (s : SeatState). AreQuiet s.calls) (drop n seats)

-- What the forwarder and the additional work did. The forwarder made the calls of a forwarder of
-- these devices, over the first seat of the pair, and exactly the packets that its Transmits
-- returned were sent. The additional work did to its seats what `does` says.
abbrev pub ForwardsBeside : {Seats Done : Type 0} → List (List ℕ) → List Attempt → List Attempt → (Seats → Seats → Done → Type 0) → SeatState × Seats → SeatState × Seats → Done → Type 0
ForwardsBeside devices before after does old new done = Forwards devices old.0.calls new.0.calls before after × does old.1 new.1 done

-- The packets that were put into the feed of a device are those that the history polled of the
-- device, followed by the rest, in order and exactly once. If a list is returned as left, it is
-- that rest.
abbrev pub IsSettled : List Entry → List ℕ → List Packet → Option (List Packet) → Type 0
IsSettled history device put left = (rest : List Packet) × (put ≡ polled history device ++ rest) × IfSome left (λ l. l ≡ rest)

-- The outcome of a link. Its receiving end has the addresses that it had before. Each datagram that
-- came over it became a packet of the link's feed, or was dropped and counted by its cause. The feed
-- was new and had the places of a link. Its packets are those that the history polled of the device,
-- followed by the rest, in order and exactly once. This holds also if there was no memory to list
-- the rest.
pub record LinkRan (history : List Entry) (device : List ℕ) (came came2 : Received) (dropped : Dropped) (left : Option (List Packet)) : Type 0 where
  pub from : Offering
  pub to : Offering
  pub fresh : IsNewFeed from
  pub receives : Receives came came2 from to dropped
  pub settled : IsSettled history device to.feed.put left

-- Why there is no run with this many seats and with links of these devices. Either it is out of
-- memory, or it is the fault of opening a desk with this many seats and one feed for each of these
-- devices.
abbrev pub IsTrueOpening : ℕ → List (List ℕ) → List ℕ → OpenFault → Type 0
IsTrueOpening seats devices text f =
    (f ≡ fault.NoMemory) ⊎ ((feeds : List FeedName) × (map (λ (x : FeedName). x.device) feeds ≡ devices) × IsOpenFault seats feeds text f)
