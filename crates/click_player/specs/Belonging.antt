-- Seats and device drivers that belong to a desk.
use Rattle.std.specs.Prelude.{◌≡◌, List, true}
use Rattle.std.specs.List.{All}
use Rattle.click_rings.specs.Feeds.{FeedName, have_distinct_devices}
use Rattle.click_desk.specs.SeatStates.{DeskName, SeatState}

-- If a feed of the desk and a device driver have the same device, they have the same ring.
abbrev pub HaveRings : List FeedName → List FeedName → Type 0
HaveRings drivers feeds = All (λ d. All (λ f. f.device ≡ d.device → f.ring ≡ d.ring) feeds) drivers

-- The seat belongs to the desk, and these device drivers serve its feeds.
pub record Belongs (desk : DeskName) (drivers : List FeedName) (s : SeatState) : Type 0 where
  pub at_desk : s.desk ≡ desk
  pub apart : have_distinct_devices s.feeds ≡ true
  pub rings : HaveRings drivers s.feeds
