-- The value of a closed desk's book in contracts.
use Rattle.std.specs.Prelude.{ℕ, Bool, List}
use Rattle.boxcar.specs.Table.{Shelves}
use Rattle.click_rings.specs.Feeds.{ConsumerState}
use Rattle.click_router.specs.State.{RouterState}
use Rattle.click_desk.specs.declared.entry.Entry.{Entry}
use Rattle.click_desk.specs.SeatStates.{SeatState}

-- A book: what closing a desk returns. `opening` is the text of the configuration that the desk was
-- opened with, and `router` is the router that the entries lead to. `keeps` says whether the
-- entries are stored; otherwise they are ghost state. `consumers` are the desk's ends of the feeds
-- that are not settled, and `board` identifies the desk's list of published installs.
pub record BookState : Type 0 where
  pub opening : List ℕ
  pub keeps : Bool
  pub entries : List Entry
  pub router : RouterState
  pub seats : List SeatState
  pub consumers : List ConsumerState
  pub board : Shelves
