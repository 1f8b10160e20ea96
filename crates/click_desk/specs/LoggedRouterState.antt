-- The value of a logged router in contracts.
use Rattle.std.specs.Prelude.{List}
use Rattle.click_rings.specs.Feeds.{ConsumerState}
use Rattle.click_router.specs.State.{RouterState}
use Rattle.click_desk.specs.declared.desk_setup.DeskSetup.{DeskSetup}
use Rattle.click_desk.specs.declared.entry.Entry.{Entry}

-- What the desk was opened with, the history, the state of the router, and what was drawn from each
-- feed.
pub record LoggedRouterState : Type 0 where
  pub options : DeskSetup
  pub entries : List Entry
  pub state : RouterState
  pub consumers : List ConsumerState
