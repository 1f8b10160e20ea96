-- What a desk was opened with, with the names of its feeds and without them.
use Rattle.std.specs.Prelude.{List}
use Rattle.click_rings.specs.Feeds.{FeedName}
use Rattle.click_desk.specs.declared.desk_setup.DeskSetup.{DeskSetup}
use Rattle.click_desk.specs.declared.options.DeskOptions.{DeskOptions}

-- The options of a desk, with the names of its feeds.
abbrev pub setup_of : DeskOptions → List FeedName → DeskSetup
setup_of t feeds = record { opening = t.opening; room = t.room; seats = t.seats; origin = t.origin; feeds = feeds }

-- The options of a desk, without the names of its feeds.
abbrev pub terms_of : DeskSetup → DeskOptions
terms_of c = record { opening = c.opening; room = c.room; seats = c.seats; origin = c.origin }
