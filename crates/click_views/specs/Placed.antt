-- The place of the last install of a log on the board.
use Rattle.std.specs.Prelude.{◌≡◌, Option, Some, None, true, false}
use Rattle.boxcar.specs.Table.{Shelves, Shows}
use Rattle.logbook.specs.Pages.{Book}
use Rattle.click_views.specs.Log.{Reached}
use Rattle.click_views.specs.Showing.{tag_of}
use Rattle.click_views.specs.declared.mark.Mark.{Mark}

-- Either the board stores no installs, and there is no mark; or the mark is of the last install of
-- the log, which the board stores in this cell.
abbrev pub IsPlaced : {T : Type 0} → Shelves → Option (Mark T) → Reached T → Type 0
IsPlaced board None reached = board.tag ≡ tag_of false reached.book
IsPlaced board (Some mark) reached = Shows board mark.cell × (board.tag ≡ tag_of true reached.book) × (mark.told.book ≡ reached.book) × (mark.told.log ≡ reached.log)
