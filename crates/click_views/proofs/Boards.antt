-- The book that a board is for, and whether the board stores installs.
use Rattle.std.proofs.Common.{◌≡◌, ℕ, Bool, true, false, Option, Some, None, List, [], ◌∷◌, length, ap, sym, ◌∙◌, arith}
use Rattle.boxcar.specs.Table.{Shelves}
use Rattle.logbook.specs.Pages.{Book}
use Rattle.click_views.specs.Log.{Reached}
use Rattle.click_views.specs.Placed.{IsPlaced}
use Rattle.click_views.specs.Showing.{numbers, tag_of, IsOf}
use Rattle.click_views.specs.declared.mark.Mark.{Mark}

-- No board both stores installs and stores none.
pub apart : (b c : Book) → numbers b ≡ tag_of false c → ⊥
apart b c e = let count : 3 ≡ 4 = ap length e in absurd (omega (arith, count))

pub placed_of : {T : Type 0} (board : Shelves) (mark : Option (Mark T)) (reached : Reached T) → IsPlaced board mark reached → IsOf board reached.book
placed_of board None reached placed = (false, placed)
placed_of board (Some mark) reached placed = (true, placed.1)

none_kept : {T : Type 0} (board : Shelves) (mark : Option (Mark T)) (reached : Reached T) → IsPlaced board mark reached → mark ≡ None → board.tag ≡ tag_of false reached.book
none_kept board None reached placed none = placed
none_kept board (Some mark) reached placed none = absurd (cc none)

-- A notice without a mark is not of a board that stores installs.
pub no_views : {T : Type 0} (board : Shelves) (mark : Option (Mark T)) (reached : Reached T) (b : Book) → IsPlaced board mark reached → mark ≡ None → board.tag ≡ numbers b → ⊥
no_views board mark reached b placed none kept = apart b reached.book (sym kept ∙ none_kept board mark reached placed none)
