-- Elements in the boxes that were placed.
use Rattle.std.specs.Prelude.{◌≡◌, ℕ, List, Some, slice_get}
use Rattle.click_ports.specs.Net.{Net}
use Rattle.click_draw.specs.Picture.{IsLook}
use Rattle.click_draw.specs.declared.drawing.Rectangle.{Rectangle}
use Rattle.click_draw.specs.declared.drawing.Figure.{Figure}

-- the element in the box with its index
pub record IsBoxed (net : Net) (boxes : List Rectangle) (element : ℕ) (f : Figure) : Type 0 where
  pub look : IsLook net element f.look
  pub frame : slice_get boxes element ≡ Some f.frame
