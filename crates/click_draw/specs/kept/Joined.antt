-- Figures whose ports are connected.
use Rattle.std.specs.Prelude.{◌<◌, ◌≤◌, ℕ, List, length, All, slice_index_or}
use Rattle.click_expand.specs.declared.flat.Connection.{Connection}
use Rattle.click_draw.specs.Picture.{IsInside}
use Rattle.click_draw.specs.declared.drawing.Mark.{Mark}
use Rattle.click_draw.specs.declared.drawing.Figure.{Figure}

-- both ends of the connection are at ports of figures
pub record AreJoined (fs : List Figure) (c : Connection) : Type 0 where
  pub from : c.from < length fs
  pub output : (d : Figure) → c.out_port < length (slice_index_or fs c.from d).look.outputs
  pub to : c.to < length fs
  pub input : (d : Figure) → c.in_port < length (slice_index_or fs c.to d).look.inputs

-- the figure lies in a picture of this width and height, with its ports at its sides
pub record IsFigureInside (width height : ℕ) (f : Figure) : Type 0 where
  pub frame : IsInside width height f.frame
  pub inputs : All (λ (m : Mark). m.at ≤ f.frame.width) f.look.inputs
  pub outputs : All (λ (m : Mark). m.at ≤ f.frame.width) f.look.outputs
