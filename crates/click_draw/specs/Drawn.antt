-- The picture of a configuration.
use Rattle.std.specs.Prelude.{◌≡◌, ℕ, List, length, All}
use Rattle.click_classes.specs.declared.state.State.{State}
use Rattle.click_draw.specs.Picture.{AreApart, EachAt, IsFigure, IsInside, IsLine, IsLineInside}
use Rattle.click_draw.specs.Svg.{svg_of}
use Rattle.click_draw.specs.declared.drawing.Drawing.{Drawing}
use Rattle.click_draw.specs.declared.drawing.Figure.{Figure}
use Rattle.click_draw.specs.declared.drawing.Frame.{Frame}
use Rattle.click_draw.specs.declared.svg_writing.TheConstants.{STYLE}
use Rattle.click_expand.specs.declared.flat.Flat.{Flat}
use Rattle.click_ports.specs.Net.{Net, net_of}
use Rattle.click_router.specs.Opened.{AreFresh, IsLawful, IsOpened}
use Rattle.click_router.specs.State.{RouterState}

-- the elements have first states, with which the flat form satisfies the port rules
abbrev pub IsLawfulForm : Flat → Type 0
IsLawfulForm flat = (states : List State) × AreFresh flat.elements states × IsLawful flat states

-- the net of a flat form, with each element in its first state
abbrev pub IsFormNet : Flat → Net → Type 0
IsFormNet flat net = (states : List State) × AreFresh flat.elements states × (net ≡ net_of flat states)

-- the net of the configuration that the text opens
abbrev pub IsNetOf : List ℕ → Net → Type 0
IsNetOf text net = (state : RouterState) × IsOpened text state × IsFormNet state.flat net

-- The drawing shows the net. Each element has a box of its own, as large as it needs. Each
-- connection is a line from its output to its input. All of this is inside the picture.
pub record Shows (net : Net) (d : Drawing) : Type 0 where
  pub figures : length d.figures ≡ length net.shapes
  pub each : EachAt (IsFigure net) d.figures
  pub apart : AreApart d.figures
  pub lines : length d.lines ≡ length net.connections
  pub joined : EachAt (IsLine d.figures net.connections) d.lines
  pub inside : All (λ (f : Figure). IsInside d.width d.height f.frame) d.figures
  pub lines_inside : All (IsLineInside d.width d.height) d.lines
  pub frames_inside : All (λ (f : Frame). IsInside d.width d.height f.around) d.frames

-- the SVG of a drawing that shows the net
abbrev pub IsPictureOf : Net → List ℕ → Type 0
IsPictureOf net picture = (drawing : Drawing) × Shows net drawing × (picture ≡ svg_of STYLE.now drawing)

-- the picture of the configuration that the text opens
abbrev pub IsPicture : List ℕ → List ℕ → Type 0
IsPicture text picture = (net : Net) × IsNetOf text net × IsPictureOf net picture
