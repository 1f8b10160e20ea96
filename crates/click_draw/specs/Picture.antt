-- A drawing of a net.
use Rattle.std.specs.Prelude.{◌≡◌, ◌↔◌, ℕ, ◌+◌, ◌<◌, ◌≤◌, List, [], codes, length, take, drop, All, IsTrue, Some, slice_get, slice_index_or}
use Rattle.std.specs.Str.{bytes_eq}
use Rattle.click_classes.specs.declared.ports.Side.{Side}
use Rattle.click_classes.specs.declared.ports.Side.TheVariants.{Input, Output}
use Rattle.click_expand.specs.declared.flat.Connection.{Connection}
use Rattle.click_ports.specs.declared.port.Port.{Port}
use Rattle.click_ports.specs.Ports.{used}
use Rattle.click_ports.specs.Links.{class_at, IsAgnostic}
use Rattle.click_ports.specs.Kinds.{IsPull}
use Rattle.click_ports.specs.Net.{Net}
use Rattle.click_draw.specs.Measures.{element_width, port_offset}
use Rattle.click_draw.specs.declared.drawing.Point.{Point}
use Rattle.click_draw.specs.declared.drawing.Rectangle.{Rectangle}
use Rattle.click_draw.specs.declared.drawing.Mark.{Mark}
use Rattle.click_draw.specs.declared.drawing.Look.{Look}
use Rattle.click_draw.specs.declared.drawing.Figure.{Figure}
use Rattle.click_draw.specs.declared.drawing.Frame.{Frame}
use Rattle.click_draw.specs.declared.drawing.Line.{Line}

-- each item of the list has the property, given its index
abbrev pub EachAt : {X : Type 0} → (ℕ → X → Type 0) → List X → Type 0
EachAt {X} P xs = (k : ℕ) (d : X) → k < length xs → P k (slice_index_or xs k d)

abbrev pub port_at : ℕ → Side → ℕ → Port
port_at element side number = record { element = element; side = side; number = number }

-- the mark has the kind of the port, and stands at its place
pub record IsMark (net : Net) (element : ℕ) (side : Side) (port : ℕ) (m : Mark) : Type 0 where
  pub pull : IsTrue m.pull ↔ IsPull net.shapes net.connections (port_at element side port)
  pub agnostic : IsTrue m.agnostic ↔ IsAgnostic net.shapes (port_at element side port)
  pub at : m.at ≡ port_offset (element_width net element) (used net.connections element side) port

-- the marks on one side of an element: one for each port
pub record AreMarks (net : Net) (element : ℕ) (side : Side) (ms : List Mark) : Type 0 where
  pub all : length ms ≡ used net.connections element side
  pub each : EachAt (IsMark net element side) ms

-- the look of the element with an index
pub record IsLook (net : Net) (element : ℕ) (l : Look) : Type 0 where
  pub number : l.number ≡ element
  pub name : l.name ≡ slice_index_or net.names element []
  pub class : l.class ≡ class_at net.shapes element
  pub inputs : AreMarks net element Input l.inputs
  pub outputs : AreMarks net element Output l.outputs

-- the element, in a box as large as it needs
pub record IsFigure (net : Net) (element : ℕ) (f : Figure) : Type 0 where
  pub look : IsLook net element f.look
  pub width : f.frame.width ≡ element_width net element
  pub height : f.frame.height ≡ 46

-- two rectangles overlap
abbrev pub Overlap : Rectangle → Rectangle → Type 0
Overlap a b =
    (a.left < b.left + b.width) × (b.left < a.left + a.width) × (a.top < b.top + b.height) × (b.top < a.top + a.height)

-- no two figures overlap
abbrev pub AreApart : List Figure → Type 0
AreApart fs = (m n : ℕ) (d : Figure) → m < n → n < length fs → Overlap (slice_index_or fs m d).frame (slice_index_or fs n d).frame → ⊥

-- a rectangle, or a point, lies in a picture of this width and height
abbrev pub IsInside : ℕ → ℕ → Rectangle → Type 0
IsInside width height r = (r.left + r.width ≤ width) × (r.top + r.height ≤ height)

abbrev pub IsPointInside : ℕ → ℕ → Point → Type 0
IsPointInside width height p = (p.x ≤ width) × (p.y ≤ height)

-- all points of a line lie in it
pub record IsLineInside (width height : ℕ) (l : Line) : Type 0 where
  pub from : IsPointInside width height l.from
  pub bends : All (IsPointInside width height) l.bends
  pub to : IsPointInside width height l.to

-- the places of a figure's ports: inputs at its upper side, outputs at its lower side
abbrev pub input_place : Figure → Mark → Point
input_place f m = record { x = f.frame.left + m.at; y = f.frame.top }

abbrev pub output_place : Figure → Mark → Point
output_place f m = record { x = f.frame.left + m.at; y = f.frame.top + f.frame.height }

-- the line of a connection leads from its output's place to its input's
pub record Joins (fs : List Figure) (c : Connection) (l : Line) : Type 0 where
  pub from : Figure
  pub from_there : slice_get fs c.from ≡ Some from
  pub output : Mark
  pub output_there : slice_get from.look.outputs c.out_port ≡ Some output
  pub begins : l.from ≡ output_place from output
  pub to : Figure
  pub to_there : slice_get fs c.to ≡ Some to
  pub input : Mark
  pub input_there : slice_get to.look.inputs c.in_port ≡ Some input
  pub ends : l.to ≡ input_place to input

-- the line of the connection with an index
pub record IsLine (fs : List Figure) (cs : List Connection) (k : ℕ) (l : Line) : Type 0 where
  pub number : l.number ≡ k
  pub joins : (c : Connection) → slice_get cs k ≡ Some c → Joins fs c l

-- an element of this name can be in the compound: its name begins with that of the compound, and a
-- slash follows
abbrev pub IsBelow : List ℕ → List ℕ → Type 0
IsBelow compound name =
    IsTrue (bytes_eq compound (take (length compound) name)) × IsTrue (bytes_eq (codes "/") (take 1 (drop (length compound) name)))

-- the frame of a compound lies over no box of an element that is not in the compound
abbrev pub IsClear : List Figure → Frame → Type 0
IsClear fs f = All (λ (g : Figure). Overlap f.around g.frame → IsBelow f.name g.look.name) fs
