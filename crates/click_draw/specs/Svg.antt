-- A drawing as SVG.
use Rattle.std.specs.Prelude.{ℕ, ◌-◌, ◌/◌, ◌==◌, List, [], ◌∷◌, ◌++◌, flat_map, Bool, true, false, codes, decimal, if◌then◌else◌}
use Rattle.click_base.specs.declared.class.Class.{Class}
use Rattle.click_base.specs.declared.class.Class.TheVariants as class
use Rattle.click_base.specs.Classes.{name}
use Rattle.click_draw.specs.declared.drawing.Point.{Point}
use Rattle.click_draw.specs.declared.drawing.Rectangle.{Rectangle}
use Rattle.click_draw.specs.declared.drawing.Mark.{Mark}
use Rattle.click_draw.specs.declared.drawing.Look.{Look}
use Rattle.click_draw.specs.declared.drawing.Figure.{Figure}
use Rattle.click_draw.specs.declared.drawing.Line.{Line}
use Rattle.click_draw.specs.declared.drawing.Frame.{Frame}
use Rattle.click_draw.specs.declared.drawing.Drawing.{Drawing}

-- `&`, `<`, `>` and the quotation mark have a meaning in XML
abbrev pub escaped_byte : ℕ → List ℕ
escaped_byte b =
    if b == 38 then codes "&amp;" else (if b == 60 then codes "&lt;" else (if b == 62 then codes "&gt;" else (if b == 34 then codes "&quot;" else b ∷ [])))

abbrev pub escaped : List ℕ → List ℕ
escaped text = flat_map escaped_byte text

unfoldable pub pair : ℕ → List ℕ → ℕ → List ℕ
pair x between y = decimal x ++ between ++ decimal y

unfoldable pub size : ℕ → ℕ → List ℕ
size width height = codes " width=\"" ++ pair width (codes "\" height=\"") height ++ codes "\""

-- coordinates in a group count from the upper left corner of the rectangle
unfoldable pub moved : Rectangle → List ℕ
moved to = codes " transform=\"translate(" ++ pair to.left (codes ",") to.top ++ codes ")\">"

-- the frame of a compound, with its name in the upper left corner
unfoldable pub frame_svg : Frame → List ℕ
frame_svg f =
    codes "<g class=\"frame\"" ++ moved f.around ++ codes "<rect rx=\"8\"" ++ size f.around.width f.around.height ++ codes "/><text x=\"8\" y=\"14\">" ++
    escaped f.name ++ codes "</text></g>\n"

unfoldable pub next_point : Point → List ℕ
next_point p = codes " " ++ pair p.x (codes ",") p.y

-- the line of a connection, with its number
unfoldable pub line_svg : Line → List ℕ
line_svg l =
    codes "<polyline id=\"c" ++ decimal l.number ++ codes "\" points=\"" ++ pair l.from.x (codes ",") l.from.y ++ flat_map next_point l.bends ++
    next_point l.to ++ codes "\"/>\n"

abbrev pub kind_name : Bool → List ℕ
kind_name true = codes "pull"
kind_name false = codes "push"

unfoldable pub outline : List ℕ → ℕ → ℕ → List ℕ → List ℕ
outline kind x y line = codes "<path class=\"" ++ kind ++ codes "\" d=\"M" ++ pair x (codes " ") y ++ line ++ codes "\"/>"

-- an agnostic port has two outlines
abbrev pub rim : Bool → ℕ → ℕ → List ℕ → List ℕ
rim true x y line = outline (codes "rim") x y line
rim false x y line = []

-- an input is a triangle that points into the box, filled if push and hollow if pull
unfoldable pub input_svg : Mark → List ℕ
input_svg m = outline (kind_name m.pull) (m.at - 5) 0 (codes "h10l-5 7z") ++ rim m.agnostic (m.at - 9) 0 (codes "h18l-9 12z")

-- an output is a square at the lower side of a box of this height, filled if push and hollow if
-- pull
unfoldable pub output_svg : ℕ → Mark → List ℕ
output_svg height m =
    outline (kind_name m.pull) (m.at - 4) (height - 7) (codes "h8v7h-8z") ++ rim m.agnostic (m.at - 7) (height - 10) (codes "h14v10h-14z")

unfoldable pub rib : ℕ → ℕ → List ℕ
rib width below = codes "<path class=\"rib\" d=\"M" ++ pair 0 (codes " ") below ++ codes "h" ++ decimal width ++ codes "\"/>"

unfoldable pub all_ribs : ℕ → List ℕ
all_ribs width = rib width 36 ++ rib width 39 ++ rib width 42

abbrev pub stores : Class → Bool
stores class.Queue = true
stores class.FrontDropQueue = true
stores _ = false

-- a class that stores packets has ribs
abbrev pub ribs : Bool → ℕ → List ℕ
ribs true width = all_ribs width
ribs false width = []

-- the name and the class, centered in a box of this width
unfoldable pub texts : Look → ℕ → List ℕ
texts l width =
    codes "<text y=\"21\" x=\"" ++ decimal (width / 2) ++ codes "\">" ++ escaped l.name ++ codes "</text><text class=\"class\" y=\"33\" x=\"" ++
    decimal (width / 2) ++ codes "\">" ++ name l.class ++ codes "</text>"

unfoldable pub box_svg : Figure → List ℕ
box_svg f =
    codes "<rect class=\"box\"" ++ size f.frame.width f.frame.height ++ codes "/>" ++ ribs (stores f.look.class) f.frame.width ++ texts f.look f.frame.width

-- an element, with its number: its box and the marks of its ports
unfoldable pub figure_svg : Figure → List ℕ
figure_svg f =
    codes "<g id=\"e" ++ decimal f.look.number ++ codes "\"" ++ moved f.frame ++ box_svg f ++ flat_map input_svg f.look.inputs ++
    flat_map (output_svg f.frame.height) f.look.outputs ++ codes "</g>\n"

unfoldable pub head : ℕ → ℕ → List ℕ
head width height =
    codes "<svg xmlns=\"http://www.w3.org/2000/svg\"" ++ size width height ++ codes " viewBox=\"0 0 " ++ pair width (codes " ") height ++ codes "\">\n"

-- the whole text, with this style; what comes later is drawn over what comes before it
unfoldable pub svg_of : List ℕ → Drawing → List ℕ
svg_of style d =
    head d.width d.height ++ style ++ flat_map frame_svg d.frames ++ flat_map line_svg d.lines ++ flat_map figure_svg d.figures ++ codes "</svg>\n"
