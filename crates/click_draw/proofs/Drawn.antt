-- Lemmas about figures in boxes that were placed.
use Rattle.std.proofs.Common.{◌≡◌, ℕ, ◌+◌, ◌*◌, ◌<◌, ◌≤◌, List, length, get_or, ap, ◌∙◌, sym, subst, arith, Contains, All}
use Rattle.std.proofs.lemmas.List.{get_or_default}
use Rattle.std.proofs.lemmas.Option.{get_or_from_slice_get}
use Rattle.click_classes.specs.declared.ports.Side.{Side}
use Rattle.click_classes.specs.declared.ports.Side.TheVariants.{Input, Output}
use Rattle.click_expand.specs.declared.flat.Connection.{Connection}
use Rattle.click_ports.specs.Ports.{used}
use Rattle.click_ports.specs.Net.{Net, IsLawfulNet}
use Rattle.click_ports.proofs.PortUses.{has-end}
use Rattle.click_draw.specs.Measures.{element_width, port_offset}
use Rattle.click_draw.specs.Picture.{EachAt, AreMarks, IsFigure, AreApart, IsInside, Overlap}
use Rattle.click_draw.specs.kept.Boxed.{IsBoxed}
use Rattle.click_draw.specs.kept.Joined.{AreJoined, IsFigureInside}
use Rattle.click_draw.specs.kept.Placing.{IsSized, NoneOverlap}
use Rattle.click_draw.specs.declared.drawing.Rectangle.{Rectangle}
use Rattle.click_draw.specs.declared.drawing.Mark.{Mark}
use Rattle.click_draw.specs.declared.drawing.Figure.{Figure}

-- the frame of a figure is the box with its index
frame-box : (net : Net) (boxes : List Rectangle) (fs : List Figure) → EachAt (IsBoxed net boxes) fs → (k : ℕ) (d : Figure) → k < length fs → (r : Rectangle) →
    get_or boxes k r ≡ (get_or fs k d).frame
frame-box net boxes fs h k d l r = get_or_from_slice_get boxes k (get_or fs k d).frame r (h k d l).frame

pub figures-are : (net : Net) (boxes : List Rectangle) (fs : List Figure) (widths first : List ℕ) → EachAt (IsBoxed net boxes) fs →
    length fs ≡ length first → length first ≤ length widths → ((n : ℕ) → n < length first → get_or widths n 0 ≡ get_or first n 0) →
    ((n : ℕ) → n < length widths → IsSized widths boxes n) → EachAt (λ (e w : ℕ). w ≡ element_width net e) first → EachAt (IsFigure net) fs
figures-are net boxes fs widths first h e m kept sized each k d l =
    let f : k < length first = omega (arith, l, e) in
    let b = frame-box net boxes fs h k d l (get_or fs k d).frame in
    let s = sized k (omega (arith, f, m)) (get_or fs k d).frame in
    record {
      look = (h k d l).look;
      width = ap (λ (r : Rectangle). r.width) (sym b) ∙ s.0 ∙ kept k f ∙ each k 0 f;
      height = ap (λ (r : Rectangle). r.height) (sym b) ∙ s.1;
    }

pub figures-apart : (net : Net) (boxes : List Rectangle) (fs : List Figure) → EachAt (IsBoxed net boxes) fs → length fs ≤ length boxes → NoneOverlap boxes → AreApart fs
figures-apart net boxes fs h e a m n d l k o =
    let r = (get_or fs m d).frame in
    let p = frame-box net boxes fs h m d (omega (arith, l, k)) r in
    let q = frame-box net boxes fs h n d k r in
    a m n r (omega (arith, l, k, e)) (omega (arith, k, e)) (λ x. omega (arith, l, x))
    (subst (λ (x : Rectangle). Overlap x (get_or boxes n r)) (sym p) (subst (λ (y : Rectangle). Overlap (get_or fs m d).frame y) (sym q) o))

pub frames-inside : (net : Net) (boxes : List Rectangle) (fs : List Figure) (width height : ℕ) → EachAt (IsBoxed net boxes) fs → length fs ≤ length boxes →
    All (IsInside width height) boxes → All (λ (f : Figure). IsInside width height f.frame) fs
frames-inside net boxes fs width height h e a k d l =
    let r = (get_or fs k d).frame in
    subst (IsInside width height) (frame-box net boxes fs h k d l r) (a k r (omega (arith, l, e)))

-- a port is within the width of its box
offset-within : (w n p : ℕ) → 20 * n ≤ w → p < n → port_offset w n p ≤ w
offset-within w n p h l = omega arith

wide-enough : (net : Net) (e : ℕ) (s : Side) → 20 * used net.connections e s ≤ element_width net e
unfolding element_width
wide-enough net e Input = omega arith
wide-enough net e Output = omega arith

marks-within : (net : Net) (e : ℕ) (s : Side) (ms : List Mark) → AreMarks net e s ms → All (λ (m : Mark). m.at ≤ element_width net e) ms
marks-within net e s ms h k d l =
    let m = (h.each k d l).at in
    let all = h.all in
    let o = offset-within (element_width net e) (used net.connections e s) k (wide-enough net e s) (omega (arith, l, all)) in
    rw m o

pub figures-inside : (net : Net) (fs : List Figure) (width height : ℕ) → EachAt (IsFigure net) fs → All (λ (f : Figure). IsInside width height f.frame) fs →
    All (IsFigureInside width height) fs
figures-inside net fs width height h a k d l =
    let f = h k d l in
    let w = f.width in
    record {
      frame = a k d l;
      inputs = rw w (marks-within net k Input _ f.look.inputs);
      outputs = rw w (marks-within net k Output _ f.look.outputs);
    }

pub all-joined : (net : Net) (fs : List Figure) → IsLawfulNet net → EachAt (IsFigure net) fs → length fs ≡ length net.shapes → All (AreJoined fs) net.connections
all-joined net fs lawful h e k d l =
    let cs = net.connections in
    let c : Connection = get_or cs k d in
    let i : Contains cs c = (k, l, get_or_default cs k c d l) in
    let w = lawful.within k d l in
    let from : c.from < length fs = omega (arith, w.0, e) in
    let to : c.to < length fs = omega (arith, w.1, e) in
    record {
      from = from;
      output = λ x. let a = (h c.from x from).look.outputs.all in let b = has-end cs c Output i in omega (arith, a, b);
      to = to;
      input = λ x. let a = (h c.to x to).look.inputs.all in let b = has-end cs c Input i in omega (arith, a, b);
    }

-- the figures that the steps of a layout return are those of the net
pub drawn-figures : (net : Net) (b boxes : List Rectangle) (fs : List Figure) (w widths first : List ℕ) (count : ℕ) → b ≡ boxes → w ≡ widths →
    EachAt (IsBoxed net b) fs → length fs ≡ length net.shapes → length first ≡ length net.shapes → length widths ≡ length first + count →
    ((n : ℕ) → n < length first → get_or widths n 0 ≡ get_or first n 0) → ((n : ℕ) → n < length w → IsSized w boxes n) →
    EachAt (λ (e w : ℕ). w ≡ element_width net e) first → EachAt (IsFigure net) fs
drawn-figures net b boxes fs w widths first count eb ew h lf le lw kept sized each =
    figures-are net boxes fs widths first (subst (λ (bs : List Rectangle). EachAt (IsBoxed net bs) fs) eb h) (omega (arith, lf, le)) (omega (arith, lw)) kept
    (subst (λ (ws : List ℕ). (n : ℕ) → n < length ws → IsSized ws boxes n) ew sized) each
