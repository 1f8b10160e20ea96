-- Boxes while they are placed.
use Rattle.std.specs.Prelude.{◌≡◌, ◌≢◌, ℕ, ◌+◌, ◌*◌, ◌<◌, ◌≤◌, List, length, All, slice_index_or}
use Rattle.click_draw.specs.Picture.{Overlap}
use Rattle.click_draw.specs.declared.drawing.Rectangle.{Rectangle}
use Rattle.click_draw.specs.declared.placing.Slot.{Slot}
use Rattle.click_draw.specs.declared.placing.Pen.{Pen}

-- The rectangle is left of the free part of the pen's row, or above the row. It ends no further
-- right than the pen's `furthest`.
pub record IsBehind (p : Pen) (r : Rectangle) : Type 0 where
  pub beside : p.top < r.top + r.height → r.left + r.width ≤ p.free
  pub above : r.top + r.height ≤ p.top + 46
  pub within : r.left + r.width ≤ p.furthest

-- no two overlap
abbrev pub NoneOverlap : List Rectangle → Type 0
NoneOverlap rs = (m n : ℕ) (d : Rectangle) → m < length rs → n < length rs → m ≢ n → Overlap (slice_index_or rs m d) (slice_index_or rs n d) → ⊥

pub record ArePacked (rs : List Rectangle) (p : Pen) : Type 0 where
  pub behind : All (IsBehind p) rs
  pub apart : NoneOverlap rs

-- a bound of how far the pen has moved after k boxes
pub record IsNear (k : ℕ) (p : Pen) : Type 0 where
  pub top : p.top ≤ 4000 + 4050 * k
  pub free : p.free ≤ 8589934592 + 65536 * k
  pub furthest : p.furthest ≤ 8589934592 + 65536 * k

-- the pen places a box of this width and continues after it
pub record Draws (p : Pen) (wide : ℕ) (r : Rectangle) (q : Pen) : Type 0 where
  pub width : r.width ≡ wide
  pub height : r.height ≡ 46
  pub top : r.top ≡ q.top
  pub down : p.top ≤ q.top
  pub beside : q.top < p.top + 46 → (q.top ≡ p.top) × (p.free ≤ r.left)
  pub free : r.left + r.width ≤ q.free
  pub furthest : p.furthest ≤ q.furthest
  pub within : r.left + r.width ≤ q.furthest

-- the box of a node has the width of the node and the height of a box
abbrev pub IsSized : List ℕ → List Rectangle → ℕ → Type 0
IsSized widths rs n = (d : Rectangle) → ((slice_index_or rs n d).width ≡ slice_index_or widths n 0) × ((slice_index_or rs n d).height ≡ 46)

-- the slots are `count` nodes in some order
pub record AreSlots (count : ℕ) (slots : List Slot) : Type 0 where
  pub all : length slots ≡ count
  pub within : All (λ (s : Slot). s.node < count) slots
  pub each : (n : ℕ) → n < count → (j : ℕ) × (j < length slots) × ((d : Slot) → (slice_index_or slots j d).node ≡ n)
