use Rattle.std.proofs.Common.{◌≡◌, length}
use Rattle.click_draw.specs.Picture.{EachAt, IsMark}
use Rattle.click_draw.proofs.looks.marks_of.Given as goal

abbrev pub invariant-loop-port : goal.invariant-loop-port
invariant-loop-port l = record { all : length l.marks ≡ l.port; each : EachAt (IsMark l.net l.element l.side) l.marks }
