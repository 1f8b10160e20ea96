use Rattle.std.proofs.Common.{◌≡◌, ◌<◌, length, Some, None, ap, arith, sym, ◌∙◌}
use Rattle.click_lines.specs.Digits.{IsPacketOf, SpellsNone}
use Rattle.click_lines.specs.Reading.{ReadsAnnotations, before, after}
use Rattle.click_lines.proofs.PacketReadback.{marked_back, marks_read, plain_back, spells_some}
use Rattle.click_lines.proofs.packet.packet_in.Goals as goal
use Rattle.click_lines.proofs.packet.packet_in.Goals.{then-not-is_empty+in-Some-read_annotations, else-not-is_empty}

pub returns-in_default : goal.returns-in_default
returns-in_default c = λ p h e.
    let word = c.args.word.now in
    let none : SpellsNone (before 58 word) = rw (← c.cut.ensures.0) (rw c.in_default.is at c.in_ok-packet.ensures) in
    absurd (spells_some p word h e none)

pub returns-in_default-read_annotations : goal.returns-in_default-read_annotations
returns-in_default-read_annotations c = λ p h e.
    let word = c.args.word.now in
    let some : 0 < length (after 58 word) = rw (← c.cut.ensures.1) (grind (arith, c.if-not-is_empty.true, c.is_empty.ensures)) in
    let reads : ReadsAnnotations (after 58 word) c.in-Some.packet c.read_annotations.new.packet c.read_annotations.result = rw (← c.cut.ensures.1) c.read_annotations.ensures in
    let found = marks_read p c.in-Some.packet c.read_annotations.new.packet word c.read_annotations.result h.0 e some reads in
    let bad : Some tt ≡ None = sym found.0 ∙ c.in_default-read_annotations.is in
    absurd cc

pub returns : goal.returns
returns c = λ p h e.
    let word = c.args.word.now in
    let q = c.in-Some.packet in
    let escaped : IsPacketOf (before 58 word) q = rw (← c.cut.ensures.0) (rw c.in-Some.is at c.in_ok-packet.ensures) in
    let same : c.if-not-is_empty.packet ≡ p = elim c.if-not-is_empty.branch [
      | then-not-is_empty+in-Some-read_annotations w ↦
          let some : 0 < length (after 58 word) = rw (← c.cut.ensures.1) (grind (arith, w.if-not-is_empty.true, c.is_empty.ensures)) in
          let reads : ReadsAnnotations (after 58 word) q w.read_annotations.new.packet w.read_annotations.result = rw (← c.cut.ensures.1) w.read_annotations.ensures in
          w.packet-is ∙ marked_back p q w.read_annotations.new.packet word h.0 e escaped (marks_read p q w.read_annotations.new.packet word w.read_annotations.result h.0 e some reads).1
      | else-not-is_empty w ↦
          let none : length (after 58 word) ≡ 0 = rw (← c.cut.ensures.1) (grind (arith, w.if-not-is_empty.false, c.is_empty.ensures)) in
          w.packet-is ∙ plain_back p q word h.0 e escaped none
    ] in
    ap Some (c.in_ok-of.ensures ∙ same)
