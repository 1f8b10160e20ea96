use Rattle.std.proofs.Common.{◌≡◌, arith, ap, ◌∙◌, ℕ, ◌+◌, ◌-◌, List, ◌++◌, length, take, drop}
use Rattle.click_packet.proofs.Places.{prepended, held, refilled}
use Rattle.click_packet.specs.Packet.{Packet}
use Rattle.click_packet.proofs.packet.Packet.prepend_after_move.Goals as goal

pub returns : goal.returns
returns c =
    let p = c.self.inside in
    let front = c.args.front.now in
    let before = c.as_mut_slice-content.ensures.value in
    let content = c.as_mut_slice-content.result.now in
    let moved = c.move_to_end.new.content in
    let seen : List ℕ → Packet = λ bytes. record { bytes = bytes; paint = p.annotations.paint; destination = p.annotations.destination } in
    let bytes = ap (λ (q : Packet). length q.bytes) c.self.view_is in
    let len = held p.content.items p.start p.len (omega arith) in
    let place : 1664 - p.len - length front + length front ≡ length content - p.len = omega (arith, bytes, len, c.requires, ap length before) in
    let written = c.write_at.ensures.front ∙ ap (λ n. front ++ drop n moved) place in
    let same =
    prepended front (drop (length content - p.len) moved) _ p.len written
    ∙ ap (λ bytes. front ++ bytes) (c.move_to_end.ensures.bytes ∙ ap (λ bytes. take p.len (drop p.start bytes)) before) in
    let back =
    ap (λ bytes. take (p.len + length front) (drop (1664 - p.len - length front) bytes))
    (refilled p.content.items c.write_at.new.bytes (c.write_at.ensures.len ∙ c.move_to_end.ensures.len ∙ ap length before)) in
    rw (← c.self.view_is) (ap seen (back ∙ same))
