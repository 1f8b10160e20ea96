use Rattle.std.proofs.Common.{◌≡◌, ◌<◌, [], ◌∷◌, ◌++◌, length, Some, None, ap, arith, refl, sym, ◌∙◌}
use Rattle.click_lines.specs.Reading.{ReadsPacket, before}
use Rattle.click_lines.proofs.CutParts.{after-shorter}
use Rattle.click_lines.proofs.PacketReadback.{all_read, next_packet}
use Rattle.click_lines.proofs.ByteReadback.{one_more}
use Rattle.click_lines.proofs.packet.packets_in.Goals as goal

pub returns-in_default : goal.returns-in_default
returns-in_default c = λ ps h e.
    let rest = c.loop-rest.rest.now in
    let some : 0 < length rest = grind (arith, c.loop-rest-test.true, c.is_empty.ensures) in
    let left = c.loop-rest.invariant ps h e in
    let next = next_packet left.0 rest left.1 left.3 some in
    let reads : ReadsPacket (before 44 rest) c.in_ok-packet.field-0 = rw (← c.cut.ensures.0) c.in_ok-packet.ensures in
    let bad : Some next.0 ≡ None = sym (reads next.0 next.3 next.5) ∙ c.in_default.is in
    absurd cc

pub loop-rest-smaller : goal.loop-rest-smaller
loop-rest-smaller c =
    let rest = c.loop-rest.rest.now in
    let some : 0 < length rest = grind (arith, c.loop-rest-test.true, c.is_empty.ensures) in
    rw c.cut.ensures.1 (after-shorter 44 rest some)

pub loop-rest-preserved : goal.loop-rest-preserved
loop-rest-preserved c = λ ps h e.
    let rest = c.loop-rest.rest.now in
    let some : 0 < length rest = grind (arith, c.loop-rest-test.true, c.is_empty.ensures) in
    let left = c.loop-rest.invariant ps h e in
    let next = next_packet left.0 rest left.1 left.3 some in
    let reads : ReadsPacket (before 44 rest) c.in_ok-packet.field-0 = rw (← c.cut.ensures.0) c.in_ok-packet.ensures in
    let found : Some c.in-Some.packet ≡ Some next.0 = sym c.in-Some.is ∙ reads next.0 next.3 next.5 in
    let same : c.in-Some.packet ≡ next.0 = cc in
    let pushed : c.push.new.self ≡ c.loop-rest.packets ++ next.0 ∷ [] = rw (c.in_ok-push.ensures.ok, same) refl in
    (next.1, next.4, rw pushed (one_more ps c.loop-rest.packets left.0 next.0 next.1 left.2 next.2), rw c.cut.ensures.1 next.6)

pub returns : goal.returns
returns c = λ ps h e.
    let rest = c.loop-rest.rest.now in
    let none : length rest ≡ 0 = grind (arith, c.loop-rest-test.false, c.is_empty.ensures) in
    let left = c.loop-rest.invariant ps h e in
    ap Some (sym (all_read ps left.0 c.loop-rest.packets rest left.1 left.2 left.3 none))
