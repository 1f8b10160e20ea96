use Rattle.std.proofs.Common.{arith, refl, ap, ◌∙◌, ℕ, ◌+◌, ◌-◌, List, ◌++◌, length, drop}
use Rattle.click_packet.proofs.Places.{fronted}
use Rattle.click_packet.specs.Packet.{Packet}
use Rattle.click_packet.proofs.packet.Packet.prepend.Goals as goal

pub returns-clause-ok : goal.returns-clause-ok
returns-clause-ok c =
    let p = c.self.inside in
    let front = c.args.front.now in
    let before = c.as_mut_slice.ensures.value in
    let seen : List ℕ → Packet = λ bytes. record { bytes = bytes; paint = p.annotations.paint; destination = p.annotations.destination } in
    let put = c.write_at.ensures.front ∙ ap (λ bytes. front ++ drop (p.start - length front + length front) bytes) before in
    rw (← c.self.view_is) (ap seen (fronted p.content.items c.write_at.new.bytes front p.start p.len (length front) refl (omega arith) (c.write_at.ensures.len ∙ ap length before) put))
