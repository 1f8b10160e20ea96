use Rattle.std.proofs.Common.{arith, ap, ◌∙◌, ℕ, ◌+◌, ◌-◌, List, ◌++◌, length, drop}
use Rattle.click_packet.proofs.Places.{fronted}
use Rattle.click_packet.specs.Packet.{Packet}
use Rattle.click_packet.proofs.packet.Packet.prepend_array.Goals as goal

pub returns-then-self-2-clause-ok : goal.returns-then-self-2-clause-ok
returns-then-self-2-clause-ok g c =
    let p = c.self.inside in
    let front = c.args.front.now in
    let before = c.as_mut_slice.ensures.value in
    let seen : List ℕ → Packet = λ bytes. record { bytes = bytes; paint = p.annotations.paint; destination = p.annotations.destination } in
    let put = c.write_array_at.ensures.front ∙ ap (λ bytes. front ++ drop (p.start - g.row.N + g.row.N) bytes) before in
    rw (← c.self.view_is) (ap seen (fronted p.content.items c.write_array_at.new.bytes front p.start p.len g.row.N (omega arith) (omega arith) (c.write_array_at.ensures.len ∙ ap length before) put))
