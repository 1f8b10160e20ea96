use Rattle.std.proofs.Common.{arith, ap, ◌∙◌, ℕ, ◌+◌, ◌-◌, List, take, drop}
use Rattle.click_packet.proofs.Places.{stripped}
use Rattle.click_packet.specs.Packet.{Packet}
use Rattle.click_packet.proofs.packet.Packet.strip.Goals as goal

pub returns : goal.returns
returns c =
    let p = c.self.inside in
    let seen : List ℕ → Packet = λ bytes. record { bytes = bytes; paint = p.annotations.paint; destination = p.annotations.destination } in
    let same = ap (λ n. take (p.len - n) (drop (p.start + n) p.content.items)) c.min-stripped.ensures ∙ stripped p.content.items p.start p.len c.args.count (omega arith) in
    rw (← c.self.view_is) (ap seen same)
