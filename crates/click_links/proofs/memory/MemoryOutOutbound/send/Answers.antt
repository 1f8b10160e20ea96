use Rattle.std.proofs.Common.{ℕ, List, [], ◌∷◌, ◌++◌, if◌then◌else◌, sym, ap, ◌∙◌}
use Rattle.click_packet.specs.Packet.{Packet}
use Rattle.click_links.specs.Ends.{Attempt, gone}
use Rattle.click_links.proofs.PacketAttempts.{gone_one}
use Rattle.click_links.proofs.memory.MemoryOutOutbound.send.Goals as goal

pub invariant_of-self : goal.invariant_of-self
invariant_of-self c =
    c.keep-sent.ensures
    ∙ (ap (λ (l : List (List ℕ × Packet)). l ++ (if c.keep-sent.result then (c.args.device.now, c.args.packet.now) ∷ [] else [])) c.self.invariant
    ∙ (sym (gone_one c.self.inside.tried c.args.device.now c.args.packet.now c.keep-sent.result)
    ∙ ap (λ (l : List Attempt). gone l) (sym c.add.ensures)))
