-- The first packet is copied from its slot, and the ring begins at the next one.
use Rattle.std.proofs.Common.{◌≡◌, ◌∷◌, ◌∙◌, ap, sym, length, List, drop, get_or, arith}
use Rattle.click_packet.specs.Packet.{Packet}
use Rattle.click_classes.specs.PacketList.{PacketList}
use Rattle.click_classes.specs.kept.Ring.{window}
use Rattle.click_classes.proofs.OfQueues.RingSlots.{front_gone, window_first}
use Rattle.click_classes.proofs.packet_list.PacketList.pop_front.Goals as goal

pub returns-clause-first : goal.returns-clause-first
returns-clause-first c =
    let q = c.self.inside in
    let next = c.leave_first.ensures in
    let made = c.len-made.ensures in
    let (some, fits, low, start, rest) = front_gone q.first q.count _ q.room _ _ _ q.slots.items c.self.invariant q.slots.ok.0 (omega (arith, c.requires, ap (λ (v : PacketList). length v.packets) c.self.view_is)) next.count
    (λ more near. next.next more (omega (arith, near, made))) (λ last. next.around (omega (arith, last, made))) next.anew in
    let copied : get_or q.slots.items q.first c.index.result.now ≡ c.copy_from.new.self = sym c.index.ensures ∙ sym c.copy_from.ensures in
    ap (λ (v : PacketList). v.packets) (sym c.self.view_is)
    ∙ window_first q.first q.count q.slots.items start c.index.result.now some fits low
    ∙ ap (λ (p : Packet). p ∷ drop 1 (window q.first q.count q.slots.items)) copied
    ∙ ap (λ (ps : List Packet). c.copy_from.new.self ∷ ps) (sym rest)
