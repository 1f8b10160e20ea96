-- The copied packet is the next one.
use Rattle.std.proofs.Common.{◌≡◌, ◌+◌, ◌∷◌, [], ◌++◌, take, refl, ap, ◌∙◌}
use Rattle.std.proofs.lemmas.List.{take_more}
use Rattle.std.proofs.lemmas.Option.{slice_get_within, get_or_from_slice_get}
use Rattle.click_classes.specs.PacketList.{PacketList}
use Rattle.click_classes.proofs.packet_list.PacketList.fill.Goals as goal

pub loop-place-preserved : goal.loop-place-preserved
loop-place-preserved c =
    let ps = c.args.old.now.packets in
    let at = c.loop-place.place in
    let p = c.packet.result.now in
    let more = take_more ps at p (slice_get_within ps at p c.packet.ensures) in
    let same = get_or_from_slice_get ps at p p c.packet.ensures in
    let next : take (at + 1) ps ≡ take at ps ++ p ∷ [] = rw same at more in
    record {
      room = ap (λ (v : PacketList). v.capacity) c.push_back.ensures ∙ c.loop-place.invariant.room;
      kept = ap (λ (v : PacketList). v.packets) c.push_back.ensures ∙ rw (c.loop-place.invariant.kept, next) refl;
    }
