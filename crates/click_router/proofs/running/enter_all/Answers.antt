use Rattle.std.proofs.Common.{◌≡◌, ◌+◌, ◌∷◌, drop, sym, ap, ◌∙◌}
use Rattle.std.proofs.lemmas.List.{drop_more}
use Rattle.click_engine.specs.Rounds.{arrive}
use Rattle.click_router.specs.One.{arrivals}
use Rattle.click_router.proofs.running.enter_all.Goals as goal

pub loop-packet-preserved : goal.loop-packet-preserved
loop-packet-preserved c =
    let ps = c.args.taken.now in let i = c.loop-packet.packet-index in let p = c.packet-item.result in let device = c.args.device.now in
    let next : drop i ps ≡ p ∷ drop (i + 1) ps = drop_more ps i p c.loop-packet-test.true ∙ ap (λ x. x ∷ drop (i + 1) ps) (sym c.packet-item.is) in
    let entered : c.enter-entered.new.self ≡ arrive c.loop-packet.plant device p = c.enter-entered.ensures.plant ∙ ap (arrive c.loop-packet.plant device) c.write_to.ensures in
    ap (λ v. arrivals v device (drop (i + 1) ps)) entered ∙ (sym (ap (arrivals c.loop-packet.plant device) next) ∙ c.loop-packet.invariant)
