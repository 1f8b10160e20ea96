use Rattle.std.proofs.Common.{◌≡◌, ◌<◌, ◌-◌, suc, ◌∙◌, ap, sym, length, [], arith}
use Rattle.std.specs.Prelude.{slice_index_or}
use Rattle.click_engine.specs.Plant.{Plant}
use Rattle.click_engine.specs.TakeOver.{named}
use Rattle.click_engine.specs.kept.Taking.{taken_at}
use Rattle.click_engine.proofs.OfPlants.ElementTakeOver.{taken_next}
use Rattle.click_ports.specs.Net.{Net}
use Rattle.click_engine.proofs.plant.Plant.take_over.Goals as goal

pub loop-at-preserved : goal.loop-at-preserved
loop-at-preserved c =
    let v = c.args.self.now in let old = c.args.old.now in let at = c.loop-at.at - 1 in
    let net = c.net.ensures ∙ ap (λ (p : Plant). p.net) c.self.view_is in
    let inside : at < length v.net.names = omega (arith, c.loop-at-test.true, c.loop-at.auto.at, ap length c.shapes-at.ensures.value, c.shapes-at.ensures.sound.named, ap (λ (n : Net). length n.names) net) in
    let whole : c.loop-at.at ≡ suc at = omega (arith, c.loop-at-test.true) in
    let before : at < c.loop-at.at = omega (arith, c.loop-at-test.true) in
    let names = ap (λ (p : Plant). p.net.names) c.loop-at.invariant.taken in
    record {
      taken = c.take_over_at.ensures.taken ∙ ap (λ (p : Plant). taken_at p c.loop-at.old at) c.loop-at.invariant.taken
          ∙ ap (λ es. record v { elements = es }) (taken_next old c.loop-at.old v.net.names v.elements c.loop-at.at at whole inside (c.loop-at.invariant.kept.finds at before));
      kept = record {
        overruns = c.take_over_at.ensures.kept.overruns ∙ c.loop-at.invariant.kept.overruns;
        finds = λ j h.
            ap (λ l. named c.take_over_at.new.old (slice_index_or l j [])) (sym names) ∙ c.take_over_at.ensures.kept.finds j h
            ∙ ap (λ l. named c.loop-at.old (slice_index_or l j [])) names ∙ c.loop-at.invariant.kept.finds j (omega (arith, h, before));
      };
    }
