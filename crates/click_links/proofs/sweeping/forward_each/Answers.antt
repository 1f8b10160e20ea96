use Rattle.std.proofs.Common.{◌∙◌, refl, rules}
use Rattle.click_links.proofs.Gifts.{forwards_none, forwards_then, forwards_among}
use Rattle.click_links.proofs.TurnSequences.{name_at, each_none, each_next}
use Rattle.click_links.proofs.sweeping.forward_each.Goals as goal

pub returns-in_default-clause-forwards : goal.returns-in_default-clause-forwards
returns-in_default-clause-forwards g c = forwards_none _ _ _

pub loop-device-init : goal.loop-device-init
loop-device-init g c = record {
  same = (refl, refl, refl);
  room = search rules;
  each = each_none c.args.seat.now.feeds _ _ _ c.in-Ok.ensures.items;
  forwards = forwards_none _ _ _;
}

pub returns-in_err-turn-clause-forwards : goal.returns-in_err-turn-clause-forwards
returns-in_err-turn-clause-forwards g c =
    forwards_then _ _ _ _ _ _ _ c.loop-device.invariant.forwards
    (forwards_among _ _ _ _ _ _ (name_at c.args.devices.now c.loop-device.device-index c.device-item.result c.loop-device-test.true c.device-item.is) c.in_err-turn.ensures.forwards)

pub loop-device-preserved : goal.loop-device-preserved
loop-device-preserved g c =
    let h = c.loop-device.invariant in
    record {
      same = (c.forward.ensures.same.0 ∙ h.same.0, c.forward.ensures.same.1 ∙ h.same.1, c.forward.ensures.same.2 ∙ h.same.2);
      room = search rules;
      each = each_next c.args.devices.now c.loop-device.device-index c.device-item.result _ _ _ _ _ _ _ _ _ _ _ c.loop-device-test.true c.device-item.is h.same.2 c.push_reserved.ensures.items h.each c.in_ok-turn.ensures.ok;
      forwards = forwards_then _ _ _ _ _ _ _ h.forwards
          (forwards_among _ _ _ _ _ _ (name_at c.args.devices.now c.loop-device.device-index c.device-item.result c.loop-device-test.true c.device-item.is) c.in_ok-turn.ensures.forwards);
    }
