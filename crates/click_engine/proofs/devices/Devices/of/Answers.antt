use Rattle.std.proofs.Common.{◌≡◌, ◌+◌, ◌++◌, ◌∷◌, [], ◌∙◌, ap, sym, take, arith}
use Rattle.click_engine.specs.Devices.{devices_from}
use Rattle.std.proofs.lemmas.List.{length_push}
use Rattle.click_engine.proofs.OfNames.FirstDevices.{no_device, one_device, known_again, first_known, added}
use Rattle.click_engine.proofs.devices.Devices.of.Goals as goal

pub loop-at-preserved-in_default : goal.loop-at-preserved-in_default
loop-at-preserved-in_default c =
    record {
      found = c.loop-at.invariant.found ∙ no_device c.args.direction c.args.states.now c.loop-at.at c.index-states-at.result c.loop-at-test.true c.index-states-at.is c.in_default.ensures;
      even = c.loop-at.invariant.even;
    }

pub loop-at-preserved-then-has : goal.loop-at-preserved-then-has
loop-at-preserved-then-has c =
    let at = c.loop-at.at in let name = c.in-Some.name.now in let even = c.loop-at.invariant.even in
    record {
      found = known_again c.loop-at.names c.loop-at.places.items name at even (sym c.if-has.ensures) ∙ ap (added name at) c.loop-at.invariant.found
          ∙ one_device c.args.direction c.args.states.now at c.index-states-at.result c.loop-at-test.true c.index-states-at.is name c.in-Some.ensures;
      even = even;
    }

pub loop-at-preserved : goal.loop-at-preserved
loop-at-preserved c =
    let at = c.loop-at.at in let name = c.in-Some.name.now in let even = c.loop-at.invariant.even in
    let new = sym c.if-has.ensures in
    let names : c.add.new.self ≡ c.loop-at.names ++ name ∷ [] = rw new at c.in_ok-add.ensures.added in
    record {
      found = rw (names, c.in_ok-push.ensures.items) (◌∙◌ {c = devices_from c.args.direction 0 (take (at + 1) c.args.states.now)} (first_known c.loop-at.names c.loop-at.places.items name at even new) (ap (added name at) c.loop-at.invariant.found
          ∙ one_device c.args.direction c.args.states.now at c.index-states-at.result c.loop-at-test.true c.index-states-at.is name c.in-Some.ensures));
      even = rw (names, c.in_ok-push.ensures.items) (omega (arith, length_push c.loop-at.names name, length_push c.loop-at.places.items at, even));
    }
