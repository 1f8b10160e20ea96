use Rattle.std.proofs.Common.{◌<◌, ◌≤◌, ◌∙◌, ap, sym, length, arith}
use Rattle.std.specs.Str.{bytes_eq}
use Rattle.std.specs.List.{position_from}
use Rattle.std.proofs.lemmas.List.{drop_all}
use Rattle.click_engine.proofs.OfNames.FirstNames.{is_first, is_later}
use Rattle.click_engine.proofs.OfNames.NearNames.{found_first}
use Rattle.click_engine.proofs.element_names.first_named.Goals as goal

pub loop-at-init : goal.loop-at-init
loop-at-init c = found_first c.args.name.now c.args.net.now.names

pub returns-then-eq : goal.returns-then-eq
returns-then-eq c =
    let inside : c.loop-at.at < length c.args.net.now.names = omega (arith, c.loop-at-test.true, ap length c.shapes-at-end.ensures.value, c.shapes-at-end.ensures.sound.named) in
    is_first c.args.name.now c.args.net.now.names c.loop-at.at c.name.result.now inside c.name.ensures.value c.loop-at.invariant (sym c.eq.ensures ∙ c.if-eq.true)

pub loop-at-preserved : goal.loop-at-preserved
loop-at-preserved c =
    let inside : c.loop-at.at < length c.args.net.now.names = omega (arith, c.loop-at-test.true, ap length c.shapes-at-end.ensures.value, c.shapes-at-end.ensures.sound.named) in
    is_later c.args.name.now c.args.net.now.names c.loop-at.at c.name.result.now inside c.name.ensures.value c.loop-at.invariant (sym c.eq.ensures ∙ c.if-eq.false)

pub returns : goal.returns
returns c =
    let names = c.args.net.now.names in
    let past : length names ≤ c.loop-at.at = omega (arith, c.loop-at-test.false, ap length c.shapes-at-end.ensures.value, c.shapes-at-end.ensures.sound.named) in
    sym (c.loop-at.invariant ∙ ap (position_from (bytes_eq c.args.name.now) c.loop-at.at) (drop_all c.loop-at.at names past))
