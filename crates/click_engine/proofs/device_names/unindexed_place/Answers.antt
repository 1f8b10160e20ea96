use Rattle.std.proofs.Common.{◌≡◌, true, false, rules}
use Rattle.std.specs.Str.{bytes_eq}
use Rattle.click_engine.specs.kept.Tables.{texts}
use Rattle.click_engine.proofs.OfNames.NearNames.{found_first, found_here, found_later}
use Rattle.click_engine.proofs.device_names.unindexed_place.Goals as goal

pub loop-at-init : goal.loop-at-init
loop-at-init c = found_first c.args.name.now (texts c.args.names.now)

pub returns-then-is_name : goal.returns-then-is_name
returns-then-is_name c =
    let same : bytes_eq c.args.name.now c.index-names-at.result.items ≡ true = search rules in
    found_here _ _ _ _ c.loop-at-test.true c.index-names-at.is c.loop-at.invariant same

pub loop-at-preserved : goal.loop-at-preserved
loop-at-preserved c =
    let other : bytes_eq c.args.name.now c.index-names-at.result.items ≡ false = search rules in
    found_later _ _ _ _ c.loop-at-test.true c.index-names-at.is c.loop-at.invariant other
