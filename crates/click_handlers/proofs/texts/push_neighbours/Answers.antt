use Rattle.std.proofs.Common.{rules}
use Rattle.click_handlers.proofs.QuerierTexts.{next_line}
use Rattle.click_handlers.proofs.texts.push_neighbours.Goals as goal

pub loop-place-preserved : goal.loop-place-preserved
loop-place-preserved c =
    next_line c.args.table.now c.loop-place.place c.entry-entry.result.address c.entry-entry.result.ether c.args.text.now.items c.loop-place.text.items _ (search rules) c.entry-entry.ensures c.loop-place.invariant c.in_ok-push_neighbour.ensures
