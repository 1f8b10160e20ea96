use Rattle.std.proofs.Common.{◌-◌, arith}
use Rattle.click_classes.proofs.OfRoutes.TableRows.{length_more, length_end}
use Rattle.click_classes.proofs.routes.rows_of.Goals as goal

pub loop-len-preserved : goal.loop-len-preserved
loop-len-preserved c =
    let before = c.loop-len.invariant.within in
    record {
      within = omega arith;
      entries = length_more c.loop-len.rows.items c.push_rows.new.rows.items c.args.entries.now _ (c.loop-len.len - 1) c.loop-len.len (omega arith) c.in_ok-push_rows.ensures.entries c.loop-len.invariant.entries;
      ready = c.in_ok-push_rows.ensures.ready;
    }

pub returns-clause-entries : goal.returns-clause-entries
returns-clause-entries c = length_end c.loop-len.rows.items c.args.entries.now _ c.loop-len.len (omega arith) c.loop-len.invariant.entries
