use Rattle.std.proofs.Common.{arith}
use Rattle.click_workers.proofs.NewSeats.{last-taken, ready-taken}
use Rattle.click_workers.proofs.work.last_of.Goals as goal

pub returns-clause-some : goal.returns-clause-some
returns-clause-some g c = (last-taken c.args.desk.now c.requires.fresh.0 _ _ _ _ c.pop-last.result c.requires.fresh.1 c.pop-last.ensures.items c.pop-last.ensures.cases).0

pub returns-clause-ready : goal.returns-clause-ready
returns-clause-ready g c =
    ready-taken c.args.desk.now c.args.sessions _ _ _ _ _ _ _ _ c.requires.fresh.0 c.requires (omega (arith, c.pop-last.ensures.len))
    (last-taken c.args.desk.now c.requires.fresh.0 _ _ _ _ c.pop-last.result c.requires.fresh.1 c.pop-last.ensures.items c.pop-last.ensures.cases).1
