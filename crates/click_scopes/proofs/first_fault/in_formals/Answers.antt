use Rattle.std.proofs.Common.{arith}
use Rattle.click_scopes.proofs.OfFaults.LeastWrongUse.{formals-at, formals-all, formal_names-at}
use Rattle.click_scopes.proofs.first_fault.in_formals.Goals as goal

pub loop-formal-preserved : goal.loop-formal-preserved
loop-formal-preserved c =
    let text = c.args.text.now in let fs = c.args.formals.now in let i = c.loop-formal.formal-index in
    let v = c.loop-formal.invariant in let ns = c.loop-formal.names in
    record {
      least = formals-at text fs i _ ns c.loop-formal.first c.first_of-first.result c.wrong_if.result c.of.result.now c.in_ok-taken.taken c.loop-formal-test.true c.of.ensures
          c.in_ok-taken.ensures.taken c.wrong_if.ensures c.first_of-first.ensures v.known v.least;
      known = formal_names-at text fs i _ ns c.add.new.self c.of.result.now c.loop-formal-test.true c.of.ensures c.in_ok-taken.ensures.added v.known;
    }

pub returns : goal.returns
returns c =
    formals-all c.args.text.now c.args.formals.now c.loop-formal.formal-index c.loop-formal.first
    (let a = c.loop-formal.auto.formal-index-end in let t = c.loop-formal-test.false in omega (arith, a, t)) c.loop-formal.invariant.least
