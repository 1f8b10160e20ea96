use Rattle.std.proofs.Common.{◌∙◌, sym, arith}
use Rattle.click_tests.proofs.Settled.{same-each}
use Rattle.click_tests.proofs.feeds.drive_all.Goals as goal

pub returns-in-Ok : goal.returns-in-Ok
returns-in-Ok g c =
    same-each c.args.drivers.items c.in-Ok.drivers.items (omega (arith, c.in-Ok.ensures.len, c.in-Ok.drivers.ok.0, c.args.drivers.ok.0))
    (λ i d below. let j = (c.in-Ok.ensures.each i d below).1 in j.call.met ∙ sym (j.job_is d))
