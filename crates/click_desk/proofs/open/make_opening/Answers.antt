use Rattle.click_desk.proofs.open.make_opening.Goals as goal

pub returns-in-Some-clause-fault : goal.returns-in-Some-clause-fault
returns-in-Some-clause-fault g c = c.in-Some.ensures.fault c.args.text.now
