use Rattle.click_workers.proofs.runs.run.Goals as goal

pub returns-clause-headline : goal.returns-clause-headline
returns-clause-headline g c = c.serve_and_close.ensures.headline c.args.text.now c.in-Ok.ensures.desk
