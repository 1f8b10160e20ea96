use Rattle.click_engine.proofs.transfers.push_over.Goals as goal

pub returns-clause-pushed : goal.returns-clause-pushed
returns-clause-pushed c = c.push_into.ensures.pushed c.args.adjacency.now c.args.at c.args.output c.target.ensures.target c.requires.circuit
