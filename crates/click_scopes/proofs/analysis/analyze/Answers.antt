use Rattle.click_scopes.proofs.OfBodies.NestedBodies.{spelled-nested}
use Rattle.click_scopes.proofs.analysis.analyze.Goals as goal

pub scopes_of-requires : goal.scopes_of-requires
scopes_of-requires c = spelled-nested c.args.config.now.text c.args.config.now c.requires

pub first_wrong-requires-clause-nested : goal.first_wrong-requires-clause-nested
first_wrong-requires-clause-nested c = spelled-nested c.args.config.now.text c.args.config.now c.requires

pub all_scopes-requires-clause-nested : goal.all_scopes-requires-clause-nested
all_scopes-requires-clause-nested c = spelled-nested c.args.config.now.text c.args.config.now c.requires
