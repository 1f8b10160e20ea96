use Rattle.click_expand.specs.declared.connections.connection_index.PortEnds.TheVariants.{Several}
use Rattle.click_expand.proofs.OfConnections.PortStandIns.{changed-by}
use Rattle.click_expand.proofs.connections.passthrough.put_ends.Goals as goal

pub returns : goal.returns
returns c = changed-by c.args.ends.now.entries c.insert.new.self.entries c.args.from (Several c.args.ports) c.in_ok-insert.ensures.updates.0
