use Rattle.click_scopes.specs.kept.Lookups.{body_at}
use Rattle.click_expand.specs.kept.Wiring.{ends_in}
use Rattle.click_expand.proofs.OfConnections.PortStandIns.{stood-same}
use Rattle.click_expand.proofs.connections.passthrough.with_representatives_if_nested.Goals as goal

pub returns : goal.returns
returns c = λ ends short known is a. stood-same ends (body_at c.args.scopes.now.scopes.items) short c.args.scope (ends c.args.scope a) (ends_in c.args.index.ends.entries a) (is a)
