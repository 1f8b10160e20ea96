use Rattle.std.proofs.Common.{sym, ◌∙◌}
use Rattle.click_scopes.specs.kept.Lookups.{body_at}
use Rattle.click_expand.specs.kept.Passthrough.{same}
use Rattle.click_expand.proofs.OfConnections.PortStandIns.{stands-number}
use Rattle.click_expand.proofs.connections.passthrough.port_for.Goals as goal

pub returns-in_default : goal.returns-in_default
returns-in_default c = λ ends short known. same c.args.end

pub returns-in-Some : goal.returns-in-Some
returns-in-Some c = λ ends short known.
    let body = body_at c.args.scopes.now.scopes.items in
    stands-number ends body short c.args.scope c.args.end c.in-Element.element c.number_for.result c.in-Some.body c.in-Element.is (sym c.body_at.ensures ∙ c.in-Some.is)
    (c.number_for.ensures ends short body known)

pub returns-in-None : goal.returns-in-None
returns-in-None c = λ ends short known. same c.args.end
