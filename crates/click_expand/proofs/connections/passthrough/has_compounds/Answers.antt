use Rattle.std.proofs.Common.{length, ap, sym, ◌∙◌, arith}
use Rattle.std.specs.Option.{is_some}
use Rattle.click_scopes.specs.kept.Lookups.{body_at}
use Rattle.click_expand.proofs.OfConnections.PortStandIns.{no-bodies-more, no-bodies-all}
use Rattle.click_expand.proofs.connections.passthrough.has_compounds.Goals as goal

pub loop-element-init : goal.loop-element-init
loop-element-init c = λ i l. absurd (omega (arith, l))

pub loop-element-preserved : goal.loop-element-preserved
loop-element-preserved c =
    no-bodies-more (body_at c.args.scopes.now.scopes.items c.args.scope) c.loop-element.element (ap is_some (sym c.body_at.ensures) ∙ sym c.is_some.ensures ∙ c.if-is_some.false) c.loop-element.invariant

pub returns : goal.returns
returns c = λ _ i.
    let t = c.loop-element-test.false in let e = ap length c.elements_at-element-end.ensures in
    no-bodies-all c.args.scopes.now.scopes.items c.args.scope c.loop-element.element (omega (arith, t, e)) c.loop-element.invariant i
