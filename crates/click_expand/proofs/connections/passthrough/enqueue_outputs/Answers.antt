use Rattle.std.proofs.Common.{◌≡◌, Bool, List, get_or, refl, subst, arith}
use Rattle.std.proofs.lemmas.List.{take_all}
use Rattle.indexmap.specs.IndexSet.{insert_key}
use Rattle.click_scopes.specs.declared.written_connections.Owner.TheVariants as owner
use Rattle.click_expand.specs.declared.connections.connection_index.ScopePort.{ScopePort}
use Rattle.click_expand.specs.kept.Wiring.{scope_port, HasAll}
use Rattle.click_expand.specs.kept.Passthrough.{IsOutputOf}
use Rattle.click_expand.proofs.OfConnections.PortEquality.{port-eq}
use Rattle.click_expand.proofs.OfConnections.PassthroughSearch.{outputs-next}
use Rattle.click_expand.proofs.connections.passthrough.enqueue_outputs.Goals as goal

abbrev blank : ScopePort
blank = scope_port owner.Input 0

pub loop-output-preserved : goal.loop-output-preserved
loop-output-preserved c =
    let outs = c.args.outputs.now in let i = c.loop-output.output-index in let e = get_or outs i blank in
    let old = c.loop-output.seen.keys in let new = c.insert.new.self.keys in
    outputs-next c.args.element outs i e blank c.args.seen.now.keys old new c.loop-output-test.true refl c.loop-output.invariant
    (subst (λ (eq : ScopePort → ScopePort → Bool). new ≡ insert_key eq old (scope_port (owner.Element c.args.element) e.number)) port-eq c.in_ok-insert.ensures.keys)

pub returns-clause-all : goal.returns-clause-all
returns-clause-all c =
    subst (λ (t : List ScopePort). HasAll (IsOutputOf c.args.element t) c.loop-output.seen.keys)
    (take_all c.loop-output.output-index c.args.outputs.now (let f = c.loop-output-test.false in omega (arith, f))) c.loop-output.invariant.1
