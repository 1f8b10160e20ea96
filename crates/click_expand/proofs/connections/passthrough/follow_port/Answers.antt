use Rattle.std.proofs.Common.{◌≡◌, Bool, subst, sym}
use Rattle.click_scopes.specs.kept.Lookups.{body_at}
use Rattle.indexmap.specs.IndexSet.{insert_key}
use Rattle.click_expand.specs.declared.connections.connection_index.ScopePort.{ScopePort}
use Rattle.click_expand.proofs.OfConnections.PortEquality.{port-eq}
use Rattle.click_expand.proofs.OfConnections.PassthroughSearch.{passes-output, passes-element}
use Rattle.click_expand.proofs.connections.passthrough.follow_port.Goals as goal

pub returns-in_ok-insert-in-Output : goal.returns-in_ok-insert-in-Output
returns-in_ok-insert-in-Output c = λ ends short h _.
    let old = c.args.outputs.now.keys in let new = c.insert.new.self.keys in
    passes-output ends (body_at c.args.scopes.now.scopes.items) short c.args.scope c.args.end c.args.seen.now.keys old new c.in-Output.is
    (subst (λ (eq : ScopePort → ScopePort → Bool). new ≡ insert_key eq old c.args.end) port-eq c.in_ok-insert-in-Output.ensures.keys)

pub returns-in_ok-enqueue_outputs-in-Element : goal.returns-in_ok-enqueue_outputs-in-Element
returns-in_ok-enqueue_outputs-in-Element c = λ ends short h _.
    let led = c.in-Some-outputs_through.ensures ends short (body_at c.args.scopes.now.scopes.items) h in
    passes-element ends (body_at c.args.scopes.now.scopes.items) short c.args.scope c.args.end c.in-Element.element c.in-Some.body c.in-Some-outputs_through.behind.now c.args.seen.now.keys c.enqueue_outputs.new.seen.keys c.args.outputs.now.keys
    c.in-Element.is (sym c.in-Some.ensures) led.0 led.1 c.in_ok-enqueue_outputs-in-Element.ensures.more c.in_ok-enqueue_outputs-in-Element.ensures.all
