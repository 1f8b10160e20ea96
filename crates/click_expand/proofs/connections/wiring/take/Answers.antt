use Rattle.std.proofs.Common.{◌≡◌, ◌∷◌, ◌∙◌, [], Bool, subst, sym, ap}
use Rattle.indexmap.specs.IndexSet.{insert_key}
use Rattle.click_expand.specs.declared.connections.connection_index.InstancePort.{InstancePort}
use Rattle.click_expand.specs.declared.connections.connection_index.Reached.{Reached}
use Rattle.click_expand.specs.kept.Wiring.{Takes}
use Rattle.click_expand.proofs.OfConnections.PortEquality.{start-eq}
use Rattle.click_expand.proofs.OfConnections.ConnectionOrder.{same}
use Rattle.click_expand.proofs.OfConnections.PortSearch.{takes-start, takes-primitive_element}
use Rattle.click_expand.proofs.connections.wiring.take.Goals as goal

pub returns-in_ok-insert-in-Start : goal.returns-in_ok-insert-in-Start
returns-in_ok-insert-in-Start c =
    let old = c.args.seen.now.keys in let new = c.insert.new.self.keys in
    subst (λ (n : Reached). Takes c.args.from.primitive_element c.args.from.start.port.number (n ∷ []) old new c.args.found.now.keys c.args.found.now.keys) (sym c.in-Start.is)
    (takes-start c.args.from.primitive_element c.args.from.start.port.number c.in-Start.start old new c.args.found.now.keys
    (subst (λ (e : InstancePort → InstancePort → Bool). new ≡ insert_key e old c.in-Start.start) start-eq c.in_ok-insert-in-Start.ensures.keys))

pub returns-in_ok-insert-in-PrimitiveElement : goal.returns-in_ok-insert-in-PrimitiveElement
returns-in_ok-insert-in-PrimitiveElement c =
    let old = c.args.found.now.keys in let new = c.insert-in-PrimitiveElement.new.self.keys in
    subst (λ (n : Reached). Takes c.args.from.primitive_element c.args.from.start.port.number (n ∷ []) c.args.seen.now.keys c.args.seen.now.keys old new) (sym c.in-PrimitiveElement.is)
    (takes-primitive_element c.args.from.primitive_element c.args.from.start.port.number c.in-PrimitiveElement.input c.args.seen.now.keys old new
    (c.in_ok-insert-in-PrimitiveElement.ensures.keys ∙ ap (insert_key same old) c.connection.ensures))
