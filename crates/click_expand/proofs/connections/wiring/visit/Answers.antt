use Rattle.std.proofs.Common.{◌≡◌, List, Some, ap, subst, ◌∙◌}
use Rattle.std.specs.List.{slice_get}
use Rattle.std.proofs.lemmas.Result.{on_ok_weaker}
use Rattle.std.specs.Option.{option_copied}
use Rattle.click_expand.specs.declared.connections.connection_index.ScopePort.{ScopePort}
use Rattle.click_expand.specs.kept.Wiring.{all_reached, Takes}
use Rattle.click_expand.proofs.OfConnections.PortSearch.{visits, visits-none, no-use, no-index}
use Rattle.click_expand.proofs.OfConnections.OutputSearches.{item-is}
use Rattle.click_expand.proofs.connections.wiring.visit.Goals as goal

pub returns-in_default : goal.returns-in_default
returns-in_default c =
    visits-none c.args.instances.now c.args.indices.now c.args.start c.args.from.primitive_element c.args.from.start.port.number c.args.seen.now.keys c.args.found.now.keys
    (no-use c.args.instances.now c.args.indices.now c.args.start
    (item-is c.args.instances.now c.args.start.within c.get.result c.get.ensures.lookup ∙ ap option_copied c.in_default.is))

pub returns-in_default-get : goal.returns-in_default-get
returns-in_default-get c =
    let one = c.in-Some.one.now in
    let there : slice_get c.args.instances.now c.args.start.within ≡ Some one = item-is c.args.instances.now c.args.start.within c.get.result c.get.ensures.lookup ∙ ap option_copied c.in-Some.is in
    visits-none c.args.instances.now c.args.indices.now c.args.start c.args.from.primitive_element c.args.from.start.port.number c.args.seen.now.keys c.args.found.now.keys
    (no-index c.args.instances.now c.args.indices.now c.args.start one there (item-is c.args.indices.now one.scope c.get-2.result c.get-2.ensures.lookup ∙ ap option_copied c.in_default-get.is))

pub returns : goal.returns
returns c =
    let primitive_element = c.args.from.primitive_element in let number = c.args.from.start.port.number in
    let one = c.in-Some.one.now in let index = c.in-Some-get.index.now in
    let a = c.args.seen.now.keys in let b = c.take_all.new.seen.keys in let f = c.args.found.now.keys in let g = c.take_all.new.found.keys in
    let there : slice_get c.args.instances.now c.args.start.within ≡ Some one = item-is c.args.instances.now c.args.start.within c.get.result c.get.ensures.lookup ∙ ap option_copied c.in-Some.is in
    let index_there : slice_get c.args.indices.now one.scope ≡ Some index = item-is c.args.indices.now one.scope c.get-2.result c.get-2.ensures.lookup ∙ ap option_copied c.in-Some-get.is in
    on_ok_weaker c.take_all.result
    (λ t. visits c.args.instances.now c.args.indices.now c.args.start one index there index_there primitive_element number a b f g
    (subst (λ (es : List ScopePort). Takes primitive_element number (all_reached one es) a b f g) c.ends.ensures t))
    c.take_all.ensures
