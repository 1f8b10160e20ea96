use Rattle.std.proofs.Common.{◌≡◌, Some, sym, ap, ◌∙◌}
use Rattle.std.specs.List.{slice_get}
use Rattle.std.specs.Option.{option_copied}
use Rattle.std.proofs.lemmas.Result.{on_ok_weaker}
use Rattle.click_expand.specs.declared.instances.tree.InstancePart.TheVariants as part
use Rattle.click_expand.proofs.OfConnections.OutputSearches.{item-is, port-more, port-all}
use Rattle.click_expand.proofs.connections.wiring.search_port.Goals as goal

pub returns-clause-more : goal.returns-clause-more
returns-clause-more c =
    let instances = c.args.instances.now in let one = c.in-Some.one.now in let element = c.in-Element.element in let primitive_element = c.in-Some-PrimitiveElement.primitive_element in
    let there : slice_get instances c.args.within ≡ Some one = item-is instances c.args.within c.get.result c.get.ensures.lookup ∙ ap option_copied c.in-Some.is in
    let is_primitive_element : slice_get one.parts element ≡ Some (part.PrimitiveElement primitive_element) =
    ap (λ ps. slice_get ps element) (sym c.as_slice.ensures) ∙ item-is c.as_slice.result.now element c.get-2.result c.get-2.ensures.lookup ∙ sym c.copied.ensures ∙ c.in-Some-PrimitiveElement.is
    ∙ ap (λ x. Some x) c.in-Some-PrimitiveElement.field-0-is in
    on_ok_weaker c.search.result
    (λ g. port-more instances c.args.indices.now c.args.within c.args.port one there element primitive_element c.in-Element.is is_primitive_element c.args.found.now.keys c.search.new.found.keys g)
    c.search.ensures.more

pub returns-clause-all : goal.returns-clause-all
returns-clause-all c =
    let instances = c.args.instances.now in let one = c.in-Some.one.now in let element = c.in-Element.element in let primitive_element = c.in-Some-PrimitiveElement.primitive_element in
    let there : slice_get instances c.args.within ≡ Some one = item-is instances c.args.within c.get.result c.get.ensures.lookup ∙ ap option_copied c.in-Some.is in
    let is_primitive_element : slice_get one.parts element ≡ Some (part.PrimitiveElement primitive_element) =
    ap (λ ps. slice_get ps element) (sym c.as_slice.ensures) ∙ item-is c.as_slice.result.now element c.get-2.result c.get-2.ensures.lookup ∙ sym c.copied.ensures ∙ c.in-Some-PrimitiveElement.is
    ∙ ap (λ x. Some x) c.in-Some-PrimitiveElement.field-0-is in
    on_ok_weaker c.search.result
    (λ h few. port-all instances c.args.indices.now c.args.within c.args.port one there element primitive_element c.in-Element.is is_primitive_element c.search.new.found.keys (h few))
    c.search.ensures.all
