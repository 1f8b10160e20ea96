use Rattle.click_expand.specs.Flat.{much_text}
use Rattle.click_expand.proofs.OfAnswers.FormOrFault.{match-none, match-some, more-connections, joined-up}
use Rattle.click_expand.proofs.flattening.expanded.Goals as goal

pub returns-in_default : goal.returns-in_default
returns-in_default c = λ primitive_elements known paths used few short. much_text (match-none c.in_ok-elements.field-0 _ _ c.in_default.is (c.in_ok-elements.ensures primitive_elements known used))

pub returns-in_default-2 : goal.returns-in_default-2
returns-in_default-2 c =
    λ primitive_elements known paths used few short. more-connections c.args.config.now primitive_elements paths (match-none c.in_ok-connections.field-0 _ _ c.in_default-2.is (c.in_ok-connections.ensures primitive_elements known used))

pub returns : goal.returns
returns c =
    λ primitive_elements known paths used few short.
    joined-up c.args.config.now primitive_elements paths c.in-Some.elements.items c.in-Some-2.connections.items c.of.result c.of-2.result c.of.ensures c.of-2.ensures
    (match-some c.in_ok-elements.field-0 c.in-Some.elements _ _ c.in-Some.is (c.in_ok-elements.ensures primitive_elements known used))
    (match-some c.in_ok-connections.field-0 c.in-Some-2.connections _ _ c.in-Some-2.is (c.in_ok-connections.ensures primitive_elements known used)) few short
