use Rattle.std.proofs.Common.{sym, ap, ◌∙◌}
use Rattle.std.proofs.lemmas.Option.{same_Some, none-some}
use Rattle.click_scopes.specs.kept.FirstFault.{first_in}
use Rattle.click_expand.proofs.OfAnswers.Tokens.{primitive_element-head, same-first}
use Rattle.click_expand.proofs.flattening.token_of.Goals as goal

pub returns-in-Some : goal.returns-in-Some
returns-in-Some c = λ primitive_elements known primitive_element used there.
    let config = c.args.config.now in
    let r = primitive_element-head config c.args.scopes.now.scopes.items c.args.instances.now.instances.items c.args.instances.now.primitive_elements.items known primitive_elements c.requires.scopes.all used c.args.place primitive_element there in
    let same = same_Some r.head c.in-Some.head (sym r.there ∙ sym c.head_at.ensures ∙ c.in-Some.is) in
    c.first_token.ensures ∙ ap (λ bs. first_in bs c.in-Some.head) c.as_slice.ensures ∙ same-first config c.in-Some.head r.head primitive_element.first same r.first

pub returns-in-None : goal.returns-in-None
returns-in-None c = λ primitive_elements known primitive_element used there.
    let r = primitive_element-head c.args.config.now c.args.scopes.now.scopes.items c.args.instances.now.instances.items c.args.instances.now.primitive_elements.items known primitive_elements c.requires.scopes.all used c.args.place primitive_element there in
    absurd (none-some r.head (sym c.in-None.is ∙ c.head_at.ensures ∙ r.there))
