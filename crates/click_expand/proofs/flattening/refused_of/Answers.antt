use Rattle.std.proofs.Common.{ap, ◌∙◌, ◌++◌}
use Rattle.click_expand.specs.FlatText.{name_or_empty, name_at_place}
use Rattle.click_expand.proofs.OfAnswers.FormOrFault.{match-none, match-some}
use Rattle.click_expand.proofs.OfAnswers.Tokens.{repeated-in, broken-in, nothing-in}
use Rattle.click_expand.proofs.flattening.refused_of.Goals as goal

pub returns-in-Some : goal.returns-in-Some
returns-in-Some c = λ primitive_elements known used h.
    repeated-in primitive_elements c.args.elements.now c.in-Some.place c.token_of-token.result h (match-some c.in_ok-place.field-0 c.in-Some.place _ _ c.in-Some.is c.in_ok-place.ensures)
    (λ f t. c.token_of-token.ensures primitive_elements known f used t)

pub returns-in-Some-2 : goal.returns-in-Some-2
returns-in-Some-2 c = λ primitive_elements known used h.
    broken-in primitive_elements c.args.elements.now c.in-Some-2.place c.of.result h (match-none c.in_ok-place.field-0 _ _ c.in_default.is c.in_ok-place.ensures)
    (match-some c.in_ok-place-2.field-0 c.in-Some-2.place _ _ c.in-Some-2.is c.in_ok-place-2.ensures) (λ e t. c.of.ensures ∙ c.in_ok-push_name.ensures ∙ ap (λ xs. xs ++ name_at_place c.args.elements.now c.in-Some-2.place) c.new-name.ensures.items ∙ ap name_or_empty t)

pub returns : goal.returns
returns c = λ primitive_elements known used h.
    nothing-in primitive_elements c.args.elements.now h (match-none c.in_ok-place.field-0 _ _ c.in_default.is c.in_ok-place.ensures)
    (match-none c.in_ok-place-2.field-0 _ _ c.in_default-2.is c.in_ok-place-2.ensures)
