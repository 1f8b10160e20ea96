use Rattle.std.proofs.Common.{◌≡◌, ◌++◌, ◌∷◌, [], nat_eq, sym, ap, ◌∙◌}
use Rattle.click_text.specs.declared.strings.Mode.TheVariants as mode
use Rattle.click_text.specs.Strings.{closes}
use Rattle.click_expand.proofs.OfAnswers.FirstRefusal.{whole-found, whole-none}
use Rattle.click_expand.proofs.final_checks.is_whole.Goals as goal

pub returns-in-Some : goal.returns-in-Some
returns-in-Some c =
    let xs = c.as_slice.result.now in
    let is : xs ≡ c.args.text.now ++ 41 ∷ [] = c.as_slice.ensures.value ∙ c.in_ok-push.ensures.items ∙ ap (λ x. x ++ 41 ∷ []) (c.in_ok-extend_from_slice.ensures.items ∙ ap (λ x. x ++ c.args.text.now) c.clear.ensures.items) in
    ap (nat_eq c.in-Some.len) (c.len.ensures ∙ sym c.as_slice.ensures.len) ∙ whole-found xs c.in-Some.len c.in-Some.ensures.within c.in-Some.ensures.closed ∙ ap (closes mode.Plain 1) is

pub returns-in-None : goal.returns-in-None
returns-in-None c =
    let xs = c.as_slice.result.now in
    let is : xs ≡ c.args.text.now ++ 41 ∷ [] = c.as_slice.ensures.value ∙ c.in_ok-push.ensures.items ∙ ap (λ x. x ++ 41 ∷ []) (c.in_ok-extend_from_slice.ensures.items ∙ ap (λ x. x ++ c.args.text.now) c.clear.ensures.items) in
    whole-none xs c.in-None.ensures.unclosed ∙ ap (closes mode.Plain 1) is
