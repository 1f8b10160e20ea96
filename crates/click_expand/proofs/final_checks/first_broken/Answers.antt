use Rattle.std.proofs.Common.{◌≡◌, true, sym, ap, ◌∙◌, subst, All}
use Rattle.std.proofs.lemmas.List.{take_all}
use Rattle.click_expand.specs.Flat.{is_whole}
use Rattle.click_expand.specs.declared.flat.FlatElement.{FlatElement}
use Rattle.click_expand.proofs.OfAnswers.FirstRefusal.{whole-more}
use Rattle.click_expand.proofs.final_checks.first_broken.Goals as goal

pub loop-place-preserved : goal.loop-place-preserved
loop-place-preserved c =
    let e = c.index-elements-place.result in
    let h : is_whole e.text ≡ true = ap is_whole (sym c.as_slice.ensures) ∙ sym c.in_ok-is_whole.ensures ∙ c.if-not-branch.false in
    whole-more c.args.elements.now c.loop-place.place e e c.loop-place-test.true c.index-elements-place.is h c.loop-place.invariant

pub returns : goal.returns
returns c =
    subst (All (λ (e : FlatElement). is_whole e.text ≡ true)) (take_all c.loop-place.place c.args.elements.now c.loop-place-test.false) c.loop-place.invariant
