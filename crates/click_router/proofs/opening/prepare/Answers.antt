use Rattle.std.proofs.Common.{refl, sym, ap, ◌∙◌, subst, inl, inr}
use Rattle.std.proofs.lemmas.Result.{IfErr-weaker}
use Rattle.click_text.specs.declared.syntax.Config.{Config}
use Rattle.click_text.specs.Spelling.{too_large}
use Rattle.click_router.specs.Opened.{OpensAs, of_text_fault, IsFirstFault, unreadable, IsMemoryOr}
use Rattle.click_router.specs.kept.Refused.{IsConfigFault}
use Rattle.click_router.proofs.OfOpenings.OneOpening.{given, first_fault}
use Rattle.click_router.proofs.opening.prepare.Goals as goal

pub returns-then-text-gt-MAX_TEXT_BYTES-clause-err : goal.returns-then-text-gt-MAX_TEXT_BYTES-clause-err
returns-then-text-gt-MAX_TEXT_BYTES-clause-err c =
    rw c.fault_nowhere.ensures (inr (unreadable c.args.text.now too_large (inl (c.if-text-gt-MAX_TEXT_BYTES.true, refl))))

pub returns-in-Ok-clause-only : goal.returns-in-Ok-clause-only
returns-in-Ok-clause-only c = λ s o.
    let config = c.in-Ok.config in
    let same = c.in-Ok.ensures.only o.config o.within o.spells in
    given c.args.text.now config c.in-Ok.ensures.found c.prepare_config.result s c.prepare_config.ensures.opened c.prepare_config.ensures.err
    (subst (λ (x : Config). OpensAs x s.flat s.plant) (sym same) o.opens) (o.copy ∙ sym c.in-Ok.ensures.found.copy)

pub returns-in-Ok-clause-err : goal.returns-in-Ok-clause-err
returns-in-Ok-clause-err c =
    let text = c.args.text.now in let config = c.in-Ok.config in
    IfErr-weaker c.prepare_config.result (λ f. IsMemoryOr f (IsConfigFault config f)) (λ f. IsMemoryOr f (IsFirstFault text f))
    (λ f h. elim h [ inl m ↦ inl m | inr bad ↦ inr (first_fault text config c.in-Ok.ensures.found f c.in-Ok.ensures.within bad) ])
    c.prepare_config.ensures.err

pub returns-in-Err-clause-only : goal.returns-in-Err-clause-only
returns-in-Err-clause-only c = λ s o. c.of_text_fault.ensures ∙ ap (of_text_fault c.args.text.now) (c.in-Err.ensures.only o.config o.within o.spells)

pub returns-in-Err-clause-err : goal.returns-in-Err-clause-err
returns-in-Err-clause-err c =
    let text = c.args.text.now in
    elim c.in-Err.ensures.err [
      | inl m ↦ inl (c.of_text_fault.ensures ∙ ap (of_text_fault text) m)
      | inr a ↦ inr (subst (IsFirstFault text) (sym c.of_text_fault.ensures) (unreadable text c.in-Err.fault a))
    ]
