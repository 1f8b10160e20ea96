use Rattle.std.proofs.Common.{◌∙◌, None, refl, sym, arith}
use Rattle.click_text.specs.Grammar.{element}
use Rattle.click_text.proofs.OfParser.GrammarRuns.{step_grown, finish_grown}
use Rattle.click_text.proofs.OfParser.StateTokens.{headed_by, listed_by, required_by, otherwise}
use Rattle.click_text.proofs.OfParser.ParserSteps.{taken, same_step, same_end}
use Rattle.click_text.proofs.tokens.Tokens.string.Goals as goal

pub returns-in_default-clause-of_head : goal.returns-in_default-clause-of_head
returns-in_default-clause-of_head c = λ n bs cx h. same_end n _ _ _ c.in_default.ensures (sym (finish_grown bs cx (element h None)))

pub returns-in_default-clause-of_names : goal.returns-in_default-clause-of_names
returns-in_default-clause-of_names c = λ n bs p ss ns k. same_end n _ _ _ c.in_default.ensures refl

pub returns-in_default-clause-of_requirement : goal.returns-in_default-clause-of_requirement
returns-in_default-clause-of_requirement c = λ n bs p ss. same_end n _ _ _ c.in_default.ensures refl

pub returns-in_default-token : goal.returns-in_default-token
returns-in_default-token c = record {
  of_head = λ n bs cx h. same_step n _ _ c.in-Some.token _ _ c.in-Some.ensures
      (otherwise (headed_by bs cx h c.in-Some.token) (λ w. c.in_default-token.not-String w.0 w.1) ∙ sym (step_grown bs cx (element h None) c.in-Some.token));
  of_names = λ n bs p ss ns k. same_step n _ _ c.in-Some.token _ _ c.in-Some.ensures
      (otherwise (listed_by bs p ss ns k c.in-Some.token) (λ w. c.in_default-token.not-String w.0 w.1));
  of_requirement = λ n bs p ss. same_step n _ _ c.in-Some.token _ _ c.in-Some.ensures
      (otherwise (required_by bs p ss c.in-Some.token) (λ w. c.in_default-token.not-String w.0 w.1));
  shorter = omega arith;
}

pub returns-clause-of_head : goal.returns-clause-of_head
returns-clause-of_head c = λ n bs cx h.
    (rw c.skip.ensures (taken n n _ _ c.in-Some.token _ _ c.in-Some.ensures (rw c.in-String.is refl) (rw c.in-String.is refl)))

pub returns-clause-of_names : goal.returns-clause-of_names
returns-clause-of_names c = λ n bs p ss ns k.
    (rw c.skip.ensures (taken n n _ _ c.in-Some.token _ _ c.in-Some.ensures (rw c.in-String.is refl) (rw c.in-String.is refl)))

pub returns-clause-of_requirement : goal.returns-clause-of_requirement
returns-clause-of_requirement c = λ n bs p ss.
    (rw c.skip.ensures (taken n n _ _ c.in-Some.token _ _ c.in-Some.ensures (rw c.in-String.is refl) (rw c.in-String.is refl)))
