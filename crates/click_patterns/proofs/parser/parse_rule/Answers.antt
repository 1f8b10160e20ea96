use Rattle.std.proofs.Common.{◌≡◌, ℕ, ◌-◌, List, length, take, drop, refl, subst}
use Rattle.std.proofs.lemmas.List.{take_rest}
use Rattle.std.proofs.lemmas.Result.{err_from_is_err_and}
use Rattle.click_patterns.specs.Tokens.{word}
use Rattle.click_patterns.specs.Grammar.{IsPattern}
use Rattle.click_patterns.specs.Arguments.{without_white}
use Rattle.click_patterns.proofs.parser.parse_rule.Goals as goal

-- the text behind the action
pattern_text : (text rest : List ℕ) (n : ℕ) → rest ≡ without_white text → n ≡ length (word rest) →
    drop (length (word (without_white text))) (without_white text) ≡ take (length rest - n) (drop n rest)
pattern_text text rest n e f = rw (take_rest, f, e) refl

pub returns-in_err-pattern-clause-err : goal.returns-in_err-pattern-clause-err
returns-in_err-pattern-clause-err c =
    let r = err_from_is_err_and c.from_residual.result c.from_residual.ensures.1 in
    let e = pattern_text c.args.text.now c.without_white-text.result.now c.word_len-len.result c.without_white-text.ensures c.word_len-len.ensures.len in
    rw (r.1, r.2) (λ h a t k. c.in_err-pattern.ensures.err h t (subst (λ (x : List ℕ). IsPattern x t) e k.1))
