use Rattle.std.proofs.Common.{◌≢◌, length, arith}
use Rattle.std.proofs.lemmas.Bool.Decides.{nat_tests}
use Rattle.std.proofs.lemmas.Result.{err_from_is_err_and}
use Rattle.click_patterns.specs.Tokens.{AreTokens}
use Rattle.click_patterns.proofs.OneTree.{no_pattern, tokens_left}
use Rattle.click_patterns.proofs.parser.parse.Goals as goal

pub returns-in_err-chain-clause-err : goal.returns-in_err-chain-clause-err
returns-in_err-chain-clause-err c =
    let r = err_from_is_err_and c.from_residual-in_err-chain.result c.from_residual-in_err-chain.ensures.1 in
    let a : AreTokens c.args.text.now c.deref.result.now = rw c.deref.ensures.value c.in_ok-tokens.ensures.ok in
    rw (r.1, r.2) (λ h. no_pattern _ _ a (λ t. c.in_err-chain.ensures.err h t _))

pub returns-then-not-is_empty-clause-err : goal.returns-then-not-is_empty-clause-err
returns-then-not-is_empty-clause-err c =
    let a : AreTokens c.args.text.now c.deref.result.now = rw c.deref.ensures.value c.in_ok-tokens.ensures.ok in
    let n : length c.chain.new.self.tokens.now ≢ 0 = grind (arith, nat_tests) in
    let k = c.in_ok-chain.ensures.ok in
    λ _. no_pattern _ _ a (tokens_left k.1 n)
