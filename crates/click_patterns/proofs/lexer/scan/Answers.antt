use Rattle.std.proofs.Common.{◌≡◌, ◌<◌, length, arith}
use Rattle.std.proofs.lemmas.Bool.Decides.{nat_tests}
use Rattle.click_patterns.proofs.OneTokenList.{nothing_scanned, past_white, past_token, all_scanned, none_scanned}
use Rattle.click_patterns.proofs.lexer.scan.Goals as goal
use Rattle.click_patterns.proofs.lexer.scan.Goals.{in-Some-token+in_ok-push, in_default-token}

pub pieces-init : goal.pieces-init
pieces-init c = rw c.new-tokens.ensures.items (nothing_scanned c.args.text.now)

pub pieces-preserved : goal.pieces-preserved
pieces-preserved c =
    let h : 0 < length c.pieces.rest.now = grind (arith, nat_tests) in
    elim c.match-token.branch [
      | in-Some-token+in_ok-push w ↦
          rw (w.tokens-is, w.in_ok-push.ensures.items)
          (past_token _ _ _ c.in-Some.token w.in-Some-token.token c.in-Some.len h c.in-Some.ensures.value w.in-Some-token.is c.pieces.invariant)
      | in_default-token w ↦
          rw w.tokens-is (past_white _ _ _ c.in-Some.token c.in-Some.len h c.in-Some.ensures.value w.in_default-token.is c.pieces.invariant)
    ]

pub returns-clause-ok : goal.returns-clause-ok
returns-clause-ok c =
    let h : length c.pieces.rest.now ≡ 0 = grind (arith, nat_tests) in
    all_scanned _ c.pieces.rest.now _ h c.pieces.invariant

pub returns-in_default-clause-err : goal.returns-in_default-clause-err
returns-in_default-clause-err c =
    let h : 0 < length c.pieces.rest.now = grind (arith, nat_tests) in
    λ _. none_scanned _ c.pieces.rest.now _ h c.in_default.ensures.value c.pieces.invariant
