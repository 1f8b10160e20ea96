use Rattle.std.proofs.Common.{◌≡◌, refl, sym, ◌∙◌, subst, arith, length-drop}
use Rattle.std.proofs.lemmas.Result.{err_from_is_err_and, on_ok_weaker, IfErr-weaker}
use Rattle.click_patterns.specs.Grammar.{joined, no_more}
use Rattle.click_patterns.proofs.ChainParts.{begun, continued, broken, node_of}
use Rattle.click_patterns.proofs.Negations.{next_join, NoNegation, begins_with, no_token, deep_not, deep_group, no_not, no_group, negated_of, group_of, open_group, test_read, or_part, and_part}
use Rattle.click_patterns.proofs.parser.Parser.+parser.Goals as goal
use Rattle.click_patterns.proofs.parser.Parser.+parser.Goals.{chain-in-And, chain-in-Or}

pub chain-parts-init : goal.chain-parts-init
chain-parts-init t c =
    let h = c.in_ok-part.ensures.ok in
    record { shorter = c.in_ok-part.ensures.shorter; parts = begun _ _ _ _ _ _ h.0 h.1 h.2 }

pub chain-returns-in_err-part-2-clause-err : goal.chain-returns-in_err-part-2-clause-err
chain-returns-in_err-part-2-clause-err t c =
    let r = err_from_is_err_and c.from_residual-in_err-part-2.result c.from_residual-in_err-part-2.ensures.1 in
    let e = next_join c.args.join _ (sym c.goes_on.ensures ∙ c.parts-test.true) in
    rw (r.1, r.2) (λ h. broken c.parts.invariant.parts e (c.in_err-part-2.ensures.err h))

pub chain-parts-preserved : goal.chain-parts-preserved
chain-parts-preserved t c =
    let h = c.in_ok-part-2.ensures.ok in
    let e = next_join c.args.join _ (sym c.goes_on.ensures ∙ c.parts-test.true) in
    let k : c.match-join.push ≡ node_of c.args.join = elim c.match-join.branch [
      | chain-in-And w ↦ rw (w.push-is, w.in-And.is) refl
      | chain-in-Or w ↦ rw (w.push-is, w.in-Or.is) refl
    ] in
    let before = c.parts.invariant.shorter in
    let here = c.in_ok-part-2.ensures.shorter in
    record {
      shorter = omega (arith, length-drop 1 c.parts.self.tokens.now);
      parts = continued c.parts.invariant.parts e h.1 h.2 (rw k at c.in_ok-push.ensures.items);
    }

pub chain-returns-clause-ok : goal.chain-returns-clause-ok
chain-returns-clause-ok t c =
    let p = c.parts.invariant.parts in
    (joined c.args.join p.parts, p.sound p.parts _ (no_more (sym c.goes_on.ensures ∙ c.parts-test.false)), p.nodes)

pub negation-returns-in_default-clause-err : goal.negation-returns-in_default-clause-err
negation-returns-in_default-clause-err t c = λ _. no_token c.split-first.ensures.first c.in_default.is

pub negation-returns-then-depth-ge-MAX_OPEN-clause-err : goal.negation-returns-then-depth-ge-MAX_OPEN-clause-err
negation-returns-then-depth-ge-MAX_OPEN-clause-err t c =
    let e = begins_with c.split-first.ensures.first c.in-Some.is c.in-Not.is c.split-first.ensures.rest in
    λ _. subst (NoNegation c.args.depth) (sym e) (deep_not c.args.depth _ c.if-depth-ge-MAX_OPEN.true)

pub negation-returns-in_err-negation-in-Not-clause-err : goal.negation-returns-in_err-negation-in-Not-clause-err
negation-returns-in_err-negation-in-Not-clause-err t c =
    let e = begins_with c.split-first.ensures.first c.in-Some.is c.in-Not.is c.split-first.ensures.rest in
    let r = err_from_is_err_and c.from_residual.result c.from_residual.ensures.1 in
    rw (r.1, r.2) (λ h. subst (NoNegation c.args.depth) (sym e) (no_not c.args.depth _ (c.in_err-negation-in-Not.ensures.err h)))

pub negation-returns-then-depth-ge-MAX_OPEN-2-clause-err : goal.negation-returns-then-depth-ge-MAX_OPEN-2-clause-err
negation-returns-then-depth-ge-MAX_OPEN-2-clause-err t c =
    let e = begins_with c.split-first.ensures.first c.in-Some.is c.in-Open.is c.split-first.ensures.rest in
    λ _. subst (NoNegation c.args.depth) (sym e) (deep_group c.args.depth _ c.if-depth-ge-MAX_OPEN-2.true)

pub negation-returns-in_err-chain-in-Open-clause-err : goal.negation-returns-in_err-chain-in-Open-clause-err
negation-returns-in_err-chain-in-Open-clause-err t c =
    let e = begins_with c.split-first.ensures.first c.in-Some.is c.in-Open.is c.split-first.ensures.rest in
    let r = err_from_is_err_and c.from_residual-in_err-chain-in-Open.result c.from_residual-in_err-chain-in-Open.ensures.1 in
    rw (r.1, r.2) (λ h. subst (NoNegation c.args.depth) (sym e) (no_group c.args.depth _ (c.in_err-chain-in-Open.ensures.err h)))

pub negation-returns-in_ok-push-in-Not-clause-ok : goal.negation-returns-in_ok-push-in-Not-clause-ok
negation-returns-in_ok-push-in-Not-clause-ok t c =
    let e = begins_with c.split-first.ensures.first c.in-Some.is c.in-Not.is c.split-first.ensures.rest in
    let n = c.in_ok-negation-in-Not.ensures.ok in
    negated_of _ _ _ _ _ _ _ e c.if-depth-ge-MAX_OPEN.false n c.in_ok-push-in-Not.ensures.items

pub negation-returns-in_ok-chain-in-Open-clause-ok : goal.negation-returns-in_ok-chain-in-Open-clause-ok
negation-returns-in_ok-chain-in-Open-clause-ok t c =
    let e = begins_with c.split-first.ensures.first c.in-Some.is c.in-Open.is c.split-first.ensures.rest in
    on_ok_weaker c.close.result (group_of _ _ _ _ _ _ _ _ e c.if-depth-ge-MAX_OPEN-2.false c.in_ok-chain-in-Open.ensures.ok) c.close.ensures.ok

pub negation-returns-in_ok-chain-in-Open-clause-err : goal.negation-returns-in_ok-chain-in-Open-clause-err
negation-returns-in_ok-chain-in-Open-clause-err t c =
    let e = begins_with c.split-first.ensures.first c.in-Some.is c.in-Open.is c.split-first.ensures.rest in
    IfErr-weaker c.close.result _ _ (λ _ n _. open_group _ _ _ _ _ _ e c.in_ok-chain-in-Open.ensures.ok n) c.close.ensures.err

pub negation-returns-in_default-token-clause-ok : goal.negation-returns-in_default-token-clause-ok
negation-returns-in_default-token-clause-ok t c = on_ok_weaker c.test.result (test_read _ _ _ _ _) c.test.ensures.ok

pub part-returns-in-Or-clause-ok : goal.part-returns-in-Or-clause-ok
part-returns-in-Or-clause-ok t c = rw c.in-Or.is (on_ok_weaker c.chain.result (or_part _ _ _ _ _) c.chain.ensures.ok)

pub part-returns-in-And-clause-ok : goal.part-returns-in-And-clause-ok
part-returns-in-And-clause-ok t c = rw c.in-And.is (on_ok_weaker c.negation.result (and_part _ _ _ _ _) c.negation.ensures.ok)
