use Rattle.std.proofs.Common.{◌≡◌, ◌+◌, ◌∷◌, ◌++◌, [], drop, sym, ap, ◌∙◌, refl, arith}
use Rattle.click_scopes.specs.Elements.{count_with}
use Rattle.click_scopes.specs.kept.Tables.{role_kept}
use Rattle.click_scopes.proofs.OfElements.StatementElements.{numbers_left, numbers-more, numbers-all, kept-makes, counts-other}
use Rattle.click_scopes.proofs.scope_elements.numbers_of.Goals as goal
use Rattle.click_scopes.proofs.scope_elements.numbers_of.Goals.{in-Makes, in_default}

pub loop-one-preserved : goal.loop-one-preserved
loop-one-preserved c =
    let text = c.args.text.now in let b = c.args.in_body in let D = c.args.declared.now in let ws = c.args.written.now in let i = c.loop-one.one-index in
    let ns = c.loop-one.numbers.items in let n = c.loop-one.number in let m = c.match-role_of.number in
    let v = c.loop-one.invariant in
    let is : c.push.new.self.items ≡ ns ++ n ∷ [] = c.in_ok-push.ensures.items in
    elim c.match-role_of.branch [
      | in-Makes w ↦
          let k : m ≡ n + 1 = w.number-is in
          let r = sym c.role_of.ensures ∙ ap role_kept w.in-Makes.is in
          record {
            few = omega (arith, v.few, k);
            known = v.known ∙ numbers-more text b D ns n m ws i _ _ c.loop-one-test.true refl (k ∙ ap (λ x. count_with x n) (sym r)) ∙ ap (λ x. numbers_left text b D x m (drop (i + 1) ws)) (sym is);
          }
      | in_default w ↦
          let k : m ≡ n = w.number-is in
          let r = counts-other n (role_kept c.role_of.result) (λ e. w.in_default.not-Makes (kept-makes c.role_of.result e)) in
          record {
            few = omega (arith, v.few, k);
            known = v.known ∙ numbers-more text b D ns n m ws i _ _ c.loop-one-test.true refl (k ∙ sym r ∙ ap (λ x. count_with x n) c.role_of.ensures) ∙ ap (λ x. numbers_left text b D x m (drop (i + 1) ws)) (sym is);
          }
    ]

pub returns : goal.returns
returns c = sym (c.loop-one.invariant.known ∙ numbers-all c.args.text.now c.args.in_body c.args.declared.now c.loop-one.numbers.items c.loop-one.number c.args.written.now c.loop-one.one-index c.loop-one-test.false)
