use Rattle.std.proofs.Common.{◌≡◌, ◌+◌, ◌∷◌, ◌++◌, [], All, length, drop, sym, ap, ◌∙◌, refl, rules, subst}
use Rattle.std.proofs.lemmas.List.Elements.{All-nil, All-push}
use Rattle.click_scopes.specs.kept.Tables.{role_kept}
use Rattle.click_scopes.specs.kept.CompoundArguments.{HasArguments}
use Rattle.click_scopes.proofs.OfElements.StatementElements.{with_left, made-more, made-other, made-all, kept-makes, strings_left, strings-makes, strings-other, strings-all}
use Rattle.click_scopes.proofs.scope_elements.scope_elements_of.Goals as goal
use Rattle.click_scopes.proofs.scope_elements.scope_elements_of.Goals.{in-Makes+in_ok-scope_element+in_ok-push, in_default}

pub loop-one-preserved : goal.loop-one-preserved
loop-one-preserved c =
    let text = c.args.text.now in let b = c.args.in_body in let D = c.args.declared.now in let ws = c.args.written.now in let i = c.loop-one.one-index in
    let ls = c.loop-one.scope_elements.items in let v = c.loop-one.invariant in
    elim c.match-role_of.branch [
      | in-Makes+in_ok-scope_element+in_ok-push w ↦
          let l = w.in_ok-scope_element.scope_element in
          let is : c.match-role_of.scope_elements.items ≡ ls ++ l ∷ [] = ap (λ v. v.items) w.scope_elements-is ∙ w.in_ok-push.ensures in
          let k : w.len.result ≡ length ls = search rules in
          let m = sym c.role_of.ensures ∙ ap role_kept w.in-Makes.is in
          record {
            scope_elements = λ ps h.
                v.scope_elements ps h
                ∙ made-more text b D c.args.class_table.now ws ps h ls l w.len.result i _ _ c.loop-one-test.true refl k m w.in_ok-scope_element.ensures.scope_element
                ∙ ap (λ x. with_left text b D x (drop (i + 1) ps)) (sym is);
            strings = v.strings
                ∙ strings-makes text b D ls l ws i _ _ c.loop-one-test.true refl m w.in_ok-scope_element.ensures.string
                ∙ ap (λ x. strings_left text b D x (drop (i + 1) ws)) (sym is);
            arguments = subst (All (HasArguments text)) (sym is) (All-push (HasArguments text) ls l v.arguments w.in_ok-scope_element.ensures.arguments);
          }
      | in_default w ↦
          let k = λ (e : role_kept c.role_of.result ≡ _). w.in_default.not-Makes (kept-makes c.role_of.result e) in
          let same : c.match-role_of.scope_elements.items ≡ ls = ap (λ v. v.items) w.scope_elements-is in
          record {
            scope_elements = λ ps h.
                v.scope_elements ps h
                ∙ made-other text b D c.args.class_table.now ws ps h ls i _ _ (role_kept c.role_of.result) c.loop-one-test.true refl (sym c.role_of.ensures) k
                ∙ ap (λ x. with_left text b D x (drop (i + 1) ps)) (sym same);
            strings = v.strings
                ∙ strings-other text b D ls ws i _ _ (role_kept c.role_of.result) c.loop-one-test.true refl (sym c.role_of.ensures) k
                ∙ ap (λ x. strings_left text b D x (drop (i + 1) ws)) (sym same);
            arguments = subst (All (HasArguments text)) (sym same) v.arguments;
          }
    ]

pub loop-one-init : goal.loop-one-init
loop-one-init c =
    let text = c.args.text.now in let b = c.args.in_body in let D = c.args.declared.now in
    record {
      scope_elements = λ ps h. ap (λ x. with_left text b D x ps) (sym c.in_ok-scope_elements.ensures.items);
      strings = ap (λ x. strings_left text b D x c.args.written.now) (sym c.in_ok-scope_elements.ensures.items);
      arguments = subst (All (HasArguments text)) (sym c.in_ok-scope_elements.ensures.items) (All-nil (HasArguments text));
    }

pub returns : goal.returns
returns c = record {
  scope_elements = λ ps h.
      sym (c.loop-one.invariant.scope_elements ps h ∙ made-all c.args.text.now c.args.in_body c.args.declared.now c.args.class_table.now c.args.written.now ps h c.loop-one.scope_elements.items c.loop-one.one-index c.loop-one-test.false);
  strings = sym (c.loop-one.invariant.strings ∙ strings-all c.args.text.now c.args.in_body c.args.declared.now c.loop-one.scope_elements.items c.args.written.now c.loop-one.one-index c.loop-one-test.false);
  arguments = c.loop-one.invariant.arguments;
}
