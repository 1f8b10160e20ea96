use Rattle.std.proofs.Common.{◌≡◌, ◌+◌, ◌++◌, ◌∷◌, [], Some, cond, refl, sym, ap, ◌∙◌, subst, arith}
use Rattle.std.specs.List.{slice_get}
use Rattle.std.proofs.lemmas.Option.{slice_get_read}
use Rattle.click_base.specs.NameLists.{has_name}
use Rattle.click_scopes.specs.kept.FirstFault.{IsLeast, IsWrongScopeElement, first_of, scope_element_at}
use Rattle.click_scopes.proofs.OfFaults.LeastWrongUse.{scope_elements-next, scope_elements-all, names-next}
use Rattle.click_scopes.proofs.first_fault.in_scope_elements.Goals as goal

pub loop-scope_element-preserved : goal.loop-scope_element-preserved
loop-scope_element-preserved c =
    let text = c.args.text.now in let bodies = c.args.bodies.now in let b = c.args.in_body in let ls = c.args.scope_elements.now in let i = c.loop-scope_element.scope_element-index in
    let v = c.loop-scope_element.invariant in let l = c.scope_element-item.result in let ns = c.loop-scope_element.names in
    let there : slice_get ls i ≡ Some l = slice_get_read ls _ i l refl c.loop-scope_element-test.true c.scope_element-item.is in
    record {
      least = subst (IsLeast (IsWrongScopeElement text bodies b ls (i + 1))) (sym (c.first_of-first.ensures ∙ ap (first_of c.loop-scope_element.first) (c.in_scope_element.ensures ∙ ap (λ t. scope_element_at text bodies b t l) (c.in_ok-taken.ensures.taken ∙ ap (λ n. has_name n ns) c.as_slice.ensures.value))))
          (scope_elements-next text bodies b ls i l ns c.loop-scope_element.first there v.known v.least);
      known = names-next text bodies b ls i l l ns c.add.new.self c.loop-scope_element-test.true c.scope_element-item.is
          (c.in_ok-taken.ensures.added ∙ ap (λ n. cond (has_name n ns) ns (ns ++ n ∷ [])) c.as_slice.ensures.value) v.known;
    }

pub returns : goal.returns
returns c =
    scope_elements-all c.args.text.now c.args.bodies.now c.args.in_body c.args.scope_elements.now c.loop-scope_element.scope_element-index c.loop-scope_element.first
    (let a = c.loop-scope_element.auto.scope_element-index-end in let t = c.loop-scope_element-test.false in omega (arith, a, t)) c.loop-scope_element.invariant.least
