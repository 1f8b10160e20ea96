use Rattle.std.proofs.Common.{◌≡◌, ◌+◌, ◌≤◌, Some, length, refl, sym, ap, ◌∙◌, subst, arith}
use Rattle.std.specs.List.{slice_get}
use Rattle.std.proofs.lemmas.Option.{slice_get_read}
use Rattle.std.proofs.lemmas.List.{length_push}
use Rattle.click_expand.specs.kept.Sizes.{IsSizeOf}
use Rattle.click_expand.specs.kept.Counted.{size_or, IsSum}
use Rattle.click_expand.proofs.OfInstances.ScopeSizes.{weighed-next, weighed-all}
use Rattle.click_expand.proofs.instances.sizes.size_of.Goals as goal

pub loop-scope-preserved : goal.loop-scope-preserved
loop-scope-preserved c =
    let scopes = c.args.scopes.now.scopes.items in let sizes = c.loop-scope.sizes.items in let at = c.loop-scope.scope-index in let k = c.scope-item.result in let size = c.scope_size-size.result in
    let i : length sizes ≡ at = c.loop-scope.invariant.0 in
    let there : slice_get scopes (length sizes) ≡ Some k =
    ap (slice_get scopes) i ∙ ap (λ xs. slice_get xs at) (sym c.as_slice-all.ensures.value) ∙ slice_get_read c.as_slice-all.result.now _ at k refl c.loop-scope-test.true c.scope-item.is in (
      ap length c.in_ok-push_size.ensures ∙ length_push sizes size ∙ ap (λ n. n + 1) i,
      weighed-next c.args.config.now c.requires.nested scopes c.requires.scopes.all sizes c.push_size.new.sizes.items k size there
          (subst (λ xs. IsSum xs k.elements.items size) c.as_slice.ensures.value
          (subst (λ xs. IsSum c.as_slice.result.now xs size) c.as_slice-in-loop-scope.ensures.value c.scope_size-size.ensures))
          c.in_ok-push_size.ensures c.loop-scope.invariant.1,
    )

pub returns : goal.returns
returns c =
    let l : length c.args.scopes.now.scopes.items ≤ length c.loop-scope.sizes.items = (let t = c.loop-scope-test.false in let i = c.loop-scope.invariant.0 in let n = ap length c.as_slice-all.ensures.value in omega (arith, t, i, n)) in
    subst (IsSizeOf c.args.config.now)
    (sym (c.size_at.ensures ∙ ap (λ xs. size_or (slice_get xs c.len.result)) c.as_slice-2.ensures.value ∙ ap (λ n. size_or (slice_get c.loop-scope.sizes.items n)) c.len.ensures))
    (weighed-all c.args.config.now c.args.scopes.now.scopes.items c.requires.scopes.all c.loop-scope.sizes.items l c.loop-scope.invariant.1)
