use Rattle.std.proofs.Common.{◌+◌, ◌∷◌, [], length, take, ap, subst, sym, ◌∙◌}
use Rattle.std.proofs.lemmas.List.{length-append}
use Rattle.click_scopes.specs.kept.Lookups.{body_at}
use Rattle.click_expand.specs.kept.Wiring.{IsIndex}
use Rattle.click_expand.specs.kept.Passthrough.{AreShortened}
use Rattle.click_expand.proofs.OfConnections.ShortcutIndices.{AreAllShortened, all-shortened-next}
use Rattle.click_expand.proofs.connections.passthrough.all_indices.Goals as goal

pub loop-scope-preserved : goal.loop-scope-preserved
loop-scope-preserved c =
    let body = body_at c.args.scopes.now.scopes.items in let i = c.loop-scope.scope in let xs = c.loop-scope.indices.items in let x = c.in_ok-with_shortcuts_of_scope.field-0 in
    let index = c.in_ok-index.index in let all = c.as_slice-all.result.now in let k = c.index-all-scope.result in let many = c.loop-scope.invariant.as_many in
    let same = c.as_slice-all.ensures.value in
    record {
      are = subst (λ ks. AreAllShortened body (take (i + 1) ks) c.push.new.self.items) same
          (all-shortened-next body all i xs c.push.new.self.items k k index x c.loop-scope-test.true c.index-all-scope.is (subst (λ ks. AreAllShortened body (take i ks) xs) (sym same) c.loop-scope.invariant.are) many
          (subst (λ js. IsIndex js index.ends.entries) c.as_slice.ensures c.in_ok-index.ensures) c.in_ok-push.ensures.items
          (λ ends short known. c.in_ok-with_shortcuts_of_scope.ensures ends short (subst (AreShortened ends body short) (sym c.as_slice-in-loop-scope.ensures.value) known)));
      as_many = ap (λ n. n + 1) many ∙ sym (ap length c.in_ok-push.ensures.items ∙ length-append xs (x ∷ []));
    }
