use Rattle.std.proofs.Common.{◌≡◌, Some, length, nat_lt, refl, sym, ap, ◌∙◌, subst, arith}
use Rattle.std.specs.List.{slice_get}
use Rattle.std.proofs.lemmas.Option.{slice_get_read}
use Rattle.click_scopes.specs.kept.AllScopes.{IsScopeOf}
use Rattle.click_scopes.proofs.OfLists.TableRows.{filled-next}
use Rattle.click_scopes.proofs.OfConnections.AllScopes.{ScopeAt, all-scopes}
use Rattle.click_scopes.proofs.scopes.all_scopes.Goals as goal

pub loop-place-preserved : goal.loop-place-preserved
loop-place-preserved c =
    let config = c.args.config.now in let es = c.args.written.now.class_table.items in let ws = c.args.written.now.scopes.items in let i = c.loop-place.place in
    let v = c.loop-place.invariant in let w = c.one-item.result in let k = c.in_ok-scope.scope in
    let there : slice_get ws i ≡ Some w =
    ap (λ x. slice_get x i) (sym v.0) ∙ slice_get_read c.as_slice-one-items.result.now _ i w refl c.loop-place-test.true c.one-item.is in
    let count : nat_lt i c.len-count.result ≡ nat_lt i (length config.bodies) = ap (λ n. nat_lt i n) c.len-count.ensures in (
      v.0,
      filled-next (ScopeAt config es) ws c.loop-place.scopes.items c.push_scope.new.scopes.items i w k there
          (subst (λ b. IsScopeOf config es b w k) count (subst (λ x. IsScopeOf config x (nat_lt i c.len-count.result) w k) c.as_slice-class_table.ensures.value c.in_ok-scope.ensures))
          c.in_ok-push_scope.ensures v.1,
    )

pub returns : goal.returns
returns c =
    let v = c.loop-place.invariant in
    all-scopes c.args.config.now c.args.written.now.class_table.items c.args.written.now.scopes.items c.loop-place.scopes.items c.loop-place.place c.requires.nested c.requires.scoped
    (let h = ap length v.0 in let t = c.loop-place-test.false in omega (arith, h, t)) v.1
