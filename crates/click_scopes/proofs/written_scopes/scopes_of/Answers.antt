use Rattle.std.proofs.Common.{◌≡◌, ◌+◌, [], length, refl, sym, ap, ◌∙◌, subst, arith}
use Rattle.std.specs.List.{slice_get}
use Rattle.std.proofs.lemmas.List.{length_push, nil_from_length}
use Rattle.click_scopes.specs.Scopes.{body_statements}
use Rattle.click_scopes.specs.kept.Scoped.{AreWrittenScopes}
use Rattle.click_scopes.proofs.OfBodies.ScopeWalk.{walk-first, walk-next, walked-all, walked-synonyms, taken}
use Rattle.click_scopes.proofs.written_scopes.scopes_of.Goals as goal

pub loop-nested_body-init : goal.loop-nested_body-init
loop-nested_body-init c =
    walk-first c.args.config.now c.as_slice-text.result.now c.as_slice-statements.result.now _ c.written_scope.new.class_table.items _ c.written_scope.new.nested_bodies.items
    _ c.push_scope.new.scopes.items _ c.in_ok-push_scope.ensures c.new-scopes.ensures.items c.new-nested_bodies.ensures.items c.as_slice-text.ensures c.as_slice-statements.ensures
    (ap length c.as_slice-bodies.ensures) c.requires (c.in_ok-scope.ensures.written [] refl) c.in_ok-scope.ensures.ports c.in_ok-scope.ensures.parent (c.in_ok-scope.ensures.nested_bodies [] refl)
    _ c.new-class_table.ensures.items (c.in_ok-scope.ensures.synonyms [] refl)

pub loop-nested_body-smaller : goal.loop-nested_body-smaller
loop-nested_body-smaller c =
    let k = c.loop-nested_body.scopes.items in
    let e : length c.push_scope-in-Some.new.scopes.items ≡ length k + 1 = ap length c.in_ok-push_scope-2.ensures ∙ length_push k _ in
    let n = (taken c.args.config.now c.loop-nested_body.class_table.items c.loop-nested_body.nested_bodies.items c.pop.new.self.items c.in-Some.nested_body k c.in-Some.ensures.items c.loop-nested_body.invariant).count in
    omega (arith, e, n)

pub loop-nested_body-preserved : goal.loop-nested_body-preserved
loop-nested_body-preserved c =
    let config = c.args.config.now in
    walk-next config c.as_slice-text.result.now c.statements_at-inner.result.now c.loop-nested_body.class_table.items c.written_scope-in-Some.new.class_table.items c.loop-nested_body.nested_bodies.items c.pop.new.self.items
    c.written_scope-in-Some.new.nested_bodies.items c.in-Some.nested_body c.loop-nested_body.scopes.items c.push_scope-in-Some.new.scopes.items _ c.in_ok-push_scope-2.ensures c.in-Some.ensures.items
    c.as_slice-text.ensures (c.statements_at-inner.ensures ∙ ap (λ bs. body_statements (slice_get bs c.in-Some.nested_body.body)) c.as_slice-bodies.ensures) c.loop-nested_body.invariant
    c.written_scope-in-Some.ensures.grows c.in_ok-scope-2.ensures.written c.in_ok-scope-2.ensures.ports c.in_ok-scope-2.ensures.parent c.in_ok-scope-2.ensures.nested_bodies
    c.in_ok-scope-2.ensures.synonyms

pub returns-clause-scopes : goal.returns-clause-scopes
returns-clause-scopes c =
    let h = c.in_default.ensures.cases in
    let none : length c.loop-nested_body.nested_bodies.items ≡ 0 = omega (arith, h.0, c.loop-nested_body.nested_bodies.ok.0) in
    subst (AreWrittenScopes c.args.config.now c.loop-nested_body.class_table.items) (sym c.reverse.ensures.items)
    (walked-all c.args.config.now c.loop-nested_body.class_table.items c.loop-nested_body.nested_bodies.items c.loop-nested_body.scopes.items c.requires (nil_from_length c.loop-nested_body.nested_bodies.items none) c.loop-nested_body.invariant)

pub returns-clause-synonyms : goal.returns-clause-synonyms
returns-clause-synonyms c =
    let h = c.in_default.ensures.cases in
    let none : length c.loop-nested_body.nested_bodies.items ≡ 0 = omega (arith, h.0, c.loop-nested_body.nested_bodies.ok.0) in
    walked-synonyms c.args.config.now c.loop-nested_body.class_table.items c.loop-nested_body.nested_bodies.items c.loop-nested_body.scopes.items c.requires (nil_from_length c.loop-nested_body.nested_bodies.items none) c.loop-nested_body.invariant
