use Rattle.std.proofs.Common.{arith, sym, ◌∙◌, ◌<◌, ap, Some, subst, length, get_or, ◌∷◌}
use Rattle.std.specs.Prelude.{option_and_then}
use Rattle.std.specs.List.{slice_get}
use Rattle.std.proofs.lemmas.Option.{slice_get_past, slice_get-get_or}
use Rattle.click_text.specs.Spans.{bytes_at}
use Rattle.click_scopes.specs.Scopes.{body_formals}
use Rattle.click_expand.specs.Parameters.{scope_value, IsReplaced}
use Rattle.click_expand.specs.kept.ParameterValues.{own_arguments, IsValue}
use Rattle.click_expand.proofs.OfTexts.ParameterMeanings.{own-value, value-beside, no-value, bytes-short, found-short}
use Rattle.click_expand.proofs.texts.parameter_values.own_value.Goals as goal

pub returns-in_err-place-clause-value : goal.returns-in_err-place-clause-value
returns-in_err-place-clause-value c places known primitive_elements x are there =
    let C = c.args.config.now in
    let us = c.args.instances.now in
    let one = c.index-instances-at.result in
    let p = c.in-Some.outer in
    let f1 = c.if-at-instances.false in
    let f2 = c.if-outer-at.false in
    let l1 : c.args.at < length us = omega (arith, f1) in
    let l2 : p.within < c.args.at = omega (arith, f2) in
    let formals = c.formals_at-formals.ensures ∙ ap (λ z. body_formals (slice_get z one.scope)) c.as_slice.ensures in
    let r = own-value C us places known primitive_elements are c.args.scopes.now.scopes.items c.requires.scopes.all c.args.at one c.index-instances-outer.result x p
    c.index-instances-at.is l1 there c.in-Some.is c.index-instances-outer.is l2 c.as_slice-text.result.now c.args.name.now c.formals_at-formals.result.now c.formal_place.result c.as_slice-text.ensures formals c.formal_place.ensures in
    subst (λ z. IsValue C known z (scope_value C x.bindings x.scope c.args.name.now)) (sym c.from_residual.ensures) (r.2 ∙ ap (option_and_then (slice_get (own_arguments x.bindings))) c.in_err-place.was)

pub returns-in_err-span-clause-value : goal.returns-in_err-span-clause-value
returns-in_err-span-clause-value c places known primitive_elements x are there =
    let C = c.args.config.now in
    let us = c.args.instances.now in
    let one = c.index-instances-at.result in
    let p = c.in-Some.outer in
    let f1 = c.if-at-instances.false in
    let f2 = c.if-outer-at.false in
    let l1 : c.args.at < length us = omega (arith, f1) in
    let l2 : p.within < c.args.at = omega (arith, f2) in
    let formals = c.formals_at-formals.ensures ∙ ap (λ z. body_formals (slice_get z one.scope)) c.as_slice.ensures in
    let r = own-value C us places known primitive_elements are c.args.scopes.now.scopes.items c.requires.scopes.all c.args.at one c.index-instances-outer.result x p
    c.index-instances-at.is l1 there c.in-Some.is c.index-instances-outer.is l2 c.as_slice-text.result.now c.args.name.now c.formals_at-formals.result.now c.formal_place.result c.as_slice-text.ensures formals c.formal_place.ensures in
    let i = c.in_ok-place.place in
    let past = ap (λ z. slice_get z i) (sym c.arguments_at.ensures) ∙ slice_get_past c.arguments_at.result.now i c.in_err-span.ensures.lookup.3 in
    subst (λ z. IsValue C known z (scope_value C x.bindings x.scope c.args.name.now)) (sym c.from_residual-in_err-span.ensures)
    (r.2 ∙ ap (option_and_then (slice_get (own_arguments x.bindings))) c.in_ok-place.was ∙ no-value C r.0.bindings (r.0.scope ∷ r.0.enclosing) _ _ (own_arguments x.bindings) i r.3 past)

pub returns-clause-value : goal.returns-clause-value
returns-clause-value c places known primitive_elements x are there =
    let C = c.args.config.now in
    let us = c.args.instances.now in
    let one = c.index-instances-at.result in
    let p = c.in-Some.outer in
    let f1 = c.if-at-instances.false in
    let f2 = c.if-outer-at.false in
    let l1 : c.args.at < length us = omega (arith, f1) in
    let l2 : p.within < c.args.at = omega (arith, f2) in
    let formals = c.formals_at-formals.ensures ∙ ap (λ z. body_formals (slice_get z one.scope)) c.as_slice.ensures in
    let r = own-value C us places known primitive_elements are c.args.scopes.now.scopes.items c.requires.scopes.all c.args.at one c.index-instances-outer.result x p
    c.index-instances-at.is l1 there c.in-Some.is c.index-instances-outer.is l2 c.as_slice-text.result.now c.args.name.now c.formals_at-formals.result.now c.formal_place.result c.as_slice-text.ensures formals c.formal_place.ensures in
    let o = r.0 in
    let i = c.in_ok-place.place in
    let span = c.in_ok-span.span.now in
    let at = ap (λ z. slice_get z i) (sym c.arguments_at.ensures) ∙ slice_get-get_or c.arguments_at.result.now i span c.in_ok-span.ensures.lookup.3.0 ∙ ap Some (sym c.in_ok-span.ensures.lookup.1) in
    let q = value-beside C o.bindings (o.scope ∷ o.enclosing) _ _ (own_arguments x.bindings) i span r.3 at in (
      q.0,
      r.2 ∙ ap (option_and_then (slice_get (own_arguments x.bindings))) c.in_ok-place.was ∙ q.1,
      (o, r.1, subst (λ z. IsReplaced C o.bindings (o.scope ∷ o.enclosing) z q.0) (sym (c.of.ensures ∙ ap (λ z. bytes_at z span) c.string_at-string.ensures)) q.2),
      (x, there, q.1),
    )

pub returns-clause-short : goal.returns-clause-short
returns-clause-short c =
    let text = c.as_slice-text.result.now in
    let scope = (get_or c.args.instances.now c.in-Some.outer.within c.index-instances-outer.result).scope in
    let e = ap length c.of.ensures in
    let f = ap length c.string_at-string.ensures in
    let t = ap length c.as_slice-text.ensures in
    omega (arith, e, f, t, bytes-short c.string_at-string.result.now c.in_ok-span.span.now, found-short text (slice_get c.args.scopes.now.scopes.items scope) c.in-Some.outer.element)
