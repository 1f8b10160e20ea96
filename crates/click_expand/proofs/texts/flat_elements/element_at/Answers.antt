use Rattle.std.proofs.Common.{sym, ap, ◌∙◌, refl, arith}
use Rattle.std.specs.List.{slice_get}
use Rattle.std.proofs.lemmas.Option.{slice_get_read}
use Rattle.click_scopes.specs.kept.Lookups.{string_found}
use Rattle.click_expand.proofs.OfTexts.ElementTexts.{primitive_element-class, primitive_element-read, element-same, text-behind, room-behind}
use Rattle.click_expand.proofs.OfTexts.ParameterMeanings.{some-same}
use Rattle.click_expand.proofs.texts.flat_elements.element_at.Goals as goal

pub returns-then-not-branch-clause-made : goal.returns-then-not-branch-clause-made
returns-then-not-branch-clause-made c places known primitive_elements n primitive_element are there primitive_element-there =
    let C = c.args.config.now in let us = c.args.instances.now in let p = c.args.place in let k = c.index-instances-place.result in
    let kept = slice_get_read us _ p.within k refl c.requires.within c.index-instances-place.is in
    let s = c.string_at.ensures ∙ ap (λ z. string_found z (slice_get c.args.scopes.now.scopes.items k.scope) p.element) c.as_slice-text.ensures in
    c.in_ok-write_text.ensures.full c.if-not-branch.true places known primitive_elements primitive_element.text are
    (primitive_element-read C us places known primitive_elements are c.args.scopes.now.scopes.items c.requires.scopes.all n p primitive_element k there primitive_element-there kept (record { within = p.within; rest = c.string_at.result }) refl s)

pub returns-clause-made : goal.returns-clause-made
returns-clause-made c places known primitive_elements n primitive_element are there primitive_element-there =
    let C = c.args.config.now in let us = c.args.instances.now in let p = c.args.place in let k = c.index-instances-place.result in
    let kept = slice_get_read us _ p.within k refl c.requires.within c.index-instances-place.is in
    let s = c.string_at.ensures ∙ ap (λ z. string_found z (slice_get c.args.scopes.now.scopes.items k.scope) p.element) c.as_slice-text.ensures in
    let w = c.in_ok-write_text.ensures.fits c.if-not-branch.false places known primitive_elements primitive_element.text are
    (primitive_element-read C us places known primitive_elements are c.args.scopes.now.scopes.items c.requires.scopes.all n p primitive_element k there primitive_element-there kept (record { within = p.within; rest = c.string_at.result }) refl s) in
    let d = some-same (sym c.in-Some.is ∙ c.class_at.ensures ∙ primitive_element-class C us places known primitive_elements are c.args.scopes.now.scopes.items c.requires.scopes.all n p primitive_element k there primitive_element-there kept) in
    let b = text-behind c.args.buffer.now.text.items primitive_element.text c.write_text.new.buffer.text.items c.len-start.result (let e = c.len-start.ensures in omega (arith, e, c.args.buffer.now.text.ok.0)) w in (
      element-same primitive_element _ _ _ (c.of.ensures ∙ c.in_ok-name.ensures C places known primitive_elements n primitive_element c.requires.scopes.all are there primitive_element-there)
          d (c.of-2.ensures ∙ c.in_ok-replaced.ensures.items ∙ c.behind.ensures ∙ b),
      room-behind c.args.buffer.now.text.items primitive_element.text c.write_text.new.buffer.text.items c.write_text.new.buffer.room c.args.buffer.now.room w c.in_ok-write_text.ensures.room,
    )

pub unreachable-requires : goal.unreachable-requires
unreachable-requires c =
    let C = c.args.config.now in let us = c.args.instances.now in let p = c.args.place in let k = c.index-instances-place.result in let f = c.requires.found in
    let kept = slice_get_read us _ p.within k refl c.requires.within c.index-instances-place.is in
    let one = f.4.primitive_element f.3 p f.5 in
    c.in_default.not-Some one.0.class
    (c.class_at.ensures ∙ primitive_element-class C us f.0 f.1 f.2 f.4 c.args.scopes.now.scopes.items c.requires.scopes.all f.3 p one.0 k f.5 one.1 kept)
