use Rattle.std.proofs.Common.{◌≡◌, refl, sym, ap, ◌∙◌, subst}
use Rattle.click_text.specs.Spans.{bytes_at}
use Rattle.click_scopes.specs.Classes.{meaning, primitive_of}
use Rattle.click_scopes.specs.kept.Tables.{meaning_by, entry_meaning}
use Rattle.click_scopes.proofs.OfNames.WordMeanings.{shown-below, found-older, found-end, found-entry}
use Rattle.click_scopes.proofs.classes.find.Goals as goal

pub loop-place-init : goal.loop-place-init
loop-place-init c = λ visible h. (visible, h, shown-below c.args.text.now c.args.class_table.now c.args.visible_class visible h, refl)

pub loop-place-preserved : goal.loop-place-preserved
loop-place-preserved c = λ visible h.
    let text = c.args.text.now in let w = bytes_at text c.args.word in let e = c.in-Some.entry in
    let v = c.loop-place.invariant visible h in
    let f = found-older text c.args.class_table.now c.loop-place.at c.loop-place.limit c.in-Some.place e v.0 w c.in-Some.ensures v.1 in
    let other = meaning text f.0 w in
    (f.0, f.1, f.2, v.3 ∙ f.3 ∙ subst (λ x. entry_meaning text e x other ≡ other) c.of.ensures (c.in-None.ensures other))

pub loop-place-smaller : goal.loop-place-smaller
loop-place-smaller c = (found-entry c.args.class_table.now c.loop-place.at c.loop-place.limit c.in-Some.place c.in-Some.entry c.in-Some.ensures).0

pub returns : goal.returns
returns c = λ visible h.
    let text = c.args.text.now in let w = bytes_at text c.args.word in
    let v = c.loop-place.invariant visible h in
    c.primitive.ensures ∙ ap primitive_of c.of-2.ensures ∙ sym (v.3 ∙ found-end text c.args.class_table.now c.loop-place.at c.loop-place.limit v.0 w v.1 v.2 (sym c.entry_at.ensures ∙ c.in_default.is))

pub returns-in-Some-find_in_entry : goal.returns-in-Some-find_in_entry
returns-in-Some-find_in_entry c = λ visible h.
    let text = c.args.text.now in let w = bytes_at text c.args.word in let e = c.in-Some.entry in
    let v = c.loop-place.invariant visible h in
    let f = found-older text c.args.class_table.now c.loop-place.at c.loop-place.limit c.in-Some.place e v.0 w c.in-Some.ensures v.1 in
    let other = meaning text f.0 w in
    sym (v.3 ∙ f.3 ∙ subst (λ x. entry_meaning text e x other ≡ meaning_by c.in-Some-find_in_entry.class) c.of.ensures (c.in-Some-find_in_entry.ensures other))
