use Rattle.std.proofs.Common.{◌≡◌, ◌∙◌, length, ap}
use Rattle.std.proofs.lemmas.List.{length-map}
use Rattle.click_expand.specs.declared.flat.Flat.{Flat}
use Rattle.click_ports.specs.Net.{Net, shape_of}
use Rattle.click_router.proofs.OfOpenings.FirstStates.{length_fresh}
use Rattle.click_draw.specs.Drawn.{IsFormNet}
use Rattle.click_page.proofs.WholeNumbers.{flat-whole}
use Rattle.click_page.proofs.flat_json.form_text.Goals as goal

-- the net of a flat form has a shape for each element
as-many-shapes : (flat : Flat) (net : Net) → IsFormNet flat net → length net.shapes ≡ length flat.elements
as-many-shapes flat net (states, fresh, is) = ap (λ (n : Net). length n.shapes) is ∙ length-map states shape_of ∙ length_fresh flat.elements states fresh

pub flat_value-requires : goal.flat_value-requires
flat_value-requires c = record { all = c.in_ok-drawing.ensures.figures ∙ as-many-shapes c.args.flat.now c.args.net.now c.requires.net }

pub json_text-requires : goal.json_text-requires
json_text-requires c = rw c.in_ok-flat_value.ensures (flat-whole c.args.flat.now c.in_ok-drawing.drawing)
