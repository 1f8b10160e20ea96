use Rattle.std.proofs.Common.{◌∙◌, ℕ, ap, sym, Vec, Global}
use Rattle.click_base.specs.Classes.{classes, gateway_classes, name}
use Rattle.click_expand.specs.FlatText.{uses_gateway}
use Rattle.click_router.proofs.ClassLines.{both_parts, one_part}
use Rattle.click_router.proofs.globals.classes_text.Goals as goal
use Rattle.click_router.proofs.globals.classes_text.Goals.{then-uses_gateway+in_ok-push_classes-2, else-uses_gateway}

-- By hand, because a search computes the names of all classes.
pub returns : goal.returns
returns c =
    let start = c.new-text.result.items in
    let text = c.push_classes.new.text.items in
    let all = c.if-uses_gateway.text.items in
    let uses = uses_gateway c.args.elements.now in
    elim c.if-uses_gateway.branch [
      | then-uses_gateway+in_ok-push_classes-2 w ↦
          both_parts name classes gateway_classes uses start text all (sym c.uses_gateway.ensures ∙ w.if-uses_gateway.true) c.new-text.ensures.items c.in_ok-push_classes.ensures
          (ap (λ (v : Vec ℕ Global). v.items) w.text-is ∙ w.in_ok-push_classes-2.ensures)
      | else-uses_gateway w ↦
          ap (λ (v : Vec ℕ Global). v.items) w.text-is
          ∙ one_part name classes gateway_classes uses start text (sym c.uses_gateway.ensures ∙ w.if-uses_gateway.false) c.new-text.ensures.items c.in_ok-push_classes.ensures
    ]
