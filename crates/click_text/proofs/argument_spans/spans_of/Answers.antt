use Rattle.std.proofs.Common.{◌≡◌, ◌∙◌, true, sym, false, eqb, arith, List, [], ◌∷◌, Option, Some, None, length, refl}
use Rattle.click_text.specs.declared.syntax.Span.{Span}
use Rattle.std.specs.Prelude.{◌&&◌}
use Rattle.std.proofs.lemmas.Bool.{eqb-true, false≢true}
use Rattle.click_text.specs.kept.PartialArgument.{is_nothing}
use Rattle.click_text.proofs.OfArguments.ArgumentCuts.{cutting_comma, both_false, cutting_more, cutting_blank, cutting_all}
use Rattle.click_text.specs.Arguments.{is_comma}
use Rattle.click_text.proofs.argument_spans.spans_of.Goals as goal
use Rattle.click_text.proofs.argument_spans.spans_of.Goals.{else-depth-eq0-via-then-depth-eq0+else-is_comma, else-depth-eq0-via-else-depth-eq0}

pub items-preserved-in_ok-push : goal.items-preserved-in_ok-push
items-preserved-in_ok-push c =
    let l = c.items in
    rw (c.in_ok-push.ensures.items, c.argument_found.ensures) (cutting_comma c.args.text.now l.at l.depth l.spans.items l.found c.first_item-kind.result.0 c.first_item-kind.result.1 c.first_item-kind.ensures.longest
    c.if-depth-eq0.true (sym c.is_comma.ensures ∙ c.if-is_comma.true) l.invariant)

pub items-preserved : goal.items-preserved
items-preserved c =
    let l = c.items in
    let k = c.first_item-kind.result.0 in
    let h : (eqb l.depth 0 && is_comma k) ≡ false = elim c.else-depth-eq0.branch [
      | else-depth-eq0-via-then-depth-eq0+else-is_comma w ↦ both_false l.depth (is_comma k) (λ e f. false≢true (sym w.if-is_comma.false ∙ w.is_comma.ensures ∙ f))
      | else-depth-eq0-via-else-depth-eq0 w ↦ both_false l.depth (is_comma k) (λ e f. w.if-depth-eq0.false e)
    ] in
    rw (c.grown_argument-found.ensures, c.depth_after-depth.ensures) (cutting_more c.args.text.now l.at l.depth l.spans.items l.found k c.first_item-kind.result.1 c.first_item-kind.ensures.longest h l.invariant)

nothing_is : (spans : List Span) (f : Option Span) → is_nothing spans f ≡ true → (spans ≡ []) × (f ≡ None)
nothing_is [] None h = (refl, refl)
nothing_is (s ∷ spans) None h = let g : length (s ∷ spans) ≡ 0 = eqb-true (length (s ∷ spans)) 0 h in absurd (omega arith)
nothing_is spans (Some s) h = cc

something_is : (spans : List Span) (f : Option Span) → is_nothing spans f ≡ false → spans ≡ [] → f ≡ None → ⊥
something_is spans f h e g = let i = rw (e, g) at h in cc

pub returns-then-is_nothing : goal.returns-then-is_nothing
returns-then-is_nothing c =
    let l = c.items in
    let h : is_nothing l.spans.items l.found ≡ true = rw c.as_slice.ensures.value at (sym c.is_nothing.ensures ∙ c.if-is_nothing.true) in
    let n = nothing_is l.spans.items l.found h in
    cutting_blank c.args.text.now l.at l.depth l.spans.items l.found c.items-test.false n.0 n.1 l.invariant

pub returns : goal.returns
returns c =
    let l = c.items in
    let h : is_nothing l.spans.items l.found ≡ false = rw c.as_slice.ensures.value at (sym c.is_nothing.ensures ∙ c.if-is_nothing.false) in
    rw (c.in_ok-push-2.ensures.items, c.argument_found-2.ensures) (cutting_all c.args.text.now l.at l.depth l.spans.items l.found c.items-test.false (something_is l.spans.items l.found h) l.invariant)
