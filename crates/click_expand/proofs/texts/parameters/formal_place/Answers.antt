use Rattle.std.proofs.Common.{◌≡◌, ℕ, ◌+◌, ◌<◌, ◌≤◌, List, length, get_or, drop, Bool, true, false, cond, Some, sym, ap, ◌∙◌, arith}
use Rattle.std.specs.List.{position_from}
use Rattle.std.specs.Str.{bytes_eq}
use Rattle.std.proofs.lemmas.List.{at_drop_more, at_drop_all}
use Rattle.std.proofs.lemmas.Iterator.Adapters.{position_from-zero}
use Rattle.click_text.specs.declared.syntax.Span.{Span}
use Rattle.click_text.specs.Spans.{bytes_at}
use Rattle.click_expand.proofs.texts.parameters.formal_place.Goals as goal

abbrev named : List ℕ → List ℕ → Span → Bool
named text name f = bytes_eq (drop 1 (bytes_at text f)) name

abbrev none : Span
none = record { start = 0; end = 0 }

at-first : (p : Span → Bool) (fs : List Span) (i : ℕ) (b : Bool) → i < length fs → p (get_or fs i none) ≡ b → position_from p i (drop i fs) ≡ cond b (Some i) (position_from p (i + 1) (drop (i + 1) fs))
at-first p fs i b l e = at_drop_more (position_from p i) fs i none l ∙ ap (λ z. cond z (Some i) (position_from p (i + 1) (drop (i + 1) fs))) e

pub loop-place-init : goal.loop-place-init
loop-place-init c = position_from-zero (named c.args.text.now c.args.name.now) c.args.formals.now

pub returns-then-is_named : goal.returns-then-is_named
returns-then-is_named c =
    let p = named c.args.text.now c.args.name.now in
    let e = sym (ap (λ w. bytes_eq (drop 1 w) c.args.name.now) c.of.ensures) ∙ sym c.is_named.ensures ∙ c.if-is_named.true in
    sym (c.loop-place.invariant ∙ at-first p c.args.formals.now c.loop-place.place true c.loop-place-test.true e)

pub loop-place-preserved : goal.loop-place-preserved
loop-place-preserved c =
    let p = named c.args.text.now c.args.name.now in
    let e = sym (ap (λ w. bytes_eq (drop 1 w) c.args.name.now) c.of.ensures) ∙ sym c.is_named.ensures ∙ c.if-is_named.false in
    c.loop-place.invariant ∙ at-first p c.args.formals.now c.loop-place.place false c.loop-place-test.true e

pub returns : goal.returns
returns c =
    let p = named c.args.text.now c.args.name.now in
    let t = c.loop-place-test.false in
    let l : length c.args.formals.now ≤ c.loop-place.place = omega (arith, t) in
    sym (c.loop-place.invariant ∙ at_drop_all (position_from p c.loop-place.place) c.args.formals.now c.loop-place.place l)
