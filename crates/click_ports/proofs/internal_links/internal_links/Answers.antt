use Rattle.std.proofs.Common.{◌≡◌, ℕ, ◌+◌, ◌<◌, [], ◌∷◌, ◌++◌, true, false, refl, sym, ap, ◌∙◌, subst, arith}
use Rattle.click_ports.specs.Links.{IsAgnostic}
use Rattle.click_ports.specs.Ports.{used}
use Rattle.click_ports.proofs.InnerLinks.{IsRowBelow, row-none, row-more, row-same, row-all, crosses-in, crosses-made, number-across, passes-across, agnostic-across}
use Rattle.click_ports.proofs.internal_links.internal_links.Goals as goal
use Rattle.click_ports.proofs.internal_links.internal_links.Goals.{then-is_agnostic+then-passes_between+in_ok-push, else-is_agnostic, else-is_agnostic-via-then-is_agnostic+else-passes_between, else-is_agnostic-via-else-is_agnostic}

pub number-requires : goal.number-requires
number-requires c = omega (arith, c.loop-number-test.true, c.candidates-from.ensures.within, c.used.ensures.value)

pub loop-number-init : goal.loop-number-init
loop-number-init c =
    let w = c.args.layout.now in let p = c.args.port in
    subst (IsRowBelow w p c.candidates-from.result.0) (sym c.new-row.ensures)
    (row-none w p c.candidates-from.result.0 (λ n k.
    (crosses-in w p c.opposite-side.result c.class-class.result c.used.result c.candidates-from.result.0 c.candidates-from.result.1 n
    c.opposite-side.ensures c.class-class.ensures c.used.ensures.value c.candidates-from.ensures.onward c.candidates-from.ensures.back k).0))

pub loop-number-preserved : goal.loop-number-preserved
loop-number-preserved c =
    let w = c.args.layout.now in let p = c.args.port in let n : ℕ = c.loop-number.number in let side = c.opposite-side.result in
    let known = c.loop-number.invariant in
    elim c.if-is_agnostic.branch [
      | then-is_agnostic+then-passes_between+in_ok-push b ↦
          let here : IsAgnostic w.shapes p = c.if-not-is_agnostic.ensures.0 refl in
          let there : IsAgnostic w.shapes (record { element = p.element; side = side; number = n }) = b.if-is_agnostic.ensures.0 refl in
          let below : n < used w.connections p.element side = omega (arith, c.loop-number-test.true, c.candidates-from.ensures.within, c.used.ensures.value) in
          row-more w p n c.loop-number.row c.if-is_agnostic.row
          (crosses-made w p side c.class-class.result n c.opposite-side.ensures c.class-class.ensures c.requires.there below here there (sym b.if-passes_between.ensures))
          (b.row-is ∙ b.in_ok-push.ensures.ok ∙ ap (λ y. c.loop-number.row ++ y ∷ []) (b.number.ensures.value ∙ number-across w p side n c.opposite-side.ensures))
          known
      | else-is_agnostic b ↦
          let same = row-same w p n c.loop-number.row in
          elim b.else-is_agnostic.branch [
            | else-is_agnostic-via-then-is_agnostic+else-passes_between v ↦
                subst (IsRowBelow w p (n + 1)) (sym b.row-is)
                (same (λ k. let t : false ≡ true = v.if-passes_between.ensures ∙ passes-across w p c.class-class.result n c.class-class.ensures k in cc t) known)
            | else-is_agnostic-via-else-is_agnostic v ↦
                subst (IsRowBelow w p (n + 1)) (sym b.row-is)
                (same (λ k. let t : false ≡ true = v.if-is_agnostic.ensures.1 (agnostic-across w p side n c.opposite-side.ensures k) in cc t) known)
          ]
    ]

pub returns : goal.returns
returns c =
    let w = c.args.layout.now in let p = c.args.port in
    row-all w p c.loop-number.number c.loop-number.row
    (λ n k. let b = (crosses-in w p c.opposite-side.result c.class-class.result c.used.result c.candidates-from.result.0 c.candidates-from.result.1 n
    c.opposite-side.ensures c.class-class.ensures c.used.ensures.value c.candidates-from.ensures.onward c.candidates-from.ensures.back k).1 in
    omega (arith, b, c.loop-number-test.false))
    c.loop-number.invariant
