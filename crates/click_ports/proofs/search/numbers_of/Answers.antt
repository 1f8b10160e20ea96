use Rattle.std.proofs.Common.{◌≡◌, ℕ, ◌+◌, ◌<◌, length, get_or, sym, ap, ◌∙◌, subst, arith, rules}
use Rattle.std.specs.Prelude.{Vec}
use Rattle.std.specs.Global.{Global}
use Rattle.std.proofs.lemmas.List.{get_or_default}
use Rattle.click_classes.specs.declared.ports.Code.TheVariants.{Agnostic, Push}
use Rattle.click_ports.proofs.SearchMarks.{AreNumbersBelow, numbers-none, numbers-more, numbers-same}
use Rattle.click_ports.proofs.search.numbers_of.Goals as goal
use Rattle.click_ports.proofs.search.numbers_of.Goals.{then-eq+in_ok-push, else-eq}

pub loop-port-init : goal.loop-port-init
loop-port-init c = subst (AreNumbersBelow c.args.codes.now c.args.code 0) (sym c.new-found.ensures.items) (numbers-none c.args.codes.now c.args.code)

pub loop-port-preserved : goal.loop-port-preserved
loop-port-preserved c =
    let codes = c.args.codes.now in let k = c.args.code in let n = c.loop-port.port in
    let there : n < length codes = c.loop-port-test.true in
    elim c.if-eq.branch [
      | then-eq+in_ok-push w ↦
          let is : get_or codes n Push ≡ k = search rules in
          numbers-more codes k n c.loop-port.found.items c.if-eq.found.items (get_or_default codes n Agnostic Push there ∙ is)
          (ap (λ (v : Vec ℕ Global). v.items) w.found-is ∙ w.in_ok-push.ensures.items) c.loop-port.invariant
      | else-eq w ↦
          let is : get_or codes n Push ≡ k → ⊥ = search rules in
          subst (AreNumbersBelow codes k (n + 1)) (sym (ap (λ (v : Vec ℕ Global). v.items) w.found-is))
          (numbers-same codes k n c.loop-port.found.items (λ e. is (get_or_default codes n Push Agnostic there ∙ e)) c.loop-port.invariant)
    ]

pub returns-clause-sound : goal.returns-clause-sound
returns-clause-sound c = λ x h. let b = c.loop-port.invariant.sound x h in let l = b.0 in (omega (arith, l, c.loop-port.auto.port-end), b.1)

pub returns-clause-complete : goal.returns-clause-complete
returns-clause-complete c = λ x l e. c.loop-port.invariant.complete x (omega (arith, l, c.loop-port-test.false)) e
