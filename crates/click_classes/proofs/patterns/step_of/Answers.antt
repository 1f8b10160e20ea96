use Rattle.std.proofs.Common.{◌<◌, ◌≤◌, ◌+◌, ◌≡◌, ◌==◌, true, false, bit_and, length, ap, inl, inr, arith}
use Rattle.std.proofs.lemmas.Bool.{cases_lt}
use Rattle.std.proofs.lemmas.Bool.Decides.{nat_tests}
use Rattle.click_classes.specs.kept.Masks.{IsBytes}
use Rattle.click_classes.proofs.OfPatterns.ClauseSteps.{made_step}
use Rattle.click_classes.proofs.patterns.step_of.Goals as goal
use Rattle.click_classes.proofs.patterns.step_of.Goals.{then-is_empty, else-is_empty}

pub returns : goal.returns
returns c =
    let offset = c.args.offset in
    let value = c.args.value.now in
    let same = c.requires.same in
    let few = c.requires.few in
    let begin = c.saturating_sub-at.ensures in
    let value_bytes : IsBytes value = λ i. let f = c.type_inv.value i in omega arith in
    let mask_bytes : IsBytes c.args.mask.now = λ i. let f = c.type_inv.mask i in omega arith in
    let none : length value ≡ 0 → c.if-is_empty.end ≡ 0 = elim c.if-is_empty.branch [
      | then-is_empty w ↦ λ h. w.end-is
      | else-is_empty w ↦ λ h. let t : false ≡ (length value == 0) = w.if-is_empty.ensures in let u = rw h at t in cc
    ] in
    let some : 0 < length value → c.if-is_empty.end ≡ offset + length value = elim c.if-is_empty.branch [
      | then-is_empty w ↦ λ h. let t : true ≡ (length value == 0) = w.if-is_empty.ensures in let z : length value ≡ 0 = grind (arith, nat_tests) in absurd (omega arith)
      | else-is_empty w ↦ λ h. w.end-is
    ] in
    let least : c.saturating_sub-at.result ≤ offset = elim (cases_lt 0 (length value)) [
      | inl h ↦ let e = some h in omega (arith, begin, few, e)
      | inr h ↦ let e = none (omega arith) in omega (arith, begin, e)
    ] in
    made_step offset value c.args.mask.now _ (record {
      same = same;
      few = few;
      at_least = least;
      at_most = λ h. let e = some h in omega (arith, begin, e);
      end_none = none;
      end_some = some;
      mask_is = c.word_behind-mask.ensures;
      value_is = ap (λ n. bit_and n c.word_behind-mask.result) c.word_behind.ensures;
    }) value_bytes mask_bytes
