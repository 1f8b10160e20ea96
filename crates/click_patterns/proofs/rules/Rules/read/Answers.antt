use Rattle.std.proofs.Common.{◌≡◌, ◌∙◌, ℕ, List, map, sym, ap, subst, ◌<◌}
use Rattle.click_patterns.specs.kept.Flat.{flat_of}
use Rattle.click_filter.specs.Rules.{Ruling, all_tests, AreRules, decision}
use Rattle.click_filter.specs.Programs.{decides}
use Rattle.click_patterns.specs.RuleLists.{AreSpelled, decided, outputs_of}
use Rattle.click_patterns.proofs.RuleReading.{flat_copies_are, same_decision, one_rule_list}
use Rattle.click_patterns.proofs.rules.Rules.read.Goals as goal

pub invariant_of-result : goal.invariant_of-result
invariant_of-result c =
    let q = c.in_ok-rules.ensures.ok in
    let w = c.in_ok-written.ensures ∙ ap (map flat_of) c.as_slice.ensures.value ∙ flat_copies_are c.in_ok-rules.rules.items q.0 q.2 in
    let d = c.in-Ok.ensures.decides q.0 q.2 in
    (λ b. d b ∙ sym (same_decision q.0 b) ∙ ap (λ x. decided x b) (sym w), c.outputs_of-outputs.ensures ∙ ap outputs_of c.as_slice-2.ensures)

pub returns-in-Ok-clause-ok : goal.returns-in-Ok-clause-ok
returns-in-Ok-clause-ok c =
    let q = c.in_ok-rules.ensures.ok in
    (q.0, q.1, c.in-Ok.ensures.few q.0 q.2, c.in_ok-written.ensures ∙ ap (map flat_of) c.as_slice.ensures.value ∙ flat_copies_are c.in_ok-rules.rules.items q.0 q.2)

pub returns-in-Err-TooManyTests-clause-err : goal.returns-in-Err-TooManyTests-clause-err
returns-in-Err-TooManyTests-clause-err c =
    λ e rs h.
    let q = c.in_ok-rules.ensures.ok in
    let same = one_rule_list c.args.form c.args.texts.now q.0 rs q.1 h in
    subst (λ (x : List Ruling). 4096 < all_tests x) same (c.in-Err-TooManyTests.ensures.full q.0 q.2 c.in-Err-TooManyTests.field-0-is)
