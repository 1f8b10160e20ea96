use Rattle.std.proofs.Common.{subst, take, get_or}
use Rattle.std.proofs.lemmas.List.{take_more}
use Rattle.std.proofs.lemmas.Slice.Zip.{all_zipped_more}
use Rattle.click_classes.specs.declared.values.pattern.Pattern.{Pattern}
use Rattle.click_classes.specs.kept.Masks.{ArePatternTests}
use Rattle.click_classes.proofs.patterns.Patterns.of.Goals as goal

pub loop-pattern-preserved : goal.loop-pattern-preserved
loop-pattern-preserved c =
    let patterns = c.as_slice-patterns.result.now in
    let at = c.loop-pattern.pattern-index in
    let tests = c.in_ok-pattern_tests.field-0 in
    let pattern = c.pattern-item.result in
    rw (c.in_ok-push.ensures.ok, take_more patterns at pattern c.loop-pattern-test.true)
    (all_zipped_more ArePatternTests (take at patterns) c.loop-pattern.ready (get_or patterns at pattern) tests c.loop-pattern.invariant
    (subst (λ (x : Pattern). ArePatternTests x tests) c.pattern-item.is c.in_ok-pattern_tests.ensures))
