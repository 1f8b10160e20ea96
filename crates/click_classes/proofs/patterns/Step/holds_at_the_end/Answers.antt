use Rattle.std.proofs.Common.{◌≡◌, length, drop, true, refl, ◌∙◌, arith}
use Rattle.std.specs.Prelude.{nat_le}
use Rattle.std.proofs.lemmas.Bool.Decides.{nat_tests}
use Rattle.std.proofs.lemmas.List.{take_rest}
use Rattle.click_classes.specs.kept.Masks.{behind, word}
use Rattle.click_classes.proofs.OfPatterns.ClauseSteps.{rest_word}
use Rattle.click_classes.proofs.patterns.Step.holds_at_the_end.Goals as goal

pub returns-then-self-bytes : goal.returns-then-self-bytes
returns-then-self-bytes c =
    let bytes = c.args.bytes.now in
    let reach = c.if-self-bytes.true in
    let within : nat_le c.args.self.now.end (length bytes) ≡ true = grind (arith, nat_tests) in
    let rest : c.word_behind.result ≡ word (behind 0 (drop c.min.result bytes)) 8 = simp take_rest at c.word_behind.ensures in
    let read = rest ∙ rest_word c.args.self.now.at c.min.result bytes c.min.ensures in
    rw (within, read) refl
