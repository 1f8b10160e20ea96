use Rattle.std.proofs.Common.{◌≡◌, List, ap, ◌∙◌, take, arith}
use Rattle.std.specs.Prelude.{position}
use Rattle.std.proofs.lemmas.List.{take_min}
use Rattle.click_classes.specs.declared.patterns.PatternTests.{PatternTests}
use Rattle.click_classes.specs.declared.values.pattern.Pattern.{Pattern}
use Rattle.click_classes.specs.Matches.{matches}
use Rattle.click_classes.specs.kept.Masks.{IsBytes, first_matching}
use Rattle.click_classes.proofs.OfPatterns.StepLists.{first_same}
use Rattle.click_classes.proofs.patterns.Patterns.first_match.Goals as goal

pub returns-clause-place : goal.returns-clause-place
returns-clause-place c =
    let ready = c.as_slice-ready.result.now in
    let bytes = c.args.bytes.now in
    let are_bytes : IsBytes bytes = λ i. let f = c.type_inv.bytes i in omega arith in
    let first : take c.min-most.result ready ≡ take 256 c.self.inside.ready =
    ap (λ n. take n ready) c.min-most.ensures ∙ take_min 256 ready ∙ ap (λ (l : List PatternTests). take 256 l) c.as_slice-ready.ensures in
    c.first_matching.ensures.place
    ∙ ap (λ (l : List PatternTests). first_matching l bytes) first
    ∙ first_same c.self.inside.written c.self.inside.ready bytes 256 are_bytes c.self.invariant
    ∙ ap (λ (l : List Pattern). position (λ (p : Pattern). matches p bytes) (take 256 l)) c.self.view_is
