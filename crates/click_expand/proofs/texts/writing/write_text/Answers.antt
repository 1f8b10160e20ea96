use Rattle.std.proofs.Common.{◌≡◌, ◌<◌, ◌++◌, ◌∷◌, [], length, rules, sym, ap, ◌∙◌, subst, arith, length-append, append-nil}
use Rattle.click_expand.specs.kept.Buffered.{AreSteps, BeginWithin, weight}
use Rattle.click_expand.specs.declared.texts.writing.TextStep.TheVariants as step
use Rattle.click_expand.proofs.OfTexts.TextBuffer.{no-length, read-none, ends-keep, begin-pop, begin-last, kept-put, left-own, left-keep}
use Rattle.click_expand.proofs.texts.writing.write_text.Goals as goal

pub returns-then-is_empty-clause-fits : goal.returns-then-is_empty-clause-fits
returns-then-is_empty-clause-fits c _ places known primitive_elements whole are h =
    sym (ap (λ z. c.args.buffer.now.text.items ++ z) (read-none c.args.config.now known c.args.first whole (no-length c.args.first.rest.now (search rules)) h) ∙ append-nil c.args.buffer.now.text.items)

pub steps-smaller-in_ok-keep-in-Keep : goal.steps-smaller-in_ok-keep-in-Keep
steps-smaller-in_ok-keep-in-Keep c =
    let ss = c.pop.new.self.items in
    let is : c.steps.steps.items ≡ ss ++ step.Keep c.in-Keep.argument c.in-Keep.start ∷ [] = search rules in
    subst (λ z. weight c.args.config.now.text ss < weight c.args.config.now.text z) (sym is) (ends-keep c.args.config.now.text ss c.in-Keep.argument c.in-Keep.start)

pub steps-preserved-in_ok-keep-in-Keep : goal.steps-preserved-in_ok-keep-in-Keep
steps-preserved-in_ok-keep-in-Keep c =
    let C = c.args.config.now in let us = c.args.instances.now in let i = c.steps.invariant in let k = c.in_ok-keep-in-Keep.ensures in
    let all = c.steps.steps.items in let ss = c.pop.new.self.items in let a = c.in-Keep.argument in let start = c.in-Keep.start in
    let old = c.steps.buffer in let new = c.keep.new.self in let before = c.args.buffer.now.text.items in
    let is : all ≡ ss ++ step.Keep a start ∷ [] = search rules in
    let e : new.text.items ≡ old.text.items = ap (λ t. t.items) k.text in
    let begin : BeginWithin (length old.text.items) (ss ++ step.Keep a start ∷ []) = subst (BeginWithin (length old.text.items)) is i.begin in
    let r = i.room in let s = k.room in let m = ap length e in
    record {
      kept = kept-put C us old new a start e k.kept (begin-last (length old.text.items) ss a start begin) (left-own C us c.args.first before all ss a start old.text.items c.requires.within is i.left) i.kept;
      room = omega (arith, r, s, m);
      begin = subst (λ z. BeginWithin z ss) (sym m) (begin-pop (length old.text.items) ss (step.Keep a start) begin);
      left = left-keep C us c.args.first before all ss a start old.text.items new.text.items is e i.left;
    }

pub returns-then-not-branch-clause-full : goal.returns-then-not-branch-clause-full
returns-then-not-branch-clause-full c _ places known primitive_elements whole are h =
    let ss = c.pop.new.self.items in let text = c.steps.buffer.text.items in let before = c.args.buffer.now.text.items in let i = c.steps.invariant in
    let is : c.steps.steps.items ≡ ss ++ step.Read c.in-Read.reading ∷ [] = search rules in
    let led = subst (λ z. AreSteps c.args.config.now known z text (before ++ whole)) is (i.left places known primitive_elements whole are h) in
    let l = c.in_ok-read_on-in-Read.ensures.full c.if-not-branch.true places known primitive_elements (before ++ whole) are led in let r = i.room in
    omega (arith, l, r, length-append before whole)

pub steps-preserved : goal.steps-preserved
steps-preserved c =
    let ss = c.pop.new.self.items in let text = c.steps.buffer.text.items in let before = c.args.buffer.now.text.items in
    let i = c.steps.invariant in let k = c.in_ok-read_on-in-Read.ensures in
    let is : c.steps.steps.items ≡ ss ++ step.Read c.in-Read.reading ∷ [] = search rules in
    record {
      kept = k.kept;
      room = k.room ∙ i.room;
      begin = k.begin (begin-pop (length text) ss (step.Read c.in-Read.reading) (subst (BeginWithin (length text)) is i.begin));
      left = λ places known primitive_elements whole are h.
          k.led c.if-not-branch.false places known primitive_elements (before ++ whole) are (subst (λ z. AreSteps c.args.config.now known z text (before ++ whole)) is (i.left places known primitive_elements whole are h));
    }

pub returns-clause-fits : goal.returns-clause-fits
returns-clause-fits c _ places known primitive_elements whole are h =
    let none : c.steps.steps.items ≡ [] = search rules in
    sym (subst (λ z. AreSteps c.args.config.now known z c.steps.buffer.text.items (c.args.buffer.now.text.items ++ whole)) none (c.steps.invariant.left places known primitive_elements whole are h))
