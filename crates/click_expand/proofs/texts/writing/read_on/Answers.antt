use Rattle.std.proofs.Common.{[], length, rules, sym, ap, ◌∙◌, arith}
use Rattle.std.proofs.lemmas.List.{append-nil}
use Rattle.std.proofs.lemmas.Result.{IfOk-weaker}
use Rattle.click_expand.proofs.OfTexts.TextBuffer.{by-room, no-length, ends-empty, ends-rest, ends-value, begin-rest, begin-value, kept-more, kept-same, led-empty, led-bytes, led-kept, led-value, full-kept, full-bytes}
use Rattle.click_expand.proofs.texts.writing.read_on.Goals as goal

pub returns-then-is_empty-clause-led : goal.returns-then-is_empty-clause-led
returns-then-is_empty-clause-led c _ places known primitive_elements whole are h =
    led-empty c.args.config.now known c.args.steps.now.items c.args.reading c.args.buffer.now.text.items whole h (no-length c.args.reading.rest.now (search rules))

pub returns-then-is_empty-clause-less : goal.returns-then-is_empty-clause-less
returns-then-is_empty-clause-less c = ends-empty c.args.config.now.text c.args.steps.now.items c.args.reading

pub returns-in-Some-clause-kept : goal.returns-in-Some-clause-kept
returns-in-Some-clause-kept c =
    let C = c.args.config.now in let us = c.args.instances.now in let old = c.args.buffer.now in let new = c.repeat.new.self in let v = c.repeat.ensures in
    by-room c.repeat.result v.fits v.full (λ e. kept-more C us old new _ e (ap (λ m. m.entries) v.same) c.requires.kept) (λ e. kept-same C us old new (ap (λ t. t.items) e.0) (ap (λ m. m.entries) v.same) c.requires.kept)

pub returns-in-Some-clause-led : goal.returns-in-Some-clause-led
returns-in-Some-clause-led c =
    let r = c.in_ok-push_rest-in-Value.ensures in
    let k = c.requires.kept c.in-Value.value.argument c.in-Some.span (sym c.place_of.ensures ∙ c.in-Some.is) in
    IfOk-weaker c.repeat.result _ _ (λ fits e y places known primitive_elements whole are h.
    led-kept c.args.config.now known c.args.steps.now.items c.args.reading c.args.buffer.now.text.items whole h c.in-Value.size c.in-Value.value
    (λ p i. c.in-Value.ensures.parts places known primitive_elements p are i) r.0 _ _ _ (k.value places known primitive_elements are) r.1 r.2 (e y)) c.repeat.ensures.fits

pub returns-in-Some-clause-full : goal.returns-in-Some-clause-full
returns-in-Some-clause-full c =
    let k = c.requires.kept c.in-Value.value.argument c.in-Some.span (sym c.place_of.ensures ∙ c.in-Some.is) in
    IfOk-weaker c.repeat.result _ _ (λ fits e n places known primitive_elements whole are h.
    full-kept c.args.config.now known c.args.steps.now.items c.args.reading c.args.buffer.now.text.items whole h c.in-Value.size c.in-Value.value
    (λ p i. c.in-Value.ensures.parts places known primitive_elements p are i) _ c.args.buffer.now.room (k.value places known primitive_elements are) (e n).1) c.repeat.ensures.full

pub returns-in-Some-clause-begin : goal.returns-in-Some-clause-begin
returns-in-Some-clause-begin c =
    let r = c.in_ok-push_rest-in-Value.ensures in let v = c.repeat.ensures in let ss = c.args.steps.now.items in
    by-room c.repeat.result v.fits v.full (λ e. begin-rest _ _ _ ss _ r.0 r.2 e) (λ e. begin-rest _ _ [] ss _ r.0 r.2 (ap (λ t. t.items) e.0 ∙ sym (append-nil c.args.buffer.now.text.items)))

pub returns-in-Some-clause-less : goal.returns-in-Some-clause-less
returns-in-Some-clause-less c =
    let r = c.in_ok-push_rest-in-Value.ensures in let s = c.in-Value.ensures.shorter in
    IfOk-weaker c.repeat.result _ _ (λ fits _. ends-rest c.args.config.now.text c.args.steps.now.items _ c.args.reading r.0 c.in-Value.size r.2 r.1 s.0 s.1) c.repeat.ensures.fits

pub returns-in_ok-push_rest-in-Bytes-clause-led : goal.returns-in_ok-push_rest-in-Bytes-clause-led
returns-in_ok-push_rest-in-Bytes-clause-led c =
    let r = c.in_ok-push_rest-in-Bytes.ensures in
    IfOk-weaker c.add.result _ _ (λ fits e y places known primitive_elements whole are h.
    led-bytes c.args.config.now known c.args.steps.now.items c.args.reading c.args.buffer.now.text.items whole h c.in-Bytes.len r.0 _ _
    (λ p i. c.in-Bytes.ensures.parts places known primitive_elements p are i) r.1 r.2 (e y)) c.add.ensures.fits

pub returns-in_ok-push_rest-in-Bytes-clause-full : goal.returns-in_ok-push_rest-in-Bytes-clause-full
returns-in_ok-push_rest-in-Bytes-clause-full c =
    IfOk-weaker c.add.result _ _ (λ fits e n places known primitive_elements whole are h.
    full-bytes c.args.config.now known c.args.steps.now.items c.args.reading c.args.buffer.now.text.items whole h c.in-Bytes.len c.args.buffer.now.room
    (λ p i. c.in-Bytes.ensures.parts places known primitive_elements p are i) (e n).1) c.add.ensures.full

pub returns-in_ok-push_rest-in-Bytes-clause-begin : goal.returns-in_ok-push_rest-in-Bytes-clause-begin
returns-in_ok-push_rest-in-Bytes-clause-begin c =
    let r = c.in_ok-push_rest-in-Bytes.ensures in let v = c.add.ensures in let ss = c.args.steps.now.items in
    by-room c.add.result v.fits v.full (λ e. begin-rest _ _ _ ss _ r.0 r.2 e) (λ e. begin-rest _ _ [] ss _ r.0 r.2 (ap (λ t. t.items) e.0 ∙ sym (append-nil c.args.buffer.now.text.items)))

pub returns-in_ok-push_rest-in-Bytes-clause-less : goal.returns-in_ok-push_rest-in-Bytes-clause-less
returns-in_ok-push_rest-in-Bytes-clause-less c =
    let r = c.in_ok-push_rest-in-Bytes.ensures in let s = c.in-Bytes.ensures.shorter in
    IfOk-weaker c.add.result _ _ (λ fits _. ends-rest c.args.config.now.text c.args.steps.now.items _ c.args.reading r.0 c.in-Bytes.len r.2 r.1 s.0 s.1) c.add.ensures.fits

pub returns-in_ok-push_step-in-Value-2-clause-led : goal.returns-in_ok-push_step-in-Value-2-clause-led
returns-in_ok-push_step-in-Value-2-clause-led c _ places known primitive_elements whole are h =
    let r = c.in_ok-push_rest-in-Value.ensures in let l = c.len.ensures in
    led-value c.args.config.now known c.args.steps.now.items c.args.reading c.args.buffer.now.text.items whole h c.in-Value.size c.in-Value.value
    (λ p i. c.in-Value.ensures.parts places known primitive_elements p are i) r.0 _ _ _ _ r.1 r.2 c.in_ok-push_step-in-Value.ensures c.in_ok-push_step-in-Value-2.ensures (omega (arith, l))

pub returns-in_ok-push_step-in-Value-2-clause-begin : goal.returns-in_ok-push_step-in-Value-2-clause-begin
returns-in_ok-push_step-in-Value-2-clause-begin c h =
    let r = c.in_ok-push_rest-in-Value.ensures in let l = c.len.ensures in
    begin-value (length c.args.buffer.now.text.items) c.args.steps.now.items _ _ _ r.0 c.in-Value.value.reading c.in-Value.value.argument _
    r.2 c.in_ok-push_step-in-Value.ensures c.in_ok-push_step-in-Value-2.ensures (omega (arith, l)) h

pub returns-in_ok-push_step-in-Value-2-clause-less : goal.returns-in_ok-push_step-in-Value-2-clause-less
returns-in_ok-push_step-in-Value-2-clause-less c =
    let r = c.in_ok-push_rest-in-Value.ensures in let s = c.in-Value.ensures.shorter in
    ends-value c.args.config.now.text c.args.steps.now.items _ _ _ c.args.reading r.0 c.in-Value.value.reading c.in-Value.value.argument _ c.in-Value.size
    r.2 c.in_ok-push_step-in-Value.ensures c.in_ok-push_step-in-Value-2.ensures r.1 s.0 s.1 s.2 s.3
