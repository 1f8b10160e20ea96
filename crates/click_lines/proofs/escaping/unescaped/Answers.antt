use Rattle.std.proofs.Common.{◌≡◌, [], ◌∷◌, ◌++◌, Some, ap, refl, sym, ◌∙◌}
use Rattle.click_lines.proofs.ByteReadback.{all_read, next_byte, one_more}
use Rattle.click_lines.proofs.escaping.unescaped.Goals as goal

pub returns-in_default-first_byte : goal.returns-in_default-first_byte
returns-in_default-first_byte c = λ least bytes h e.
    let left = c.loop-first.invariant least bytes h e in
    let next = next_byte least left.0 c.loop-first.rest.now c.in-Some.first.now c.in-Some.behind.now left.1 left.3 c.in-Some.ensures.cases.0 in
    absurd (c.in_default-first_byte.ensures.byte least next.0 next.1 next.3 next.5)

pub loop-first-preserved : goal.loop-first-preserved
loop-first-preserved c = λ least bytes h e.
    let left = c.loop-first.invariant least bytes h e in
    let next = next_byte least left.0 c.loop-first.rest.now c.in-Some.first.now c.in-Some.behind.now left.1 left.3 c.in-Some.ensures.cases.0 in
    let made = c.in-Some-first_byte.ensures.byte least next.0 next.1 next.3 next.5 in
    let so_far = c.loop-first.bytes.items in
    let pushed : c.push.new.self.items ≡ so_far ++ next.0 ∷ [] = rw (c.in_ok-push.ensures.items, made.0) refl in
    (next.1, next.4, rw pushed (one_more bytes so_far left.0 next.0 next.1 left.2 next.2), sym made.1)

pub returns : goal.returns
returns c = λ least bytes h e.
    let left = c.loop-first.invariant least bytes h e in
    let whole = all_read least bytes left.0 c.loop-first.bytes.items c.loop-first.rest.now left.2 left.3 c.in_default.ensures.cases in
    ap Some (c.of.ensures ∙ sym whole)
