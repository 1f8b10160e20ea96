use Rattle.std.proofs.Common.{◌≡◌, Some, None, refl, sym, ◌∙◌}
use Rattle.click_lines.specs.Reading.{ReadsBytes, ReadsCall, ReadsNumber, before, after}
use Rattle.click_lines.proofs.LineReadback.{cut_line}
use Rattle.click_lines.proofs.reading.parsed.Goals as goal

pub returns-in_default : goal.returns-in_default
returns-in_default c = λ l h fit e.
    let text = c.args.line.now in
    let reads : ReadsNumber (before 9 text) c.number_in.result = rw (← c.cut.ensures.0) c.number_in.ensures in
    let bad : Some l.seat ≡ None = sym (reads l.seat h.0 (cut_line l text h e).0) ∙ c.in_default.is in
    absurd cc

pub returns-in_default-2 : goal.returns-in_default-2
returns-in_default-2 c = λ l h fit e.
    let text = c.args.line.now in
    let reads : ReadsCall (before 9 (after 9 text)) c.in_ok-call.field-0 = rw (← c.cut.ensures.1, ← c.cut-2.ensures.0) c.in_ok-call.ensures in
    let bad : Some l.call ≡ None = sym (reads l.call h.1 fit (cut_line l text h e).1) ∙ c.in_default-2.is in
    absurd cc

pub returns-in_default-3 : goal.returns-in_default-3
returns-in_default-3 c = λ l h fit e.
    let text = c.args.line.now in
    let reads : ReadsBytes (after 9 (after 9 text)) c.in_ok-reply.field-0 = rw (← c.cut.ensures.1, ← c.cut-2.ensures.1) c.in_ok-reply.ensures in
    let bad : Some l.reply ≡ None = sym (reads 32 l.reply h.2 (cut_line l text h e).2) ∙ c.in_default-3.is in
    absurd cc

pub returns : goal.returns
returns c = λ l h fit e.
    let text = c.args.line.now in
    let seats : ReadsNumber (before 9 text) c.number_in.result = rw (← c.cut.ensures.0) c.number_in.ensures in
    let calls : ReadsCall (before 9 (after 9 text)) c.in_ok-call.field-0 = rw (← c.cut.ensures.1, ← c.cut-2.ensures.0) c.in_ok-call.ensures in
    let replies : ReadsBytes (after 9 (after 9 text)) c.in_ok-reply.field-0 = rw (← c.cut.ensures.1, ← c.cut-2.ensures.1) c.in_ok-reply.ensures in
    let cut = cut_line l text h e in
    let seat : Some c.in-Some.seat ≡ Some l.seat = sym c.in-Some.is ∙ seats l.seat h.0 cut.0 in
    let call : Some c.in-Some-2.call ≡ Some l.call = sym c.in-Some-2.is ∙ calls l.call h.1 fit cut.1 in
    let reply : Some c.in-Some-3.reply ≡ Some l.reply = sym c.in-Some-3.is ∙ replies 32 l.reply h.2 cut.2 in
    let one : c.in-Some.seat ≡ l.seat = cc in
    let two : c.in-Some-2.call ≡ l.call = cc in
    let three : c.in-Some-3.reply ≡ l.reply = cc in
    rw (one, two, three) refl
