use Rattle.std.proofs.Common.{◌≡◌, Option, Some, None, sym, ◌∙◌}
use Rattle.click_router.specs.declared.call.Call.{Call}
use Rattle.click_lines.specs.Kinds.{kind_word}
use Rattle.click_lines.specs.Reading.{IsLaidOut, ReadsBytes, ReadsCall, before, after}
use Rattle.click_lines.proofs.LineReadback.{first_bytes, first_read, if_ok, kind_of, laid_out, some_kind}
use Rattle.click_lines.proofs.reading.call_in.Goals as goal

pub returns-in_default : goal.returns-in_default
returns-in_default c = λ d h fit e. absurd (c.in_default.ensures (kind_of d) (rw c.cut.ensures.0 (some_kind d c.args.words.now h e)))

pub returns-in_default-2 : goal.returns-in_default-2
returns-in_default-2 c = λ d h fit e.
    let text = c.args.words.now in
    let reads : ReadsBytes (before 32 (after 32 text)) c.in_ok-first.field-0 = rw (← c.cut.ensures.1, ← c.cut-2.ensures.0) c.in_ok-first.ensures in
    let bad : Some (first_bytes d) ≡ None = sym (first_read d text c.in_ok-first.field-0 h e reads) ∙ c.in_default-2.is in
    absurd cc

pub returns : goal.returns
returns c =
    let text = c.args.words.now in
    let first = c.in-Some-2.first in
    let last = c.cut-2.result.1.now in
    let ends : last ≡ after 32 (after 32 text) = rw (← c.cut.ensures.1) c.cut-2.ensures.1 in
    let reads : ReadsBytes (before 32 (after 32 text)) c.in_ok-first.field-0 = rw (← c.cut.ensures.1, ← c.cut-2.ensures.0) c.in_ok-first.ensures in
    let is : kind_word c.in-Some.kind ≡ before 32 text = rw (← c.cut.ensures.0) c.in-Some.ensures in
    if_ok c.call_of.result (λ (read : Option Call). (d : Call) → IsLaidOut c.in-Some.kind first last d → read ≡ Some d) (ReadsCall text)
    (λ read found d h fit e. found d (rw ends (laid_out d c.in-Some.kind first text h fit e is (sym c.in-Some-2.is ∙ first_read d text c.in_ok-first.field-0 h e reads))))
    c.call_of.ensures
