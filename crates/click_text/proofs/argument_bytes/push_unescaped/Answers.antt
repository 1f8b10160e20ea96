use Rattle.std.proofs.Common.{◌++◌, refl, append_assoc}
use Rattle.std.proofs.lemmas.List.{append-nil}
use Rattle.click_text.specs.declared.argument_bytes.Escape.TheVariants as escape
use Rattle.click_text.specs.Unquote.{unescaped, added}
use Rattle.click_text.proofs.OfArguments.ArgumentQuotes.{unescaped_step}
use Rattle.click_text.proofs.argument_bytes.push_unescaped.Goals as goal
use Rattle.click_text.proofs.argument_bytes.push_unescaped.Goals.{in-Some-adds+in_ok-push, in_default-adds}

pub loop-byte-preserved : goal.loop-byte-preserved
loop-byte-preserved c =
    let l = c.loop-byte in
    let t = c.in-Some.step in
    let bytes = c.args.bytes.now in
    let (p, old, so, small) = l.invariant in
    let e = unescaped_step (unescaped escape.Clear bytes) l.escape t p bytes l.byte-index c.loop-byte-test.true c.in-Some.ensures.step so in
    elim c.match-step.branch [
      | in-Some-adds+in_ok-push w ↦
          (p ++ added t.adds, rw (w.to-is, w.in_ok-push.ensures.items, w.in-Some-adds.is, old, append_assoc) refl, rw w.escape-is e, rw w.escape-is c.in-Some.ensures.fits)
      | in_default-adds w ↦
          (p ++ added t.adds, rw (w.to-is, w.in_default-adds.is, append-nil p, old) refl, rw w.escape-is e, rw w.escape-is c.in-Some.ensures.fits)
    ]
