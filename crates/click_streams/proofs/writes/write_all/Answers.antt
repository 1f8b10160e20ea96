use Rattle.std.proofs.Common.{◌||◌, true, take, drop, sym, subst, ap, ◌∙◌, take-append-drop, take-add, length-drop, arith}
use Rattle.std.proofs.lemmas.List.{take_rest}
use Rattle.std.specs.Io.KnownBytes.{Appends}
use Rattle.std.proofs.KnownBytes.{Appends-trans, Appends-kept}
use Rattle.click_streams.proofs.Peers.{or-false}
use Rattle.click_streams.proofs.writes.write_all.Goals as goal

pub loop-at-preserved : goal.loop-at-preserved
loop-at-preserved g c =
    let bytes = c.args.bytes.now in
    let at = c.loop-at.at in
    let output = g.W.Sink.output in
    let so_far = c.loop-at.invariant.written in
    record {
      within = omega (arith, rw (take_rest bytes at) at c.in-Ok.ensures.bound, length-drop at bytes);
      written = record {
        appended = subst (Appends (output c.args.writer.now).contents (output c.write.new.self).contents) (sym (take-add at c.in-Ok.n bytes))
            (Appends-trans _ _ _ _ _ so_far.appended (rw (take_rest bytes at) at c.in-Ok.ensures.bytes));
        failed = c.in-Ok.ensures.failed ∙ or-false (output c.loop-at.writer).failed ∙ so_far.failed;
      };
    }

pub returns-in-Err-clause-err : goal.returns-in-Err-clause-err
returns-in-Err-clause-err g c =
    let bytes = c.args.bytes.now in
    let at = c.loop-at.at in
    let so_far = c.loop-at.invariant.written in (
      take at bytes,
      drop at bytes,
      sym (take-append-drop at bytes),
      record {
        appended = Appends-kept _ _ _ _ so_far.appended c.in-Err.ensures.bytes;
        failed = c.in-Err.ensures.failed ∙ ap (λ b. b || true) (so_far.failed ∙ or-false _);
      },
    )
