use Rattle.std.proofs.Common.{◌-◌, length, sym, subst, ◌∙◌}
use Rattle.std.specs.Io.KnownBytes.{Consumes}
use Rattle.std.proofs.KnownBytes.{Consumes-trans}
use Rattle.click_streams.proofs.Peers.{or-false}
use Rattle.click_prog.proofs.Pieces.{grown, grown-len}
use Rattle.click_prog.proofs.pcap.reading.fill.Goals as goal

pub loop-at-preserved : goal.loop-at-preserved
loop-at-preserved g c =
    let input = g.R.Source.input in
    let a = c.loop-at.at in
    let xs = c.loop-at.piece in
    let ys = c.read.new.piece in
    let n = c.in-Ok.n in
    let so_far = c.loop-at.invariant in
    record {
      within = grown-len a (length xs - a) n xs ys so_far.within c.in-Ok.ensures.bound;
      took = record {
        consumed = subst (Consumes (input c.args.reader.now).remaining (input c.read.new.self).remaining) (sym (grown a (length xs - a) n xs ys so_far.within c.in-Ok.ensures.bound))
            (Consumes-trans _ _ _ _ _ so_far.took.consumed c.in-Ok.ensures.bytes.0);
        failed = c.in-Ok.ensures.failed ∙ or-false (input c.loop-at.reader).failed ∙ so_far.took.failed;
      };
    }
