use Rattle.std.proofs.Common.{map}
use Rattle.std.specs.declared.net.socket_addr.SocketAddr.TheVariants as socket
use Rattle.click_links.specs.Ends.{Hearing}
use Rattle.click_links.specs.declared.run.Receiver.{Receiver}
use Rattle.click_prog.specs.Links.{line_of}
use Rattle.click_prog.specs.declared.link.Link.{Link}
use Rattle.click_prog.proofs.Opening.{opened-more, seen-more}
use Rattle.click_prog.proofs.sockets.open_sockets.Goals as goal

pub loop-link-preserved : goal.loop-link-preserved
loop-link-preserved g c =
    let so_far = c.loop-link.invariant in
    let below = c.loop-link-test.true in
    let old = c.loop-link.links.receivers.items in
    let new = c.in_ok-links.links.receivers.items in
    let end = c.in_ok-input.ensures.end in
    record {
      names = opened-more (λ (l : Link). l.device.now) (map (λ (r : Receiver Hearing). r.device) old) (map (λ (r : Receiver Hearing). r.device) new) c.as_bytes.result.now c.args.asked.now c.loop-link.link-index _ below c.in_ok-links.ensures.names so_far.names c.as_bytes.ensures.value;
      here = seen-more (λ (r : Receiver Hearing). r.link) (λ (e : Hearing). e.here) (λ (l : Link). socket.V4 l.here) old new c.in_ok-input.input c.args.asked.now c.loop-link.link-index _ below
          c.in_ok-links.ensures.ends so_far.here end.0;
      there = seen-more (λ (r : Receiver Hearing). r.link) (λ (e : Hearing). e.there) (λ (l : Link). socket.V4 l.there) old new c.in_ok-input.input c.args.asked.now c.loop-link.link-index _ below
          c.in_ok-links.ensures.ends so_far.there end.1;
      lines = opened-more line_of c.loop-link.lines.items c.push.new.self.items c.in_ok-input.line c.args.asked.now c.loop-link.link-index _ below c.in_ok-push.ensures.items so_far.lines c.in_ok-input.ensures.line;
    }
