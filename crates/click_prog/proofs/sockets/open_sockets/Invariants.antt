use Rattle.std.proofs.Common.{◌≡◌, map, take}
use Rattle.std.specs.declared.net.socket_addr.SocketAddr.TheVariants as socket
use Rattle.click_prog.specs.Links.{line_of}
use Rattle.click_prog.proofs.sockets.open_sockets.Given as goal

abbrev pub invariant-loop-link : goal.invariant-loop-link
invariant-loop-link g l = record {
  names : map (λ r. r.device) l.links.receivers.items ≡ map (λ k. k.device.now) (take l.link-index l.asked);
  here : map (λ r. r.link.here) l.links.receivers.items ≡ map (λ k. socket.V4 k.here) (take l.link-index l.asked);
  there : map (λ r. r.link.there) l.links.receivers.items ≡ map (λ k. socket.V4 k.there) (take l.link-index l.asked);
  lines : l.lines.items ≡ map line_of (take l.link-index l.asked);
}
