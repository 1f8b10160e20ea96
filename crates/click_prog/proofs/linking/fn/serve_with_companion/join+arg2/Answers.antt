use Rattle.std.proofs.Common.{◌≡◌}
use Rattle.click_prog.proofs.Quiet.{all-ok, quiet-behind}
use Rattle.click_prog.proofs.linking.fn.serve_with_companion.join+arg2.Goals as goal

pub returns : goal.returns
returns g c =
    let k = c.clients_of-clients.ensures in
    let names = c.requires.8 in
    record {
      ran = all-ok _ _ _ _ _ (λ ran h w s l. record {
        gate = c.clients_of-clients.result.gate.now;
        headline = rw (names, k.plan.1, k.plan.2) at h;
        work = rw (names, k.door, k.turns, k.plan.0, k.plan.1, k.plan.2) at w;
        sent = s (quiet-behind g.B.Seats.SeatGroup.sittings g.B.Seats.SeatGroup.many (g.B.Companion.does c.captures.beside) c.requires.7 _ _ _ _ _ _ _ _ _ _ _ w);
        links = l;
      }) c.run_linked_with_companion-ran.result c.run_linked_with_companion-ran.ensures.headline c.run_linked_with_companion-ran.ensures.work c.run_linked_with_companion-ran.ensures.sent c.run_linked_with_companion-ran.ensures.links;
      config = rw (names, k.plan.1, k.plan.2) at c.run_linked_with_companion-ran.ensures.config;
    }
