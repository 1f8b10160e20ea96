use Rattle.std.proofs.Common.{◌≡◌, ◌+◌, ◌∷◌, [], List, arith, ap, subst, sym}
use Rattle.std.specs.List.{All}
use Rattle.std.proofs.lemmas.List.Elements.{All-nil}
use Rattle.click_router.specs.declared.call.Call.{Call}
use Rattle.click_router.specs.declared.call.Reply.{Reply}
use Rattle.click_desk.specs.SeatStates.{SeatState, new_seat}
use Rattle.click_links.specs.Forwarding.{Forwards}
use Rattle.click_links.specs.Turns.{names_of}
use Rattle.click_workers.specs.Linked.{AreQuiet}
use Rattle.click_workers.proofs.OtherSeats.{drop-behind}
use Rattle.click_workers.proofs.linked.run_linked.Goals as goal

pub returns-in-Ok-clause-worked : goal.returns-in-Ok-clause-worked
returns-in-Ok-clause-worked g c =
    let n = c.args.clients.places + c.args.clients.workers in
    let w = c.in-Ok.ensures.work in
    let fresh : w.before.0 ∷ [] ≡ new_seat w.fresh.0 w.fresh.1 (n + 0) ∷ [] = w.fresh.2 in
    let new : w.before.0 ≡ new_seat w.fresh.0 w.fresh.1 (n + 0) = cc in
    record {
      served = w.served;
      forwarder = w.after.0;
      parts = w.parts;
      number = omega (arith, w.same.0.1, ap (λ (s : SeatState). s.number) new);
      worked = w.worked;
      forwards = subst (λ (calls : List (Call × Reply)). Forwards (names_of c.args.linking.devices.now) calls w.after.0.calls (g.S.Outbound.attempts c.args.linking.sender) (g.S.Outbound.attempts c.in-Ok.ran.sender))
          (ap (λ (s : SeatState). s.calls) new) w.does.0;
    }

pub returns-in-Ok-clause-sent : goal.returns-in-Ok-clause-sent
returns-in-Ok-clause-sent g c =
    let n = c.args.clients.places + c.args.clients.workers in
    let w = c.in-Ok.ensures.work in
    let none = drop-behind n c.in-Ok.ran.book.seats w.served [] w.after.0 w.parts (w.worked.many) in
    c.in-Ok.ensures.sent (subst (λ (l : List SeatState). All (λ (s : SeatState). AreQuiet s.calls) l) (sym none) (All-nil (λ (s : SeatState). AreQuiet s.calls)))
