use Rattle.std.proofs.Common.{◌≡◌, ◌+◌, ◌++◌, ◌∷◌, [], ℕ, List, None, length, map, option_map, refl, arith, ap, subst, sym, ◌∙◌}
use Rattle.std.specs.List.{All}
use Rattle.std.proofs.lemmas.List.{length-map}
use Rattle.std.proofs.lemmas.List.Elements.{All-head, All-tail}
use Rattle.std.proofs.lemmas.Slice.Zip.{AllZip-long}
use Rattle.click_rings.specs.Feeds.{FeedName, RingName, have_distinct_devices}
use Rattle.click_desk.specs.SeatStates.{SeatState}
use Rattle.click_links.specs.Ends.{IsNewFeed}
use Rattle.click_links.specs.Fates.{Receives}
use Rattle.click_links.specs.Forwarding.{Forwards, sent_by, gifts_by}
use Rattle.click_links.specs.Turns.{names_of}
use Rattle.click_links.specs.declared.device.Device.{Device}
use Rattle.click_links.specs.declared.receiver.ReceiverReport.{ReceiverReport}
use Rattle.click_links.specs.declared.run.Receiver.{Receiver}
use Rattle.click_links.proofs.Gifts.{link_sends}
use Rattle.click_workers.specs.Linked.{AreQuiet, IsSettled, LinkRan}
use Rattle.click_workers.specs.Seats.{IsOf}
use Rattle.click_workers.specs.Work.{AttendedInTurn, DroveFor, numbers_below}
use Rattle.click_workers.specs.declared.linked.LinkEnd.{LinkEnd}
use Rattle.click_workers.proofs.OtherSeats.{from-many, from-of, all-of, all-numbers, drop-behind, no-calls}
use Rattle.click_workers.proofs.LinkFeeds.{same-map, weave, devices-named, no-desk, no-run}
use Rattle.click_workers.proofs.TransmitSeats.{served-quiet, place-quiet, driver-quiet, gives-alone}
use Rattle.click_workers.proofs.NewSeats.{worked-as}
use Rattle.click_workers.proofs.linked.run_linked_with_companion.Goals as goal

pub serve_linked-linked-requires-clause-forwarder : goal.serve_linked-linked-requires-clause-forwarder
serve_linked-linked-requires-clause-forwarder g c κs within =
    let n = c.args.clients.places + c.args.clients.workers in
    let desk = c.in-Ok-begin.begun.desk in
    let feeds = c.args.linking.links.inlets.items in
    let run_seats = c.in-Ok-begin.begun.run_seats in
    let of = subst (λ (l : List SeatState). All (IsOf desk feeds) l) (sym c.in-Ok-begin.ensures.beside) (from-of desk feeds n (1 + g.B.Seats.SeatGroup.many)) in
    (All-head (IsOf desk feeds) run_seats.beside.0 (g.B.Seats.SeatGroup.sittings run_seats.beside.1) of).0

pub serve_linked-linked-requires-clause-of : goal.serve_linked-linked-requires-clause-of
serve_linked-linked-requires-clause-of g c κs within =
    let n = c.args.clients.places + c.args.clients.workers in
    let desk = c.in-Ok-begin.begun.desk in
    let feeds = c.args.linking.links.inlets.items in
    let run_seats = c.in-Ok-begin.begun.run_seats in
    let of = subst (λ (l : List SeatState). All (IsOf desk feeds) l) (sym c.in-Ok-begin.ensures.beside) (from-of desk feeds n (1 + g.B.Seats.SeatGroup.many)) in
    λ k d below. (All-tail (IsOf desk feeds) run_seats.beside.0 (g.B.Seats.SeatGroup.sittings run_seats.beside.1) of k d below).0

pub serve_linked-linked-requires-clause-devices : goal.serve_linked-linked-requires-clause-devices
serve_linked-linked-requires-clause-devices g c κs within =
    omega (
      arith,
      c.args.linking.links.receivers.ok.0,
      ap length c.requires.devices,
      length-map c.args.linking.devices.now (λ (d : Device). d.name),
      length-map c.args.linking.links.receivers.items (λ (r : Receiver g.row.L.Denot). r.device),
    )

pub close_and_settle-ran-requires-clause-of : goal.close_and_settle-ran-requires-clause-of
close_and_settle-ran-requires-clause-of g c κs within =
    let R = Receiver g.row.L.Denot in
    let named : List ℕ → RingName → FeedName = λ d k. record { device = d; ring = k } in
    let F : R → FeedName = λ r. record { device = r.device; ring = r.intake.feed.ring } in
    let Rel : R → R → Type 0 = λ old new. (new.device ≡ old.device) × Receives (g.L.Inbound.received old.link) (g.L.Inbound.received new.link) old.intake new.intake new.received.dropped in
    let s = c.serve_linked-linked.ensures in
    let desk = c.in-Ok-begin.begun.desk in
    let feeds = c.args.linking.links.inlets.items in
    let n = c.args.clients.places + c.args.clients.workers in
    let fed = same-map Rel F F (λ o n r. ap (λ d. named d n.intake.feed.ring) r.0 ∙ ap (λ k. named o.device k) r.1.hears.ring) _ _ s.receives ∙ sym c.args.linking.links.fed in
    let news : List SeatState = c.serve_linked-linked.result.0.seat ∷ g.B.Seats.SeatGroup.sittings c.serve_linked-linked.result.1.0.beside in
    let olds : List SeatState = c.in-Ok-begin.begun.run_seats.beside.0 ∷ g.B.Seats.SeatGroup.sittings c.in-Ok-begin.begun.run_seats.beside.1 in
    let all = all-of desk feeds n (1 + g.B.Seats.SeatGroup.many) c.serve_linked-linked.result.1.0.work.seats.items olds news (s.desk feeds c.in-Ok-begin.ensures.of) c.in-Ok-begin.ensures.beside (s.same, s.beside) in
    subst (λ (fs : List FeedName). All (IsOf desk fs) (c.serve_linked-linked.result.1.0.work.seats.items ++ news)) (sym fed) all

pub close_and_settle-ran-requires-clause-numbers : goal.close_and_settle-ran-requires-clause-numbers
close_and_settle-ran-requires-clause-numbers g c κs within =
    let s = c.serve_linked-linked.ensures in
    let n = c.args.clients.places + c.args.clients.workers in
    let news : List SeatState = c.serve_linked-linked.result.0.seat ∷ g.B.Seats.SeatGroup.sittings c.serve_linked-linked.result.1.0.beside in
    let olds : List SeatState = c.in-Ok-begin.begun.run_seats.beside.0 ∷ g.B.Seats.SeatGroup.sittings c.in-Ok-begin.begun.run_seats.beside.1 in
    all-numbers c.in-Ok-begin.begun.desk c.args.linking.links.inlets.items n (1 + g.B.Seats.SeatGroup.many) c.serve_linked-linked.result.1.0.work.seats.items olds news
    (s.worked.numbers ∙ ap numbers_below c.in-Ok-begin.ensures.count) c.in-Ok-begin.ensures.beside (s.same, s.beside) ∙ ap numbers_below (sym c.in-Ok-begin.ensures.desk.2)

pub close_and_settle-ran-requires-clause-apart : goal.close_and_settle-ran-requires-clause-apart
close_and_settle-ran-requires-clause-apart g c κs within =
    let R = Receiver g.row.L.Denot in
    let named : List ℕ → RingName → FeedName = λ d k. record { device = d; ring = k } in
    let F : R → FeedName = λ r. record { device = r.device; ring = r.intake.feed.ring } in
    let Rel : R → R → Type 0 = λ old new. (new.device ≡ old.device) × Receives (g.L.Inbound.received old.link) (g.L.Inbound.received new.link) old.intake new.intake new.received.dropped in
    let fed = same-map Rel F F (λ o n r. ap (λ d. named d n.intake.feed.ring) r.0 ∙ ap (λ k. named o.device k) r.1.hears.ring) _ _ c.serve_linked-linked.ensures.receives ∙ sym c.args.linking.links.fed in
    ap have_distinct_devices fed ∙ c.in-Ok-begin.ensures.apart

pub close_and_settle-ran-requires-clause-some : goal.close_and_settle-ran-requires-clause-some
close_and_settle-ran-requires-clause-some g c κs within =
    omega (arith, c.requires.many.0, c.in-Ok-begin.ensures.count, c.serve_linked-linked.ensures.worked.many, c.serve_linked-linked.result.1.0.work.seats.ok.0)

pub close_and_settle-ran-requires-clause-room : goal.close_and_settle-ran-requires-clause-room
close_and_settle-ran-requires-clause-room g c κs within =
    let n = c.args.clients.places + c.args.clients.workers in
    let s = c.serve_linked-linked.ensures in
    omega (
      arith,
      c.in-Ok-begin.ensures.room,
      s.room,
      s.worked.many,
      c.serve_linked-linked.result.1.0.work.seats.ok.0,
      AllZip-long _ _ _ s.beside,
      ap length c.in-Ok-begin.ensures.beside,
      from-many c.in-Ok-begin.begun.desk c.args.linking.links.inlets.items n (1 + g.B.Seats.SeatGroup.many),
    )

pub close_and_settle-ran-requires-clause-ends : goal.close_and_settle-ran-requires-clause-ends
close_and_settle-ran-requires-clause-ends g c κs within =
    (c.in-Ok.ensures.items, omega (arith, c.in-Ok.ensures.exact, c.len.ensures, c.args.linking.links.receivers.ok.0, AllZip-long _ _ _ c.serve_linked-linked.ensures.receives))

pub returns-clause-headline : goal.returns-clause-headline
returns-clause-headline g c =
    let R = Receiver g.row.L.Denot in
    let F : R → FeedName = λ r. record { device = r.device; ring = r.intake.feed.ring } in
    let Rel : R → R → Type 0 = λ old new. (new.device ≡ old.device) × Receives (g.L.Inbound.received old.link) (g.L.Inbound.received new.link) old.intake new.intake new.received.dropped in
    let new = c.serve_linked-linked.result.0.links.items in
    let names = devices-named (λ (r : R). r.device) (λ (r : R). r.intake.feed.ring) new
    ∙ same-map Rel (λ (r : R). r.device) (λ (r : R). r.device) (λ o n r. r.0) _ _ c.serve_linked-linked.ensures.receives ∙ sym c.requires.devices in
    (map F new, names, c.close_and_settle-ran.ensures.headline c.args.text.now (c.args.clients.places + c.args.clients.workers + (1 + g.B.Seats.SeatGroup.many)) c.in-Ok-begin.ensures.desk)

pub returns-clause-work : goal.returns-clause-work
returns-clause-work g c =
    let attends = AttendedInTurn g.D.Door.lets_in g.D.Reader.Source.input g.D.Writer.Sink.output g.G.Gate.gives g.G.Gate.told c.args.clients.door.now c.args.clients.gate.now c.args.clients.readonly c.args.clients.turns in
    let drives = DroveFor g.G.Gate.gives g.G.Gate.told c.args.clients.gate.now None in
    let s = c.serve_linked-linked.ensures in
    let run_seats = c.in-Ok-begin.begun.run_seats in
    let done = c.serve_linked-linked.result.1.0 in
    let linked = c.serve_linked-linked.result.0 in
    let ran = c.close_and_settle-ran.ensures in
    record {
      served = done.work.seats.items;
      before = run_seats.beside;
      after = (linked.seat, done.beside);
      parts = ran.seats;
      worked = worked-as attends drives c.args.clients.places _ _ _ _ _ _ _ _ (sym c.in-Ok-begin.ensures.count) refl ran.rest.0 ran.rest.1 s.worked;
      fresh = (c.in-Ok-begin.begun.desk, c.args.linking.links.inlets.items, c.in-Ok-begin.ensures.beside);
      same = (s.same, s.beside);
      does = (
        subst (λ x. Forwards (names_of c.args.linking.devices.now) run_seats.beside.0.calls linked.seat.calls (g.S.Outbound.attempts c.args.linking.sender) (g.S.Outbound.attempts x)) (sym ran.rest.2) s.forwards,
        s.does,
      );
    }

pub returns-clause-links : goal.returns-clause-links
returns-clause-links g c =
    let R = Receiver g.row.L.Denot in
    let E = LinkEnd g.row.L.Denot in
    let came = g.L.Inbound.received in
    let es = c.close_and_settle-ran.result.book.entries in
    let P : R → Type 0 = λ r. IsNewFeed r.intake in
    let Rel : R → R → Type 0 = λ old new. (new.device ≡ old.device) × Receives (came old.link) (came new.link) old.intake new.intake new.received.dropped in
    let Q : R → E → Type 0 = λ r e. (e.device ≡ r.device) × (e.link ≡ r.link) × (e.received ≡ r.received) × IsSettled es r.device r.intake.feed.put (option_map (λ l. l.items) e.left) in
    let S : R → E → Type 0 = λ r e. (e.device ≡ r.device) × LinkRan es r.device (came r.link) (came e.link) e.received.dropped (option_map (λ l. l.items) e.left) in
    weave P Rel Q S
    (λ o n e p r q. (
      q.0 ∙ r.0,
      record {
        from = o.intake;
        to = n.intake;
        fresh = p;
        receives = subst (λ l. Receives (came o.link) (came l) o.intake n.intake e.received.dropped) (sym q.1)
            (subst (λ (x : ReceiverReport). Receives (came o.link) (came n.link) o.intake n.intake x.dropped) (sym q.2) r.1);
        settled = subst (λ d. IsSettled es d n.intake.feed.put (option_map (λ l. l.items) e.left)) r.0 q.3;
      },
    ))
    _ _ _ c.args.linking.links.fresh c.serve_linked-linked.ensures.receives c.close_and_settle-ran.ensures.links

pub returns-clause-sent : goal.returns-clause-sent
returns-clause-sent g c = λ apart device.
    let s = c.serve_linked-linked.ensures in
    let clients = c.args.clients in
    let n = clients.places + clients.workers in
    let m = g.B.Seats.SeatGroup.many in
    let attends = AttendedInTurn g.D.Door.lets_in g.D.Reader.Source.input g.D.Writer.Sink.output g.G.Gate.gives g.G.Gate.told clients.door.now clients.gate.now clients.readonly clients.turns in
    let drives = DroveFor g.G.Gate.gives g.G.Gate.told clients.gate.now None in
    let served = c.serve_linked-linked.result.1.0.work.seats.items in
    let rest = g.B.Seats.SeatGroup.sittings c.serve_linked-linked.result.1.0.beside in
    let forwarder = c.serve_linked-linked.result.0.seat in
    let ran = c.close_and_settle-ran in
    let h = ran.ensures.headline c.args.text.now (n + (1 + m)) c.in-Ok-begin.ensures.desk in
    let quiet = served-quiet attends drives
    (place-quiet g.D.Door.lets_in g.D.Reader.Source.input g.D.Writer.Sink.output g.G.Gate.gives g.G.Gate.told clients.door.now clients.gate.now clients.readonly clients.turns)
    (driver-quiet g.G.Gate.gives g.G.Gate.told clients.gate.now None) _ _ _ _ _ s.worked in
    let behind = drop-behind n ran.result.book.seats served rest forwarder ran.ensures.seats (s.worked.many ∙ c.in-Ok-begin.ensures.count) in
    let others = subst (λ (l : List SeatState). All (λ (s : SeatState). AreQuiet s.calls) l) behind apart in
    let alone = gives-alone device ran.result.book.entries ran.result.book.seats served rest forwarder ran.ensures.seats quiet others h.entered h.numbered in
    let old = c.in-Ok-begin.begun.run_seats.beside.0 in
    let none : old.calls ≡ [] = no-calls c.in-Ok-begin.begun.desk c.args.linking.links.inlets.items n (1 + m) (g.B.Seats.SeatGroup.sittings c.in-Ok-begin.begun.run_seats.beside.1) old c.in-Ok-begin.ensures.beside in
    let made = s.forwards.grown ∙ ap (λ l. l ++ s.forwards.made) none in
    ap (sent_by device) (ap g.S.Outbound.attempts ran.ensures.rest.2)
    ∙ link_sends _ _ _ _ _ s.forwards device ∙ ap (λ l. sent_by device (g.S.Outbound.attempts c.args.linking.sender) ++ gifts_by device l) (sym made)
    ∙ ap (λ l. sent_by device (g.S.Outbound.attempts c.args.linking.sender) ++ l) (sym alone)

pub returns-in-Err-clause-config : goal.returns-in-Err-clause-config
returns-in-Err-clause-config g c =
    let R = Receiver g.row.L.Denot in
    let n = c.args.clients.places + c.args.clients.workers + (1 + g.B.Seats.SeatGroup.many) in
    let names : map (λ (f : FeedName). f.device) c.args.linking.links.inlets.items ≡ names_of c.args.linking.devices.now =
    ap (map (λ (f : FeedName). f.device)) c.args.linking.links.fed ∙ devices-named (λ (r : R). r.device) (λ (r : R). r.intake.feed.ring) c.args.linking.links.receivers.items ∙ sym c.requires.devices in
    no-run n (map (λ (f : FeedName). f.device) c.args.linking.links.inlets.items) (names_of c.args.linking.devices.now) c.args.text.now _ names
    (no-desk n c.args.linking.links.inlets.items c.args.text.now _ c.in-Err.ensures.fault)
