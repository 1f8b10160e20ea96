use Rattle.std.proofs.Common.{◌≡◌, true, false, refl, sym, ◌∙◌, arith}
use Rattle.click_gateway.specs.Mirrors.{has_ports}
use Rattle.click_gateway.proofs.HeaderLengths.{header_len-is}
use Rattle.click_gateway.proofs.Mirrored.{ports-there}
use Rattle.click_gateway.proofs.mirrors.mirror_datagram.Goals as goal
use Rattle.click_gateway.proofs.mirrors.mirror_datagram.Goals.{then-ports, else-ports}

pub has_ports-ports-requires-clause-stated : goal.has_ports-ports-requires-clause-stated
has_ports-ports-requires-clause-stated c = header_len-is c.args.packet.now.bytes c.in-Some.len c.in-Some.ensures.value

pub exchange_ports-requires : goal.exchange_ports-requires
exchange_ports-requires c =
    let b = c.args.packet.now.bytes in
    let yes : has_ports b ≡ true = sym c.has_ports-ports.ensures.value ∙ c.if-ports.true in
    omega (arith, ports-there b yes, header_len-is b c.in-Some.len c.in-Some.ensures.value, c.exchange_addresses.ensures.len)

pub returns-clause-mirrored : goal.returns-clause-mirrored
returns-clause-mirrored c =
    let b = c.args.packet.now.bytes in
    let h = c.in-Some.ensures.value in
    let n = header_len-is b c.in-Some.len h in
    elim c.if-ports.branch [
      | then-ports w ↦
          let yes : has_ports b ≡ true = sym c.has_ports-ports.ensures.value ∙ w.if-ports.true in
          rw (← h, c.set_destination.ensures, w.packet-is, w.exchange_ports.ensures, c.exchange_addresses.ensures.value, c.four-from.ensures, c.bytes.ensures.value, yes, n) refl
      | else-ports w ↦
          let no : has_ports b ≡ false = sym c.has_ports-ports.ensures.value ∙ w.if-ports.false in
          rw (← h, c.set_destination.ensures, w.packet-is, c.exchange_addresses.ensures.value, c.four-from.ensures, c.bytes.ensures.value, no) refl
    ]
