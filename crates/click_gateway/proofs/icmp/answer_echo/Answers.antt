use Rattle.std.proofs.Common.{◌≡◌, ℕ, ◌+◌, ◌-◌, ◌≤◌, true, length, take, drop, refl, sym, ap, ◌∙◌, arith, length-drop, length-take-le}
use Rattle.std.proofs.lemmas.List.{drop-take}
use Rattle.click_packet.specs.Header.{total_len}
use Rattle.click_gateway.specs.Icmp.{echo_reply, is_echo_request, carried}
use Rattle.click_gateway.proofs.icmp.answer_echo.Goals as goal

pub send_as-requires : goal.send_as-requires
send_as-requires c =
    let b = c.args.packet.now.bytes in
    let e = c.in-Some.extent in
    let fits : length b ≤ 1600 = rw (← c.bytes-bytes.ensures.value) c.bytes-bytes.ensures.fits in
    let cut : length c.truncate.new.self.bytes ≡ e.datagram = rw c.truncate.ensures (length-take-le e.datagram b (omega (arith, c.in-Some.ensures.range))) in
    let stripped : length c.strip.new.self.bytes ≡ e.datagram - e.header = rw c.strip.ensures (omega (arith, cut, length-drop e.header c.truncate.new.self.bytes)) in
    omega (arith, c.seal.ensures.len, stripped, fits, c.in-Some.ensures.range)

pub returns-clause-answered : goal.returns-clause-answered
unfolding echo_reply
returns-clause-answered c =
    let b = c.args.packet.now.bytes in
    let h = c.in-Some.extent.header in
    let d = c.in-Some.extent.datagram in
    let yes : is_echo_request b ≡ true = sym c.asks_for_echo.ensures.value ∙ c.if-not-asks_for_echo.false in
    let parts : h + (d - h) ≡ d = omega (arith, c.in-Some.ensures.range) in
    let inside : drop h (take d b) ≡ carried b =
    ap (λ (n : ℕ). drop h (take n b)) (sym parts)
    ∙ drop-take h (d - h) b
    ∙ ap (λ (n : ℕ). take (n - h) (drop h b)) c.in-Some.ensures.value.1
    ∙ ap (λ (n : ℕ). take (total_len b - n) (drop n b)) c.in-Some.ensures.value.0 in
    rw (yes, c.send_as.ensures, c.seal.ensures.value, c.strip.ensures, c.truncate.ensures, c.four.ensures, c.four-2.ensures, c.bytes-bytes.ensures.value, inside) refl
