use Rattle.std.proofs.Common.{◌≡◌, ℕ, ◌+◌, ◌/◌, ◌%◌, List, ◌∷◌, ◌++◌, length, get_or, Some, refl, ap, ◌∙◌, arith, length-append}
use Rattle.click_packet.specs.Header.{header_len}
use Rattle.click_packet.proofs.Headers.{header_len-some}
use Rattle.click_gateway.specs.Datagrams.{datagram_of}
use Rattle.click_gateway.proofs.Fronts.{four-front}
use Rattle.click_gateway.proofs.datagrams.send_as.Goals as goal

pub returns : goal.returns
unfolding datagram_of
returns c =
    let f = c.args.fields.now in
    let p = c.args.packet.now in
    let total = length p.bytes + 20 in
    let front : List ℕ → List ℕ = λ rest. 69 ∷ f.service ∷ (total / 256) ∷ (total % 256) ∷ get_or f.id 0 0 ∷ get_or f.id 1 0 ∷ f.flags ∷ 0 ∷ 0 ∷ f.protocol ∷ 0 ∷ 0 ∷ rest in
    let bytes = front (f.source ++ (f.destination ++ p.bytes)) in
    let n1 : length f.source ≡ 4 = omega arith in
    let n2 : length f.destination ≡ 4 = omega arith in
    let fields : front (get_or f.source 0 0 ∷ get_or f.source 1 0 ∷ get_or f.source 2 0 ∷ get_or f.source 3 0 ∷ get_or f.destination 0 0 ∷ get_or f.destination 1 0
    ∷ get_or f.destination 2 0 ∷ get_or f.destination 3 0 ∷ p.bytes) ≡ bytes =
    ap front (four-front f.source _ n1 ∙ ap (λ l. f.source ++ l) (four-front f.destination _ n2)) in
    let same : c.prepend_array.new.self ≡ record p { bytes = bytes } = rw (c.in-Ok.ensures.ok, c.bytes.ensures.value, fields) refl in
    let a = length-append f.source (f.destination ++ p.bytes) in
    let b = length-append f.destination p.bytes in
    let len : header_len bytes ≡ Some 20 = header_len-some bytes (omega arith) (omega (arith, a, b, n1, n2)) in
    let aged = rw (same, len) at c.set_ttl-there.ensures in
    rw (c.set_destination.ensures, aged.1) refl
