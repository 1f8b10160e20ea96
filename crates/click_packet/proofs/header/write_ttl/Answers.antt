use Rattle.std.proofs.Common.{ap, sym, ◌∙◌, List, ℕ, get_or, take, set}
use Rattle.click_packet.specs.Header.{checksum, with_checksum_field}
use Rattle.click_packet.proofs.Headers.{with_ttl_is, take-set_in}
use Rattle.click_packet.proofs.header.write_ttl.Goals as goal

pub returns : goal.returns
returns c =
    let bytes = c.args.bytes.now in
    let ttl = c.args.ttl in
    let aged = set bytes 8 ttl in
    let written = ap (λ (word : List ℕ). set (set aged 10 (get_or word 0 0)) 11 (get_or word 1 0)) c.checksum_at.ensures in
    let sum = ap checksum (sym (take-set_in c.args.len bytes 8 ttl)) ∙ ap (λ n. checksum (take n aged)) c.requires.stated in
    written ∙ ap (with_checksum_field aged) sum ∙ sym (with_ttl_is bytes ttl)
