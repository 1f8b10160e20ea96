use Rattle.std.proofs.Common.{◌≡◌, ◌∷◌, [], length, take, drop, false, true, bytes_eq, sym, ◌∙◌}
use Rattle.std.proofs.lemmas.List.{take_rest}
use Rattle.click_page.proofs.Hosts.{at_port-is}
use Rattle.click_page.proofs.own_host.is_at_port.Goals as goal

pub returns-then-not-starts_with : goal.returns-then-not-starts_with
returns-then-not-starts_with c =
    let is : bytes_eq c.args.name.now (take (length c.args.name.now) c.args.host.now) ≡ false =
    sym c.starts_with.ensures.value ∙ c.if-not-starts_with.true in
    sym (rw is at (at_port-is c.args.port.now c.args.name.now c.args.host.now))

pub returns-then-starts_with : goal.returns-then-starts_with
returns-then-starts_with c =
    let name = c.args.name.now in
    let host = c.args.host.now in
    let is : bytes_eq name (take (length name) host) ≡ true = sym c.starts_with.ensures.value ∙ c.if-not-starts_with.false in
    let colon : bytes_eq (58 ∷ []) (take 1 (drop (length name) host)) ≡ true =
    sym (rw (take_rest host (length name)) at c.starts_with-2.ensures.value) ∙ c.if-starts_with.true in
    let port : c.eq.result ≡ bytes_eq (drop 1 (drop (length name) host)) c.args.port.now =
    rw (take_rest host (length name), take_rest (drop (length name) host) 1) at c.eq.ensures in
    port ∙ sym (rw (is, colon) at (at_port-is c.args.port.now name host))

pub returns-else-starts_with : goal.returns-else-starts_with
returns-else-starts_with c =
    let name = c.args.name.now in
    let host = c.args.host.now in
    let is : bytes_eq name (take (length name) host) ≡ true = sym c.starts_with.ensures.value ∙ c.if-not-starts_with.false in
    let colon : bytes_eq (58 ∷ []) (take 1 (drop (length name) host)) ≡ false =
    sym (rw (take_rest host (length name)) at c.starts_with-2.ensures.value) ∙ c.if-starts_with.false in
    c.if-starts_with.false ∙ sym (rw (is, colon) at (at_port-is c.args.port.now name host))
