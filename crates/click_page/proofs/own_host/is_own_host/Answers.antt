use Rattle.std.proofs.Common.{◌≡◌, false, true, nat_eq, sym, ◌∙◌, eq-eqb, arith}
use Rattle.std.proofs.lemmas.Bool.Decides.{nat_tests}
use Rattle.click_page.proofs.Hosts.{own_host_found}
use Rattle.click_page.proofs.own_host.is_own_host.Goals as goal

pub returns-then-is_own_name_at : goal.returns-then-is_own_name_at
returns-then-is_own_name_at c =
    let found : c.is_own_name_at.result ≡ true = c.if-is_own_name_at.true in
    let told = own_host_found c.args.port c.as_bytes.result.now c.args.host.now c.is_own_name_at.result c.is_own_name_at.ensures
    (c.as_bytes.ensures.value ∙ c.format.ensures.text) in
    found ∙ sym (rw found at told)

pub returns-then-port-eq-PLAIN_PORT : goal.returns-then-port-eq-PLAIN_PORT
returns-then-port-eq-PLAIN_PORT c =
    let found : c.is_own_name_at.result ≡ false = c.if-is_own_name_at.false in
    let plain : nat_eq c.args.port 80 ≡ true = eq-eqb c.args.port 80 c.if-port-eq-PLAIN_PORT.true in
    let told = own_host_found c.args.port c.as_bytes.result.now c.args.host.now c.is_own_name_at.result c.is_own_name_at.ensures
    (c.as_bytes.ensures.value ∙ c.format.ensures.text) in
    c.is_own_name.ensures ∙ sym (rw (found, plain) at told)

pub returns-else-port-eq-PLAIN_PORT : goal.returns-else-port-eq-PLAIN_PORT
returns-else-port-eq-PLAIN_PORT c =
    let found : c.is_own_name_at.result ≡ false = c.if-is_own_name_at.false in
    let plain : nat_eq c.args.port 80 ≡ false = grind (arith, nat_tests) in
    let told = own_host_found c.args.port c.as_bytes.result.now c.args.host.now c.is_own_name_at.result c.is_own_name_at.ensures
    (c.as_bytes.ensures.value ∙ c.format.ensures.text) in
    plain ∙ sym (rw (found, plain) at told)
