use Rattle.click_prog.proofs.Spelling.{addressed-of, unaddressed-ip, unaddressed-port, unaddressed-whole}
use Rattle.click_prog.proofs.link.addressed.Goals as goal

pub returns-in_err-address : goal.returns-in_err-address
returns-in_err-address c = rw c.from_residual.ensures (unaddressed-whole c.args.text.now c.in_err-address.ensures.cases)

pub returns-in_default : goal.returns-in_default
returns-in_default c = unaddressed-ip c.args.text.now (c.in_ok-address.address, c.in_ok-address.port) c.in_ok-address.ensures.cases c.in_default.ensures.value

pub returns-in_err-port : goal.returns-in_err-port
returns-in_err-port c =
    rw c.from_residual-in_err-port.ensures
    (unaddressed-port c.args.text.now (c.in_ok-address.address, c.in_ok-address.port) c.in_ok-address.ensures.cases c.in_err-port.ensures)

pub returns : goal.returns
returns c =
    addressed-of c.args.text.now (c.in_ok-address.address, c.in_ok-address.port) c.new.result c.in_ok-address.ensures.cases (rw c.new.ensures.ip c.in-Ok.ensures.value) (rw c.new.ensures.port c.in_ok-port.ensures)
