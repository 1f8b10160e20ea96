use Rattle.click_ports.proofs.OneConnection.{has-connection, one-target, one-source}
use Rattle.click_ports.proofs.laws.each_port_has_its_connection.Goals as goal

pub returns : goal.returns
returns c = record { connected = has-connection; one_target = one-target; one_source = one-source }
