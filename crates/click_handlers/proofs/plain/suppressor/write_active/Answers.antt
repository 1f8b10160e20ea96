use Rattle.click_handlers.specs.Names.{active_name}
use Rattle.click_handlers.proofs.ActivePorts.{port_named, port_takes_none}
use Rattle.click_handlers.proofs.plain.suppressor.write_active.Goals as goal

pub returns : goal.returns
returns c = rw (port_takes_none c.args.port c.requires.port) (c.write_port.ensures (active_name c.args.port) (port_named c.args.port c.requires.port))
