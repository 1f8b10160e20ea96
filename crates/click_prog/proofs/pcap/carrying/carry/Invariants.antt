use Rattle.click_prog.proofs.pcap.carrying.carry.Given as goal

abbrev pub ghosts-carry_as : goal.ghosts-carry_as
ghosts-carry_as g a = record { held = (g.O.Sink.output a.sink).contents }
