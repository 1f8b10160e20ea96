use Rattle.click_ports.proofs.SearchMarks.{AreNumbersBelow}
use Rattle.click_ports.proofs.search.numbers_of.Given as goal

abbrev pub invariant-loop-port : goal.invariant-loop-port
invariant-loop-port l = AreNumbersBelow l.codes l.code l.port l.found.items
