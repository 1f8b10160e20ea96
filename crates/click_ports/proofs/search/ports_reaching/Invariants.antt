use Rattle.std.proofs.Common.{◌+◌, length}
use Rattle.click_ports.specs.kept.Search.{unmarked}
use Rattle.click_ports.proofs.SearchMarks.{IsUnderWay}
use Rattle.click_ports.proofs.search.ports_reaching.Given as goal

abbrev pub invariant-loop-port : goal.invariant-loop-port
invariant-loop-port l = IsUnderWay l.codes l.outside l.inside l.code l.marks.items l.work.items

abbrev pub decreases-loop-port : goal.decreases-loop-port
decreases-loop-port l = unmarked l.marks.items + length l.work.items
