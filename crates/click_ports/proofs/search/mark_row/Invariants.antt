use Rattle.std.proofs.Common.{take}
use Rattle.click_ports.specs.kept.Search.{RowMarked}
use Rattle.click_ports.proofs.search.mark_row.Given as goal

abbrev pub invariant-loop-port : goal.invariant-loop-port
invariant-loop-port l = RowMarked l.codes l.code (take l.port-index l.row) l.fn.marks.items l.fn.work.items l.marks.items l.work.items
