use Rattle.std.proofs.Common.{◌≡◌, drop}
use Rattle.click_patterns.specs.Names.{named, rows}
use Rattle.click_patterns.proofs.names.port_in.Given as goal

abbrev pub invariant-loop-name : goal.invariant-loop-name
invariant-loop-name l = named (rows (drop l.name-index l.table)) l.word ≡ named (rows l.table) l.word
