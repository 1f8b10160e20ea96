use Rattle.std.proofs.Common.{take}
use Rattle.std.specs.Io.KnownBytes.{Appends}
use Rattle.click_prog.specs.Written.{book_text}
use Rattle.click_prog.proofs.book_lines.write_book.Given as goal

abbrev pub invariant-loop-entry : goal.invariant-loop-entry
invariant-loop-entry g l = Appends (g.W.Write.contents l.initial.to) (g.W.Write.contents l.to) (book_text (take l.entry-index l.entries))
