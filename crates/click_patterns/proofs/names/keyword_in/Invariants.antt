use Rattle.std.proofs.Common.{◌≡◌, drop}
use Rattle.click_patterns.specs.Names.{keyword, keyword_rows}
use Rattle.click_patterns.proofs.names.keyword_in.Given as goal

abbrev pub invariant-loop-name : goal.invariant-loop-name
invariant-loop-name l = keyword (keyword_rows (drop l.name-index l.table)) l.word ≡ keyword (keyword_rows l.table) l.word
