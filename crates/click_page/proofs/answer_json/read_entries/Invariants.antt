use Rattle.std.proofs.Common.{◌≡◌, ◌++◌, drop, map}
use Rattle.serde_json.specs.View.{view}
use Rattle.click_page.specs.Asking.{reading}
use Rattle.click_page.specs.Saying.{entries_of}
use Rattle.click_page.proofs.answer_json.read_entries.Given as goal

abbrev pub invariant-loop-at : goal.invariant-loop-at
invariant-loop-at l = map view l.values.items ++ entries_of (map reading (drop l.at l.handlers)) (drop l.at l.answers) ≡ entries_of (map reading l.handlers) l.answers
