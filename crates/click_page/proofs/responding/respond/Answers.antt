use Rattle.std.proofs.Common.{map}
use Rattle.click_page.specs.Asking.{reading}
use Rattle.click_page.proofs.WholeNumbers.{entries-whole}
use Rattle.click_page.proofs.responding.respond.Goals as goal

pub say_value-requires-clause-whole : goal.say_value-requires-clause-whole
say_value-requires-clause-whole g c = rw c.in_ok-told-in-Read.ensures (entries-whole (map reading c.as_slice.result.now) c.args.answers.now)
