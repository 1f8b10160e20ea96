use Rattle.std.proofs.Common.{◌≡◌, map, take}
use Rattle.form_urlencoded.specs.Form.{plus_to_space}
use Rattle.click_page.proofs.queries.with_spaces.Given as goal

abbrev pub invariant-loop-byte : goal.invariant-loop-byte
invariant-loop-byte l = l.text.items ≡ map plus_to_space (take l.byte-index l.value)
