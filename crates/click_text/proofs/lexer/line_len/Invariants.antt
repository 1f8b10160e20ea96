use Rattle.std.proofs.Common.{◌≡◌, take, eqb, true, false}
use Rattle.std.specs.Prelude.{if◌then◌else◌}
use Rattle.std.specs.List.{list_all}
use Rattle.click_text.proofs.lexer.line_len.Given as goal

abbrev pub invariant-loop-i : goal.invariant-loop-i
invariant-loop-i l = list_all (λ b. if eqb b 10 then false else true) (take l.i l.text) ≡ true
