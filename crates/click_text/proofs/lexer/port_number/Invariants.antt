use Rattle.std.proofs.Common.{◌≡◌, ◌<◌, drop}
use Rattle.click_text.specs.Pieces.{decimal_after}
use Rattle.click_text.proofs.lexer.port_number.Given as goal

abbrev pub invariant-loop-digit : goal.invariant-loop-digit
invariant-loop-digit l = record {
  small : l.number < 256;
  goes_on : decimal_after l.number (drop l.digit-index l.digits) ≡ decimal_after 0 l.digits;
}
