use Rattle.std.proofs.Common.{◌≡◌, rules, arith}
use Rattle.std.proofs.lemmas.Grind.{common_steps}
use Rattle.hex.specs.Hex.{IsBytes}
use Rattle.click_lines.specs.Digits.{hex_text}
use Rattle.click_lines.proofs.DigitReadback.{reads_back}
use Rattle.click_lines.proofs.digits.hex_text.Goals as goal

pub returns-clause-back : goal.returns-clause-back
returns-clause-back c =
    let text : c.into_bytes.result.items ≡ hex_text c.args.bytes.now = first_of (search rules, grind (arith, common_steps)) in
    let fits : IsBytes c.args.bytes.now = λ i. let f = c.type_inv.bytes i in omega arith in
    rw text (reads_back c.args.bytes.now fits)
