use Rattle.std.proofs.Common.{◌≡◌, ◌∷◌, [], length, take, Ok, ap, arith, refl}
use Rattle.std.proofs.lemmas.List.{take_rest}
use Rattle.hex.specs.Hex.{decode_sized}
use Rattle.click_lines.specs.Spelling.{escaped}
use Rattle.click_lines.proofs.ByteReadback.{coded_first, pair_read}
use Rattle.click_lines.proofs.Words.{high, low}
use Rattle.click_lines.proofs.escaping.first_byte.Goals as goal
use Rattle.click_lines.proofs.escaping.first_byte.Goals.{then-behind-lt2-via-then-behind-lt2, then-behind-lt2-via-else-behind-lt2+then-is_err}

pub returns-then-behind-lt2-clause-byte : goal.returns-then-behind-lt2-clause-byte
returns-then-behind-lt2-clause-byte c = λ least b bytes small e.
    let behind = c.args.behind.now in
    let is : c.args.first ≡ 92 = grind (arith, c.if-first-ne92.false) in
    let tail : behind ≡ high b ∷ low b ∷ escaped least bytes = coded_first least b bytes behind (rw is at e) in
    elim c.then-behind-lt2.branch [
      | then-behind-lt2-via-then-behind-lt2 w ↦ let long : length behind ≡ length (high b ∷ low b ∷ escaped least bytes) = ap length tail in absurd (grind (arith, long, w.if-behind-lt2.true))
      | then-behind-lt2-via-else-behind-lt2+then-is_err w ↦
          let pair : decode_sized (take 2 behind) 1 ≡ Ok (b ∷ []) = rw tail (pair_read b small) in
          let good = rw pair at w.decode_to_slice.ensures.value in
          absurd (grind (arith, good.0, w.is_err.ensures.value, w.if-is_err.true))
    ]

pub returns-clause-byte : goal.returns-clause-byte
returns-clause-byte c = λ least b bytes small e.
    let behind = c.args.behind.now in
    let is : c.args.first ≡ 92 = grind (arith, c.if-first-ne92.false) in
    let tail : behind ≡ high b ∷ low b ∷ escaped least bytes = coded_first least b bytes behind (rw is at e) in
    let pair : decode_sized (take 2 behind) 1 ≡ Ok (b ∷ []) = rw tail (pair_read b small) in
    let good = rw pair at c.decode_to_slice.ensures.value in
    (rw good.1 refl, rw (take_rest behind 2, tail) refl)
