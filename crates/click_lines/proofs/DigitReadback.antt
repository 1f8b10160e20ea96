-- Bytes read back from their digits.
use Rattle.std.proofs.Common.{◌≡◌, ℕ, List, [], ◌∷◌, length, ap, refl, inl, inr, arith}
use Rattle.hex.specs.Hex.{IsBytes, encode_lower, lower_digits}
use Rattle.hex.proofs.HexLemmas.{decode_of-encode_lower, length-encode_with}
use Rattle.click_lines.specs.Digits.{IsHex, hex_text}

pub reads_back : (bytes : List ℕ) → IsBytes bytes → IsHex (hex_text bytes) bytes
reads_back [] fits = inl (refl, refl)
reads_back (b ∷ bs) fits =
    let len = length-encode_with lower_digits (b ∷ bs) in
    inr (
      (λ e. let none : length (encode_lower (b ∷ bs)) ≡ 0 = ap length e in absurd (omega (arith, len, none))),
      decode_of-encode_lower (b ∷ bs) fits,
    )
