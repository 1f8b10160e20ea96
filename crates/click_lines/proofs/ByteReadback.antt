-- Escaped bytes read back.
use Rattle.std.proofs.Common.{◌≡◌, ℕ, ◌<◌, List, [], ◌∷◌, ◌++◌, length, append_assoc, ap, Ok, zero, suc, refl, sym, ◌∙◌, inl, inr, arith}
use Rattle.std.proofs.lemmas.List.{append-nil}
use Rattle.hex.specs.Hex.{IsBytes, decode_sized, encode_with, lower_digits}
use Rattle.hex.proofs.HexLemmas.{IsDigits-lower_digits, decode_pairs-encode_with}
use Rattle.click_lines.specs.Spelling.{escaped}
use Rattle.click_lines.specs.Lines.{AreBytes}
use Rattle.click_lines.proofs.Words.{high, low, no_backslash, shape}

-- the text begins with a byte that is not escaped
pub plain_first : (least b first : ℕ) (bytes behind : List ℕ) → escaped least (b ∷ bytes) ≡ first ∷ behind → (first ≡ 92 → ⊥)
    → (first ≡ b) × (behind ≡ escaped least bytes)
plain_first least b first bytes behind e apart = elim (shape least b bytes) [
  | inl p ↦ let whole : b ∷ escaped least bytes ≡ first ∷ behind = sym p.1 ∙ e in (cc, cc)
  | inr p ↦ let whole : 92 ∷ high b ∷ low b ∷ escaped least bytes ≡ first ∷ behind = sym p ∙ e in absurd (apart cc)
]

-- the text begins with a backslash and two digits
pub coded_first : (least b : ℕ) (bytes behind : List ℕ) → escaped least (b ∷ bytes) ≡ 92 ∷ behind → behind ≡ high b ∷ low b ∷ escaped least bytes
coded_first least b bytes behind e = elim (shape least b bytes) [
  | inl p ↦ let whole : b ∷ escaped least bytes ≡ 92 ∷ behind = sym p.1 ∙ e in absurd (no_backslash least b p.0 cc)
  | inr p ↦ let whole : 92 ∷ high b ∷ low b ∷ escaped least bytes ≡ 92 ∷ behind = sym p ∙ e in cc
]

one_byte : (b : ℕ) → b < 256 → IsBytes (b ∷ [])
one_byte b small zero = small
one_byte b small (suc i) = omega arith

pub pair_read : (b : ℕ) → b < 256 → decode_sized (high b ∷ low b ∷ []) 1 ≡ Ok (b ∷ [])
unfolding encode_with
pair_read b small = decode_pairs-encode_with lower_digits IsDigits-lower_digits 0 (b ∷ []) (one_byte b small)

-- For any bytes with this text, those that were read are a prefix, and the rest of the text is that
-- of the other bytes.
abbrev pub Left : List ℕ → List ℕ → List ℕ → Type 0
Left text so_far rest = (least : ℕ) (bytes : List ℕ) → AreBytes bytes → escaped least bytes ≡ text
    → (more : List ℕ) × AreBytes more × (bytes ≡ so_far ++ more) × (escaped least more ≡ rest)

-- the remaining text begins with a byte that is read, and is not empty
pub next_byte : (least : ℕ) (more rest : List ℕ) (first : ℕ) (behind : List ℕ) → AreBytes more → escaped least more ≡ rest → rest ≡ first ∷ behind
    → (b : ℕ) × (bytes : List ℕ) × (more ≡ b ∷ bytes) × (b < 256) × AreBytes bytes × (escaped least (b ∷ bytes) ≡ first ∷ behind)
next_byte least [] rest first behind h e is = absurd (let bad : [] ≡ first ∷ behind = e ∙ is in cc)
next_byte least (b ∷ bytes) rest first behind h e is = (b, bytes, refl, h.0, h.1, e ∙ is)

-- no byte is left if no text is left
none_left : (least : ℕ) (more rest : List ℕ) → escaped least more ≡ rest → length rest ≡ 0 → more ≡ []
none_left least [] rest e end = refl
none_left least (b ∷ bytes) rest e end = absurd (elim (shape least b bytes) [
  | inl p ↦ let long : length (b ∷ escaped least bytes) ≡ 0 = ap length (sym p.1 ∙ e) ∙ end in omega (arith, long)
  | inr p ↦ let long : length (92 ∷ high b ∷ low b ∷ escaped least bytes) ≡ 0 = ap length (sym p ∙ e) ∙ end in omega (arith, long)
])

pub all_read : (least : ℕ) (bytes more so_far rest : List ℕ) → bytes ≡ so_far ++ more → escaped least more ≡ rest → length rest ≡ 0 → bytes ≡ so_far
all_read least bytes more so_far rest is e end = is ∙ ap (λ (t : List ℕ). so_far ++ t) (none_left least more rest e end) ∙ append-nil so_far

pub one_more : {A : Type 0} (whole so_far more : List A) (a : A) (rest : List A) → whole ≡ so_far ++ more → more ≡ a ∷ rest → whole ≡ (so_far ++ a ∷ []) ++ rest
one_more whole so_far more a rest e is = e ∙ ap (λ t. so_far ++ t) is ∙ sym (append_assoc so_far (a ∷ []) rest)
