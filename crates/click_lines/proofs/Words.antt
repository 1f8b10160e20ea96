-- An escaped text determines its bytes, and an escaped word has no blank.
use Rattle.std.proofs.Common.{◌≡◌, ◌⊎◌, ℕ, ◌+◌, ◌/◌, ◌%◌, ◌<◌, ◌≤◌, ◌^◌, ◌==◌, Bool, true, false, not, ◌&&◌, List, [], ◌∷◌, ◌++◌, length, slice_index, Some, zero, suc, refl, sym, ap, ◌∙◌, inl, inr, arith}
use Rattle.std.specs.Prelude.{if◌then◌else◌, nat_le, decimal}
use Rattle.std.proofs.lemmas.Bool.{and_parts, and_from, leb-true}
use Rattle.std.proofs.lemmas.Fmt.{decimal_by_steps}
use Rattle.hex.specs.Hex.{encode_with, encode_lower, hex_digit_value, lower_digits}
use Rattle.hex.proofs.HexLemmas.{IsDigits-lower_digits}
use Rattle.click_lines.specs.Spelling.{is_plain, escaped}
use Rattle.click_lines.specs.Lines.{AreBytes}
use Rattle.click_lines.proofs.CutTexts.{lacks, lacks-append, other, unlike}

-- ---- digits

abbrev pub high : ℕ → ℕ
high b = slice_index lower_digits (b / 16)

abbrev pub low : ℕ → ℕ
low b = slice_index lower_digits (b % 16)

digit_once : (d e : ℕ) → d < 16 → e < 16 → slice_index lower_digits d ≡ slice_index lower_digits e → d ≡ e
digit_once d e l m same =
    let one : Some d ≡ Some e = sym (IsDigits-lower_digits d l) ∙ ap (λ (x : ℕ). hex_digit_value x) same ∙ IsDigits-lower_digits e m in cc

pub lacks_at : (c : ℕ) (xs : List ℕ) (k : ℕ) → lacks c xs ≡ true → k < length xs → not (slice_index xs k == c) ≡ true
lacks_at c [] k h lt = absurd (omega arith)
lacks_at c (x ∷ xs) zero h lt = (and_parts (not (x == c)) (lacks c xs) h).0
lacks_at c (x ∷ xs) (suc k) h lt = lacks_at c xs k (and_parts (not (x == c)) (lacks c xs) h).1 (omega arith)

-- ---- bytes

by_test : (t : Bool) (x y : List ℕ) → ((t ≡ true) × ((if t then x else y) ≡ x)) ⊎ ((if t then x else y) ≡ y)
by_test true x y = inl (refl, refl)
by_test false x y = inr refl

-- the first byte is not escaped, or it is a backslash and two digits
pub shape : (least b : ℕ) (bs : List ℕ) → ((is_plain least b ≡ true) × (escaped least (b ∷ bs) ≡ b ∷ escaped least bs)) ⊎ (escaped least (b ∷ bs) ≡ 92 ∷ high b ∷ low b ∷ escaped least bs)
unfolding encode_with
shape least b bs = elim (by_test (is_plain least b) (b ∷ []) (92 ∷ encode_lower (b ∷ []))) [
  | inl plain ↦ inl (plain.0, ap (λ (x : List ℕ). x ++ escaped least bs) plain.1)
  | inr coded ↦ inr (ap (λ (x : List ℕ). x ++ escaped least bs) coded)
]

pub no_backslash : (least b : ℕ) → is_plain least b ≡ true → b ≡ 92 → ⊥
no_backslash least b plain = unlike b 92 (and_parts (nat_le least b && nat_le b 126) (not (b == 92)) plain).1

at_least : (least b : ℕ) → is_plain least b ≡ true → least ≤ b
at_least least b plain =
    leb-true least b (and_parts (nat_le least b) (nat_le b 126) (and_parts (nat_le least b && nat_le b 126) (not (b == 92)) plain).0).0

pub spelled_once : (least : ℕ) (a b : List ℕ) → AreBytes a → AreBytes b → escaped least a ≡ escaped least b → a ≡ b
spelled_once least [] [] h k e = refl
spelled_once least [] (y ∷ b) h k e = absurd (elim (shape least y b) [
  | inl q ↦ let bad : [] ≡ y ∷ escaped least b = e ∙ q.1 in cc
  | inr q ↦ let bad : [] ≡ 92 ∷ high y ∷ low y ∷ escaped least b = e ∙ q in cc
])
spelled_once least (x ∷ a) [] h k e = absurd (elim (shape least x a) [
  | inl p ↦ let bad : x ∷ escaped least a ≡ [] = sym p.1 ∙ e in cc
  | inr p ↦ let bad : 92 ∷ high x ∷ low x ∷ escaped least a ≡ [] = sym p ∙ e in cc
])
spelled_once least (x ∷ a) (y ∷ b) h k e = elim (shape least x a) [
  | inl p ↦ elim (shape least y b) [
    | inl q ↦
        let whole : x ∷ escaped least a ≡ y ∷ escaped least b = sym p.1 ∙ e ∙ q.1 in
        let first : x ≡ y = cc in
        let rest : escaped least a ≡ escaped least b = cc in
        let more : a ≡ b = spelled_once least a b h.1 k.1 rest in
        cc
    | inr q ↦
        let whole : x ∷ escaped least a ≡ 92 ∷ high y ∷ low y ∷ escaped least b = sym p.1 ∙ e ∙ q in
        let first : x ≡ 92 = cc in
        absurd (no_backslash least x p.0 first)
  ]
  | inr p ↦ elim (shape least y b) [
    | inl q ↦
        let whole : 92 ∷ high x ∷ low x ∷ escaped least a ≡ y ∷ escaped least b = sym p ∙ e ∙ q.1 in
        let first : y ≡ 92 = cc in
        absurd (no_backslash least y q.0 first)
    | inr q ↦
        let whole : 92 ∷ high x ∷ low x ∷ escaped least a ≡ 92 ∷ high y ∷ low y ∷ escaped least b = sym p ∙ e ∙ q in
        let highs : high x ≡ high y = cc in
        let lows : low x ≡ low y = cc in
        let rest : escaped least a ≡ escaped least b = cc in
        let hx : x < 256 = h.0 in
        let hy : y < 256 = k.0 in
        let front : x / 16 ≡ y / 16 = digit_once (x / 16) (y / 16) (omega (arith, hx)) (omega (arith, hy)) highs in
        let back : x % 16 ≡ y % 16 = digit_once (x % 16) (y % 16) (omega arith) (omega arith) lows in
        let first : x ≡ y = omega (arith, front, back) in
        let more : a ≡ b = spelled_once least a b h.1 k.1 rest in
        cc
  ]
]

-- a byte below `least` that is not a hex digit does not occur in an escaped text
pub lacks-escaped : (c least : ℕ) (bs : List ℕ) → AreBytes bs → c < least → not (92 == c) ≡ true → lacks c lower_digits ≡ true → lacks c (escaped least bs) ≡ true
lacks-escaped c least [] h small apart digits = refl
lacks-escaped c least (b ∷ bs) h small apart digits =
    let more = lacks-escaped c least bs h.1 small apart digits in
    elim (shape least b bs) [
      | inl p ↦
          let l : least ≤ b = at_least least b p.0 in
          rw p.1 (and_from (not (b == c)) (lacks c (escaped least bs)) (other b c (λ e. omega (arith, l, small, e))) more)
      | inr p ↦
          let small_b : b < 256 = h.0 in
          let first : not (high b == c) ≡ true = lacks_at c lower_digits (b / 16) digits (let q : b / 16 < 16 = omega (arith, small_b) in q) in
          let second : not (low b == c) ≡ true = lacks_at c lower_digits (b % 16) digits (let q : b % 16 < 16 = omega arith in q) in
          let behind_high = and_from (not (low b == c)) (lacks c (escaped least bs)) second more in
          let behind_slash = and_from (not (high b == c)) (not (low b == c) && lacks c (escaped least bs)) first behind_high in
          rw p (and_from (not (92 == c)) (not (high b == c) && (not (low b == c) && lacks c (escaped least bs))) apart behind_slash)
    ]

-- ---- numbers

-- a byte that is not a decimal digit does not occur in a number
pub lacks-decimal : (c n : ℕ) → ((d : ℕ) → d < 10 → 48 + d ≡ c → ⊥) → n < 2 ^ 64 → lacks c (decimal n) ≡ true
lacks-decimal c n apart lt = decimal_by_steps (λ (m : ℕ) (ds : List ℕ). lacks c ds ≡ true)
    (λ m l. and_from (not (48 + m == c)) true (other (48 + m) c (apart m l)) refl)
    (λ m ds l h. lacks-append c ds ((48 + m % 10) ∷ []) h (and_from (not (48 + m % 10 == c)) true (other (48 + m % 10) c (apart (m % 10) (omega arith))) refl))
    n lt
