-- Ethernet addresses that are written as text read back.
use Rattle.std.proofs.Common.{◌≡◌, ◌==◌, ℕ, zero, suc, ◌+◌, ◌*◌, ◌/◌, ◌%◌, ◌<◌, ◌≤◌, List, [], ◌∷◌, ◌++◌, length, Bool, true, false, Some, Ok, refl, sym, ap, ◌∙◌, arith}
use Rattle.std.specs.Prelude.{position, nat_lt, nat_le, codes}
use Rattle.std.specs.List.{All}
use Rattle.std.specs.Option.{ok_or}
use Rattle.std.proofs.Math.Nat.{div-add-mod}
use Rattle.std.proofs.lemmas.Bool.Decides.{nat_tests}
use Rattle.click_base.specs.Numbers.{hex_digit, digit_value, hexadecimal_in}
use Rattle.click_classes.specs.Values.{group, separated, ethernet}
use Rattle.click_classes.specs.declared.fault.ArgFault.TheVariants as fault
use Rattle.click_classes.specs.declared.values.groups.Group.TheVariants as kind
use Rattle.click_classes.proofs.OfArguments.Groups.{preceded, separated_next, separated_last}
use Rattle.click_handlers.specs.Reads.{hex_char, hex_pair, ether_text}

-- a digit of a number below 16
record IsHexChar (n : ℕ) : Type 0 where
  pub digit : hex_digit (hex_char n) ≡ true
  pub value : digit_value (hex_char n) ≡ n
  pub other : (hex_char n == 58) ≡ false

hex_char-of : (n : ℕ) → n < 16 → IsHexChar n
hex_char-of zero h = record { digit = refl; value = refl; other = refl }
hex_char-of (suc zero) h = record { digit = refl; value = refl; other = refl }
hex_char-of (suc (suc zero)) h = record { digit = refl; value = refl; other = refl }
hex_char-of (suc (suc (suc zero))) h = record { digit = refl; value = refl; other = refl }
hex_char-of (suc (suc (suc (suc zero)))) h = record { digit = refl; value = refl; other = refl }
hex_char-of (suc (suc (suc (suc (suc zero))))) h = record { digit = refl; value = refl; other = refl }
hex_char-of (suc (suc (suc (suc (suc (suc zero)))))) h = record { digit = refl; value = refl; other = refl }
hex_char-of (suc (suc (suc (suc (suc (suc (suc zero))))))) h = record { digit = refl; value = refl; other = refl }
hex_char-of (suc (suc (suc (suc (suc (suc (suc (suc zero)))))))) h = record { digit = refl; value = refl; other = refl }
hex_char-of (suc (suc (suc (suc (suc (suc (suc (suc (suc zero))))))))) h = record { digit = refl; value = refl; other = refl }
hex_char-of (suc (suc (suc (suc (suc (suc (suc (suc (suc (suc zero)))))))))) h = record { digit = refl; value = refl; other = refl }
hex_char-of (suc (suc (suc (suc (suc (suc (suc (suc (suc (suc (suc zero))))))))))) h = record { digit = refl; value = refl; other = refl }
hex_char-of (suc (suc (suc (suc (suc (suc (suc (suc (suc (suc (suc (suc zero)))))))))))) h = record { digit = refl; value = refl; other = refl }
hex_char-of (suc (suc (suc (suc (suc (suc (suc (suc (suc (suc (suc (suc (suc zero))))))))))))) h = record { digit = refl; value = refl; other = refl }
hex_char-of (suc (suc (suc (suc (suc (suc (suc (suc (suc (suc (suc (suc (suc (suc zero)))))))))))))) h = record { digit = refl; value = refl; other = refl }
hex_char-of (suc (suc (suc (suc (suc (suc (suc (suc (suc (suc (suc (suc (suc (suc (suc zero))))))))))))))) h = record { digit = refl; value = refl; other = refl }
hex_char-of (suc (suc (suc (suc (suc (suc (suc (suc (suc (suc (suc (suc (suc (suc (suc (suc n)))))))))))))))) h = absurd (omega (arith, h))

below : (b : ℕ) → b < 256 → b / 16 < 16
below b h = omega (arith, h, div-add-mod b 16)

-- two digits of a byte
pair-read : (b : ℕ) → b < 256 → group kind.Pair (hex_pair b) ≡ Some b
unfolding group hexadecimal_in
pair-read b h =
    let x = hex_char-of (b / 16) (below b h) in
    let y = hex_char-of (b % 16) (omega arith) in
    let whole : 16 * (16 * 0 + b / 16) + b % 16 ≡ b = omega (arith, div-add-mod b 16) in
    let small : nat_le b 255 ≡ true = grind (arith, nat_tests) in
    rw (x.digit, y.digit, x.value, y.value, whole, small) refl

-- the colon behind two digits
colon-behind : (b : ℕ) (rest : List ℕ) → b < 256 → position (λ d. d == 58) (hex_pair b ++ 58 ∷ rest) ≡ Some 2
colon-behind b rest h =
    let x = hex_char-of (b / 16) (below b h) in
    let y = hex_char-of (b % 16) (omega arith) in
    let t : nat_lt 2 (length (hex_pair b ++ 58 ∷ rest)) ≡ true = grind (arith, nat_tests) in
    rw (x.other, y.other, t) refl

joined : (m a : ℕ) (rest : List ℕ) → a < 256 → separated kind.Pair 58 (suc (suc m)) (hex_pair a ++ 58 ∷ rest) ≡ preceded (a ∷ []) (separated kind.Pair 58 (suc m) rest)
joined m a rest h = separated_next kind.Pair 58 (hex_pair a ++ 58 ∷ rest) m 2 a (colon-behind a rest h) (pair-read a h)

six-read : (a b c d e f : ℕ) → a < 256 → b < 256 → c < 256 → d < 256 → e < 256 → f < 256
    → ethernet (ether_text (a ∷ b ∷ c ∷ d ∷ e ∷ f ∷ [])) ≡ Ok (a ∷ b ∷ c ∷ d ∷ e ∷ f ∷ [])
unfolding ethernet
six-read a b c d e f ha hb hc hd he hf =
    let last : separated kind.Pair 58 1 (hex_pair f) ≡ Some (f ∷ []) = separated_last kind.Pair 58 (hex_pair f) f (pair-read f hf) in
    let all : separated kind.Pair 58 6 (hex_pair a ++ 58 ∷ (hex_pair b ++ 58 ∷ (hex_pair c ++ 58 ∷ (hex_pair d ++ 58 ∷ (hex_pair e ++ 58 ∷ hex_pair f))))) ≡ Some (a ∷ b ∷ c ∷ d ∷ e ∷ f ∷ []) =
    joined 4 a (hex_pair b ++ 58 ∷ (hex_pair c ++ 58 ∷ (hex_pair d ++ 58 ∷ (hex_pair e ++ 58 ∷ hex_pair f)))) ha
    ∙ ap (preceded (a ∷ [])) (joined 3 b (hex_pair c ++ 58 ∷ (hex_pair d ++ 58 ∷ (hex_pair e ++ 58 ∷ hex_pair f))) hb
    ∙ ap (preceded (b ∷ [])) (joined 2 c (hex_pair d ++ 58 ∷ (hex_pair e ++ 58 ∷ hex_pair f)) hc
    ∙ ap (preceded (c ∷ [])) (joined 1 d (hex_pair e ++ 58 ∷ hex_pair f) hd
    ∙ ap (preceded (d ∷ [])) (joined 0 e (hex_pair f) he ∙ ap (preceded (e ∷ [])) last)))) in
    ap (λ o. ok_or o fault.BadAddress) all

pub ethernet-read : (e : List ℕ) → length e ≡ 6 → All (λ b. b < 256) e → ethernet (ether_text e) ≡ Ok e
ethernet-read [] e h = absurd (omega (arith, e))
ethernet-read (a ∷ []) e h = absurd (omega (arith, e))
ethernet-read (a ∷ b ∷ []) e h = absurd (omega (arith, e))
ethernet-read (a ∷ b ∷ c ∷ []) e h = absurd (omega (arith, e))
ethernet-read (a ∷ b ∷ c ∷ d ∷ []) e h = absurd (omega (arith, e))
ethernet-read (a ∷ b ∷ c ∷ d ∷ x ∷ []) e h = absurd (omega (arith, e))
ethernet-read (a ∷ b ∷ c ∷ d ∷ x ∷ y ∷ []) e h =
    six-read a b c d x y (h 0 0 (omega arith)) (h 1 0 (omega arith)) (h 2 0 (omega arith)) (h 3 0 (omega arith)) (h 4 0 (omega arith)) (h 5 0 (omega arith))
ethernet-read (a ∷ b ∷ c ∷ d ∷ x ∷ y ∷ z ∷ zs) e h = absurd (omega (arith, e))
