-- Prefixes and Ethernet addresses read back from their text.
use Rattle.std.proofs.Common.{◌≡◌, ◌==◌, ℕ, suc, ◌+◌, ◌/◌, ◌%◌, ◌<◌, ◌≤◌, List, [], ◌∷◌, ◌++◌, length, drop, Bool, true, false, ◌&&◌, Some, Ok, decimal, codes, refl, ap, ◌∙◌, arith, append_assoc}
use Rattle.std.specs.Prelude.{◌||◌, nat_le}
use Rattle.std.specs.List.{list_all}
use Rattle.std.specs.Option.{ok_or}
use Rattle.std.proofs.Math.Seq.{take-append_seam, drop-append-add}
use Rattle.std.proofs.lemmas.List.Folds.{list_all-append}
use Rattle.std.proofs.lemmas.Bool.Decides.{nat_tests}
use Rattle.click_base.specs.Numbers.{digit, hex_digit, hexadecimal_in, decimal_in, spelled}
use Rattle.click_classes.specs.declared.fault.ArgFault.TheVariants as fault
use Rattle.click_classes.specs.declared.values.groups.Group.TheVariants as kind
use Rattle.click_classes.specs.Values.{group, separated, address, ethernet, prefix, cleared}
use Rattle.click_classes.specs.ClauseText.{hex_text}
use Rattle.click_base.proofs.Decimals.{digits-decimal, decimal_in-read}
use Rattle.click_classes.proofs.OfArguments.Separators.{position-behind, position-none}
use Rattle.click_classes.proofs.OfArguments.ValueTexts.{address-read}
use Rattle.click_classes.proofs.OfPatterns.ClauseTexts.{is_digit}
use Rattle.click_classes.proofs.OfArguments.Groups.{preceded, separated_next, separated_last}

behind : (xs ys : List ℕ) (b : ℕ) → drop (length xs + 1) (xs ++ b ∷ ys) ≡ ys
behind xs ys b = drop-append-add xs (b ∷ ys) 1

-- ---- a prefix

-- a digit or a point
abbrev in_address : ℕ → Bool
in_address b = digit b || (b == 46)

passes : (b : Bool) (c : Bool) → b ≡ true → (b || c) ≡ true
passes true c e = refl
passes false c e = cc

parts : (a b : Bool) → (a && b) ≡ true → (a ≡ true) × (b ≡ true)
parts true b e = (refl, e)
parts false b e = cc

digits_pass : (ds : List ℕ) → list_all digit ds ≡ true → list_all in_address ds ≡ true
digits_pass [] h = refl
digits_pass (d ∷ ds) h =
    let p = parts (digit d) (list_all digit ds) h in
    let f = passes (digit d) (d == 46) p.0 in
    let r = digits_pass ds p.1 in
    rw (f, r) refl

decimal_passes : (n : ℕ) → n < 256 → list_all in_address (decimal n) ≡ true
decimal_passes n h = digits_pass (decimal n) (digits-decimal n (omega arith))

-- a number before other bytes
more_passes : (n : ℕ) (rest : List ℕ) → n < 256 → list_all in_address rest ≡ true → list_all in_address (decimal n ++ 46 ∷ rest) ≡ true
more_passes n rest h r =
    let d = decimal_passes n h in
    list_all-append in_address (decimal n) (46 ∷ rest) ∙ rw (d, r) refl

module _ (a b c d : ℕ) (ha : a < 256) (hb : b < 256) (hc : c < 256) (hd : d < 256) where
  text : List ℕ
  text = decimal a ++ codes "." ++ decimal b ++ codes "." ++ decimal c ++ codes "." ++ decimal d

  text_passes : list_all in_address text ≡ true
  unfolding text
  text_passes =
      let e = more_passes a (decimal b ++ 46 ∷ (decimal c ++ 46 ∷ decimal d)) ha (more_passes b (decimal c ++ 46 ∷ decimal d) hb (more_passes c (decimal d) hc (decimal_passes d hd))) in
      simp append_assoc e

  pub prefix-whole : prefix (decimal a ++ codes "." ++ decimal b ++ codes "." ++ decimal c ++ codes "." ++ decimal d) ≡ Ok (record { network = a ∷ b ∷ c ∷ d ∷ []; len = 32 })
  unfolding prefix text
  prefix-whole =
      let none = position-none in_address 47 refl text text_passes in
      let read = address-read a b c d ha hb hc hd in
      rw (none, read) refl

  pub prefix-cut : (len : ℕ) → len ≤ 32
      → prefix (decimal a ++ codes "." ++ decimal b ++ codes "." ++ decimal c ++ codes "." ++ decimal d ++ codes "/" ++ decimal len) ≡ Ok (record { network = cleared len (a ∷ b ∷ c ∷ d ∷ []); len = len })
  unfolding prefix text
  prefix-cut len h =
      let at = position-behind in_address 47 refl text (decimal len) text_passes in
      let front = ap address (take-append_seam text (47 ∷ decimal len)) ∙ address-read a b c d ha hb hc hd in
      let back = ap (decimal_in 32) (behind text (decimal len) 47) ∙ decimal_in-read 32 len (omega arith) h in
      let e : prefix (text ++ 47 ∷ decimal len) ≡ Ok (record { network = cleared len (a ∷ b ∷ c ∷ d ∷ []); len = len }) = rw (at, front, back) refl in
      simp append_assoc (simp append_assoc at e)

-- ---- an Ethernet address

pair : (a : ℕ) → a < 256 → group kind.Pair (hex_text (a ∷ [])) ≡ Some a
unfolding group hexadecimal_in
pair a h =
    let p = is_digit (a / 16) (omega arith) in
    let q = is_digit (a % 16) (omega arith) in
    let first = p.hex in
    let second = q.hex in
    let high = p.hex_digit_value in
    let low = q.hex_digit_value in
    let s : spelled 16 0 (hex_text (a ∷ [])) ≡ a = rw (high, low) (omega arith) in
    let t : nat_le a 255 ≡ true = grind (arith, nat_tests) in
    rw (first, second, s, t) refl

hex_passes : (a : ℕ) → a < 256 → list_all hex_digit (hex_text (a ∷ [])) ≡ true
hex_passes a h =
    let first = (is_digit (a / 16) (omega arith)).hex in
    let second = (is_digit (a % 16) (omega arith)).hex in
    rw (first, second) refl

joined : (m a : ℕ) (rest : List ℕ) → a < 256 → separated kind.Pair 58 (suc (suc m)) (hex_text (a ∷ []) ++ 58 ∷ rest) ≡ preceded (a ∷ []) (separated kind.Pair 58 (suc m) rest)
joined m a rest h =
    let at = position-behind hex_digit 58 refl (hex_text (a ∷ [])) rest (hex_passes a h) in
    separated_next kind.Pair 58 (hex_text (a ∷ []) ++ 58 ∷ rest) m 2 a at (pair a h)

pub ethernet-read : (a b c d e f : ℕ) → a < 256 → b < 256 → c < 256 → d < 256 → e < 256 → f < 256
    → ethernet (hex_text (a ∷ []) ++ codes ":" ++ hex_text (b ∷ []) ++ codes ":" ++ hex_text (c ∷ []) ++ codes ":" ++ hex_text (d ∷ []) ++ codes ":" ++ hex_text (e ∷ []) ++ codes ":" ++ hex_text (f ∷ []))
    ≡ Ok (a ∷ b ∷ c ∷ d ∷ e ∷ f ∷ [])
unfolding ethernet
ethernet-read a b c d e f ha hb hc hd he hf =
    let l6 = hex_text (f ∷ []) in
    let l5 = hex_text (e ∷ []) ++ 58 ∷ l6 in
    let l4 = hex_text (d ∷ []) ++ 58 ∷ l5 in
    let l3 = hex_text (c ∷ []) ++ 58 ∷ l4 in
    let l2 = hex_text (b ∷ []) ++ 58 ∷ l3 in
    let last : separated kind.Pair 58 1 l6 ≡ Some (f ∷ []) = separated_last kind.Pair 58 l6 f (pair f hf) in
    let all : separated kind.Pair 58 6 (hex_text (a ∷ []) ++ 58 ∷ l2) ≡ Some (a ∷ b ∷ c ∷ d ∷ e ∷ f ∷ []) =
    joined 4 a l2 ha
    ∙ ap (preceded (a ∷ [])) (joined 3 b l3 hb
    ∙ ap (preceded (b ∷ [])) (joined 2 c l4 hc
    ∙ ap (preceded (c ∷ [])) (joined 1 d l5 hd
    ∙ ap (preceded (d ∷ [])) (joined 0 e l6 he ∙ ap (preceded (e ∷ [])) last)))) in
    ap (λ o. ok_or o fault.BadAddress) all
