-- A datagram that is mirrored twice.
use Rattle.std.proofs.Common.{◌≡◌, ℕ, zero, suc, ◌+◌, ◌-◌, ◌*◌, ◌%◌, ◌<◌, ◌≤◌, true, false, List, [], ◌∷◌, ◌++◌, length, get_or, refl, sym, subst, ap, ◌∙◌, arith, inl, inr}
use Rattle.std.proofs.lemmas.Bool.{cases_Bool}
use Rattle.click_packet.specs.Header.{stated_len}
use Rattle.click_gateway.specs.Mirrors.{mirrored_addresses, mirrored_ports, has_ports, mirrored}
use Rattle.click_gateway.proofs.Mirrored.{ports-there}

-- what the addresses do not change
record SameFields (xs ys : List ℕ) : Type 0 where
  at0 : get_or xs 0 0 ≡ get_or ys 0 0
  at6 : get_or xs 6 0 ≡ get_or ys 6 0
  at7 : get_or xs 7 0 ≡ get_or ys 7 0
  at9 : get_or xs 9 0 ≡ get_or ys 9 0
  len : length xs ≡ length ys

has_ports-same : (xs ys : List ℕ) → SameFields xs ys → has_ports xs ≡ has_ports ys
has_ports-same xs ys s = rw (s.at9, s.at6, s.at7, s.at0, s.len) refl

stated_len-same : (xs ys : List ℕ) → SameFields xs ys → stated_len xs ≡ stated_len ys
stated_len-same xs ys s = ap (λ (n : ℕ). n % 16 * 4) s.at0

addresses-same : (xs : List ℕ) → 20 ≤ length xs → SameFields (mirrored_addresses xs) xs
unfolding mirrored_addresses
addresses-same (a ∷ b ∷ c ∷ d ∷ e ∷ f ∷ g ∷ h ∷ i ∷ j ∷ k ∷ l ∷ m ∷ n ∷ o ∷ p ∷ q ∷ r ∷ s ∷ t ∷ rest) long =
    record { at0 = refl; at6 = refl; at7 = refl; at9 = refl; len = refl }
addresses-same xs long = absurd (omega arith)

addresses-twice : (xs : List ℕ) → 20 ≤ length xs → mirrored_addresses (mirrored_addresses xs) ≡ xs
unfolding mirrored_addresses
addresses-twice (a ∷ b ∷ c ∷ d ∷ e ∷ f ∷ g ∷ h ∷ i ∷ j ∷ k ∷ l ∷ m ∷ n ∷ o ∷ p ∷ q ∷ r ∷ s ∷ t ∷ rest) long = refl
addresses-twice xs long = absurd (omega arith)

-- the ports behind one more byte
ports-cons : (n x : ℕ) (xs : List ℕ) → mirrored_ports (suc n) (x ∷ xs) ≡ x ∷ mirrored_ports n xs
unfolding mirrored_ports
ports-cons n x xs =
    let e1 : suc n + 1 ≡ suc (n + 1) = omega arith in
    let e2 : suc n + 2 ≡ suc (n + 2) = omega arith in
    let e3 : suc n + 3 ≡ suc (n + 3) = omega arith in
    let e4 : suc n + 4 ≡ suc (n + 4) = omega arith in
    rw (e1, e2, e3, e4) refl

ports-front : (front rest : List ℕ) (n : ℕ) → mirrored_ports (length front + n) (front ++ rest) ≡ front ++ mirrored_ports n rest
ports-front [] rest n = let e : 0 + n ≡ n = omega arith in rw e refl
ports-front (x ∷ front) rest n =
    let e : suc (length front) + n ≡ suc (length front + n) = omega arith in
    rw e (ports-cons (length front + n) x (front ++ rest) ∙ ap (λ (l : List ℕ). x ∷ l) (ports-front front rest n))

ports-twice : (n : ℕ) (xs : List ℕ) → n + 4 ≤ length xs → mirrored_ports n (mirrored_ports n xs) ≡ xs
unfolding mirrored_ports
ports-twice zero (a ∷ b ∷ c ∷ d ∷ rest) long = refl
ports-twice zero xs long = absurd (omega arith)
ports-twice (suc n) [] long = absurd (omega arith)
ports-twice (suc n) (x ∷ xs) long =
    ap (mirrored_ports (suc n)) (ports-cons n x xs) ∙ ports-cons n x (mirrored_ports n xs) ∙ ap (λ (l : List ℕ). x ∷ l) (ports-twice n xs (omega arith))

ports-len : (n : ℕ) (xs : List ℕ) → n + 4 ≤ length xs → length (mirrored_ports n xs) ≡ length xs
unfolding mirrored_ports
ports-len zero (a ∷ b ∷ c ∷ d ∷ rest) long = refl
ports-len zero xs long = absurd (omega arith)
ports-len (suc n) [] long = absurd (omega arith)
ports-len (suc n) (x ∷ xs) long = ap length (ports-cons n x xs) ∙ ap (λ (k : ℕ). suc k) (ports-len n xs (omega arith))

ports-before : (n k : ℕ) (xs : List ℕ) → k < n → n + 4 ≤ length xs → get_or (mirrored_ports n xs) k 0 ≡ get_or xs k 0
ports-before zero k xs below long = absurd (omega arith)
ports-before (suc n) k [] below long = absurd (omega arith)
ports-before (suc n) zero (x ∷ xs) below long = ap (λ (l : List ℕ). get_or l 0 0) (ports-cons n x xs)
ports-before (suc n) (suc k) (x ∷ xs) below long =
    ap (λ (l : List ℕ). get_or l (suc k) 0) (ports-cons n x xs) ∙ ports-before n k xs (omega arith) (omega arith)

ports-same : (n : ℕ) (xs : List ℕ) → 20 ≤ n → n + 4 ≤ length xs → SameFields (mirrored_ports n xs) xs
ports-same n xs low long =
    record {
      at0 = ports-before n 0 xs (omega arith) long;
      at6 = ports-before n 6 xs (omega arith) long;
      at7 = ports-before n 7 xs (omega arith) long;
      at9 = ports-before n 9 xs (omega arith) long;
      len = ports-len n xs long;
    }

-- the addresses are before the ports
apart_by : (m : ℕ) (xs : List ℕ) → 20 ≤ length xs → mirrored_addresses (mirrored_ports (20 + m) xs) ≡ mirrored_ports (20 + m) (mirrored_addresses xs)
unfolding mirrored_addresses
apart_by z (a ∷ b ∷ c ∷ d ∷ e ∷ f ∷ g ∷ h ∷ i ∷ j ∷ k ∷ l ∷ m ∷ n ∷ o ∷ p ∷ q ∷ r ∷ s ∷ t ∷ rest) long =
    ap mirrored_addresses (ports-front (a ∷ b ∷ c ∷ d ∷ e ∷ f ∷ g ∷ h ∷ i ∷ j ∷ k ∷ l ∷ m ∷ n ∷ o ∷ p ∷ q ∷ r ∷ s ∷ t ∷ []) rest z)
    ∙ sym (ports-front (a ∷ b ∷ c ∷ d ∷ e ∷ f ∷ g ∷ h ∷ i ∷ j ∷ k ∷ l ∷ q ∷ r ∷ s ∷ t ∷ m ∷ n ∷ o ∷ p ∷ []) rest z)
apart_by z xs long = absurd (omega arith)

apart : (n : ℕ) (xs : List ℕ) → 20 ≤ n → n ≤ length xs → mirrored_addresses (mirrored_ports n xs) ≡ mirrored_ports n (mirrored_addresses xs)
apart n xs low long =
    let e : 20 + (n - 20) ≡ n = omega arith in
    subst (λ (k : ℕ). mirrored_addresses (mirrored_ports k xs) ≡ mirrored_ports k (mirrored_addresses xs)) e (apart_by (n - 20) xs (omega arith))

pub datagram-twice : (bytes : List ℕ) → 20 ≤ stated_len bytes → stated_len bytes ≤ length bytes → mirrored (mirrored bytes) ≡ bytes
datagram-twice bytes low high =
    let n = stated_len bytes in
    let turned = mirrored_addresses bytes in
    let first = addresses-same bytes (omega (arith, low, high)) in
    elim (cases_Bool (has_ports bytes)) [
      | inl t ↦
          let long : n + 4 ≤ length turned = omega (arith, ports-there bytes t, first.len) in
          let both = mirrored_ports n turned in
          let second = ports-same n turned low long in
          let ports : has_ports both ≡ true = has_ports-same both turned second ∙ has_ports-same turned bytes first ∙ t in
          let len : stated_len both ≡ n = stated_len-same both turned second ∙ stated_len-same turned bytes first in
          rw (t, ports, len, apart n turned low (omega (arith, long)), addresses-twice bytes (omega (arith, low, high))) (ports-twice n bytes (ports-there bytes t))
      | inr t ↦
          let none : has_ports turned ≡ false = has_ports-same turned bytes first ∙ t in
          rw (t, none) (addresses-twice bytes (omega (arith, low, high)))
    ]
