-- Datagrams with a header.
use Rattle.std.proofs.Common.{◌≡◌, ℕ, Bool, true, false, List, length, get_or, Some, None, if◌then◌else◌, nat_le, ◌&&◌, refl, ap, inl, inr}
use Rattle.std.proofs.lemmas.Bool.{cases_Bool}
use Rattle.std.proofs.lemmas.List.{set-get_or}
use Rattle.click_packet.specs.Header.{stated_len, header_len, header, ttl, with_ttl, with_checksum_field, checksum}
use Rattle.click_gateway.specs.Mirrors.{with_checksum}

some_of : (b : Bool) (n m : ℕ) → Some n ≡ (if b then Some m else None) → n ≡ m
some_of true n m e = cc
some_of false n m e = cc

-- the length of a header is the stated one
pub header_len-is : (bytes : List ℕ) (n : ℕ) → Some n ≡ header_len bytes → n ≡ stated_len bytes
unfolding header_len
header_len-is bytes n e = some_of (nat_le 20 (stated_len bytes) && nat_le (stated_len bytes) (length bytes)) n (stated_len bytes) e

-- if there is a time to live, there is a header
pub ttl-is : (bytes : List ℕ) (t : ℕ) → Some t ≡ ttl bytes → (t ≡ get_or bytes 8 0) × (header_len bytes ≡ Some (stated_len bytes))
unfolding header_len
ttl-is bytes t e =
    elim (cases_Bool (nat_le 20 (stated_len bytes) && nat_le (stated_len bytes) (length bytes))) [
      | inl t1 ↦ let f : Some t ≡ Some (get_or bytes 8 0) = rw t1 at e in (let x : t ≡ get_or bytes 8 0 = cc in x, rw t1 refl)
      | inr t1 ↦ absurd (let f : Some t ≡ None = rw t1 at e in cc f)
    ]

-- with the time to live that it has, only the checksum changes
pub with_ttl-same : (bytes : List ℕ) → with_ttl bytes (get_or bytes 8 0) ≡ with_checksum bytes
unfolding with_ttl with_checksum
with_ttl-same bytes = ap (λ xs. with_checksum_field xs (checksum (header xs))) (set-get_or bytes 8 0)
