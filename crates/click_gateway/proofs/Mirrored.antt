-- Frames and datagrams whose addresses are exchanged, and headers with the right checksum.
use Rattle.std.proofs.Common.{◌≡◌, ℕ, ◌+◌, ◌/◌, ◌%◌, ◌*◌, ◌≤◌, Bool, true, false, List, ◌∷◌, length, take, get_or, set, nat_le, ◌&&◌, refl, ap, ◌∙◌, arith, length-take, get_or-set_other}
use Rattle.std.proofs.lemmas.Bool.{leb-true}
use Rattle.click_packet.specs.Checksum.{sum_of_words, ones_sum}
use Rattle.click_packet.specs.Header.{stated_len, header, with_checksum_field, checksum}
use Rattle.click_packet.proofs.Headers.{take-set_in}
use Rattle.click_gateway.specs.Mirrors.{is_frame, mirrored_frame, has_ports, with_checksum}
use Rattle.click_gateway.proofs.Carries.{checksum-sums}

frame-turned : (frame : List ℕ) → 14 ≤ length frame → mirrored_frame (mirrored_frame frame) ≡ frame
unfolding mirrored_frame
frame-turned (a ∷ b ∷ c ∷ d ∷ e ∷ f ∷ g ∷ h ∷ i ∷ j ∷ k ∷ l ∷ rest) long = refl
frame-turned frame long = absurd (omega arith)

pub frame-twice : (frame : List ℕ) → is_frame frame ≡ true → mirrored_frame (mirrored_frame frame) ≡ frame
frame-twice frame is = frame-turned frame (leb-true 14 (length frame) is)

last-test : (a b : Bool) → (a && b) ≡ true → b ≡ true
last-test true b h = h
last-test false b h = absurd cc

-- the ports are there
pub ports-there : (bytes : List ℕ) → has_ports bytes ≡ true → stated_len bytes + 4 ≤ length bytes
ports-there bytes h = leb-true (stated_len bytes + 4) (length bytes) (last-test _ (nat_le (stated_len bytes + 4) (length bytes)) h)

-- the header of a datagram with the right checksum
checksum-header : (bytes : List ℕ) → header (with_checksum bytes) ≡ with_checksum_field (header bytes) (checksum (header bytes))
unfolding with_checksum
checksum-header bytes =
    let n = stated_len bytes in
    let w = checksum (header bytes) in
    let first : get_or (set (set bytes 10 (w / 256)) 11 (w % 256)) 0 0 ≡ get_or bytes 0 0 =
    get_or-set_other (set bytes 10 (w / 256)) 11 0 (w % 256) 0 (omega arith) ∙ get_or-set_other bytes 10 0 (w / 256) 0 (omega arith) in
    ap (λ (k : ℕ). take (k % 16 * 4) (set (set bytes 10 (w / 256)) 11 (w % 256))) first
    ∙ take-set_in n (set bytes 10 (w / 256)) 11 (w % 256)
    ∙ ap (λ (xs : List ℕ). set xs 11 (w % 256)) (take-set_in n bytes 10 (w / 256))

pub checksum-good : (bytes : List ℕ) → 20 ≤ stated_len bytes → stated_len bytes ≤ length bytes →
    ones_sum (sum_of_words (header (with_checksum bytes))) ≡ 65535
checksum-good bytes low high =
    ap (λ (xs : List ℕ). ones_sum (sum_of_words xs)) (checksum-header bytes)
    ∙ checksum-sums (header bytes) (omega (arith, length-take (stated_len bytes) bytes, low, high))
