-- Reports of errors.
use Rattle.std.proofs.Common.{◌≡◌, ℕ, ◌+◌, ◌*◌, ◌/◌, ◌%◌, ◌≢◌, Bool, true, false, List, [], ◌∷◌, ◌++◌, length, get_or, take, drop, min, ◌≤◌, length-take, length-append, not, ◌==◌, ◌&&◌, refl, ◌∙◌, ap, arith, Contains}
use Rattle.std.specs.List.{list_any}
use Rattle.std.proofs.Math.Bool.{and-false, or-true}
use Rattle.std.proofs.lemmas.Bool.Decides.{Decides-eqb, Decides-and, Decides-by_or}
use Rattle.std.proofs.lemmas.List.Elements.{Decides-contains}
use Rattle.click_packet.specs.Checksum.{sum_of_words, ones_sum}
use Rattle.click_packet.specs.Header.{total_len, source, header_good}
use Rattle.click_gateway.specs.Addresses.{is_host}
use Rattle.click_gateway.specs.Datagrams.{destination}
use Rattle.click_gateway.specs.Icmp.{carried, message, is_first_piece, is_error, may_report, report_of}
use Rattle.click_gateway.proofs.Carries.{Carries, datagram-carries, icmp_fields}
use Rattle.click_gateway.proofs.Messages.{message-kind, message-len, message-sums, message-after}

-- the message of a report
abbrev pub report_message : ℕ → ℕ → List ℕ → List ℕ → List ℕ
report_message kind code further bytes = message kind code (further ++ take (min (total_len bytes) 548) bytes)

pub report-carries : (own further bytes : List ℕ) (kind code : ℕ) → length own ≡ 4 →
    Carries (icmp_fields (192 + get_or bytes 1 0 % 32) 0 0) (report_of own kind code further bytes) own (source bytes) (report_message kind code further bytes)
unfolding report_of
report-carries own further bytes kind code n =
    datagram-carries (icmp_fields (192 + get_or bytes 1 0 % 32) 0 0) own (source bytes) (report_message kind code further bytes) n refl

-- a number of the list is found there
any_of : (kinds : List ℕ) (kind : ℕ) → Contains kinds kind → list_any (λ k. k == kind) kinds ≡ true
any_of kinds kind h =
    (Decides-contains kinds kind _
    (Decides-by_or (λ k. k == kind) (λ k. k ≡ kind) (list_any (λ k. k == kind)) (λ k. Decides-eqb k kind) refl (λ _ _. refl) kinds)).1 h

-- a report has at most 576 bytes
pub report-short : (own further bytes : List ℕ) (kind code : ℕ) → length own ≡ 4 → length further ≡ 4 → length (report_of own kind code further bytes) ≤ 576
report-short own further bytes kind code n m =
    let count = min (total_len bytes) 548 in
    let quote = take count bytes in
    let a : length (message kind code (further ++ quote)) ≡ 4 + length (further ++ quote) = message-len kind code (further ++ quote) in
    let b : length (further ++ quote) ≡ length further + length quote = length-append further quote in
    let c : length quote ≤ 548 = omega (arith, length-take count bytes) in
    omega (arith, (report-carries own further bytes kind code n).len, a, b, c, m)

pub report-sums : (own further bytes : List ℕ) (kind code : ℕ) → length own ≡ 4 → ones_sum (sum_of_words (carried (report_of own kind code further bytes))) ≡ 65535
report-sums own further bytes kind code n =
    ap (λ xs. ones_sum (sum_of_words xs)) (report-carries own further bytes kind code n).carried
    ∙ message-sums kind code (further ++ take (min (total_len bytes) 548) bytes)

-- after the first eight bytes of its message a report has bytes of the datagram
pub report-quotes : (own further bytes : List ℕ) (kind code : ℕ) → length own ≡ 4 → length further ≡ 4 →
    drop 8 (carried (report_of own kind code further bytes)) ≡ take (min (total_len bytes) 548) bytes
report-quotes own further bytes kind code n m =
    let quote = take (min (total_len bytes) 548) bytes in
    let inside = (report-carries own further bytes kind code n).carried in
    ap (λ (xs : List ℕ). drop 8 xs) inside
    ∙ message-after kind code further quote m

pub report-is_error : (own further bytes : List ℕ) (kind code : ℕ) → length own ≡ 4 → Contains (3 ∷ 4 ∷ 5 ∷ 11 ∷ 12 ∷ []) kind →
    is_error (report_of own kind code further bytes) ≡ true
report-is_error own further bytes kind code n h =
    let c = report-carries own further bytes kind code n in
    let k : get_or (report_of own kind code further bytes) 20 0 ≡ kind = c.kind ∙ message-kind kind code (further ++ take (min (total_len bytes) 548) bytes) in
    rw (c.protocol, c.header, k, any_of (3 ∷ 4 ∷ 5 ∷ 11 ∷ 12 ∷ []) kind h) (or-true _)

pub error-not_reported : (bytes : List ℕ) → is_error bytes ≡ true → may_report bytes ≡ false
error-not_reported bytes e =
    let before = header_good bytes [] && is_first_piece bytes && is_host (source bytes) && is_host (destination bytes) in
    ap (λ b. before && not b) e ∙ and-false before

-- a datagram that is no first piece is a later fragment
first_piece-offset : (bytes : List ℕ) → is_first_piece bytes ≡ true → (get_or bytes 6 0 * 256 + get_or bytes 7 0) % 8192 ≡ 0
first_piece-offset bytes e =
    let h = (Decides-and (get_or bytes 6 0 % 32 == 0) (get_or bytes 7 0 == 0) (Decides-eqb (get_or bytes 6 0 % 32) 0) (Decides-eqb (get_or bytes 7 0) 0)).0 e in
    let multiple : get_or bytes 6 0 ≡ 32 * (get_or bytes 6 0 / 32) = omega (arith, h.0) in
    omega (arith, multiple, h.1)

later_piece : (bytes : List ℕ) (b : Bool) → is_first_piece bytes ≡ b → (get_or bytes 6 0 * 256 + get_or bytes 7 0) % 8192 ≢ 0 → is_first_piece bytes ≡ false
later_piece bytes true e h = absurd (h (first_piece-offset bytes e))
later_piece bytes false e h = e

pub fragment-not_reported : (bytes : List ℕ) → (get_or bytes 6 0 * 256 + get_or bytes 7 0) % 8192 ≢ 0 → may_report bytes ≡ false
fragment-not_reported bytes h =
    rw (later_piece bytes (is_first_piece bytes) refl h, and-false (header_good bytes [])) refl
