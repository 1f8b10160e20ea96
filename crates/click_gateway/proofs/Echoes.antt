-- Replies to echo requests.
use Rattle.std.proofs.Common.{◌≡◌, ℕ, ◌+◌, ◌-◌, ◌==◌, ◌&&◌, ◌≤◌, nat_le, Bool, true, false, List, [], length, get_or, drop, refl, subst, arith, length-drop, length-take-le}
use Rattle.std.proofs.lemmas.Bool.{leb-true}
use Rattle.std.proofs.lemmas.Bool.Decides.{Decides-eqb}
use Rattle.click_packet.specs.Checksum.{sum_of_words, ones_sum}
use Rattle.click_packet.specs.Header.{stated_len, total_len, source, header_good}
use Rattle.click_packet.proofs.Headers.{good-lens}
use Rattle.click_gateway.specs.Addresses.{is_host}
use Rattle.click_gateway.specs.Datagrams.{destination}
use Rattle.click_gateway.specs.Icmp.{carried, message, is_in_one_piece, is_echo_request, echo_reply}
use Rattle.click_gateway.proofs.Carries.{Carries, datagram-carries, icmp_fields}
use Rattle.click_gateway.proofs.Messages.{message-len}

pub echo_reply-carries : (bytes : List ℕ) → Carries (icmp_fields (get_or bytes 1 0) (get_or bytes 4 0) (get_or bytes 5 0)) (echo_reply bytes) (destination bytes) (source bytes) (message 0 0 (drop 4 (carried bytes)))
unfolding echo_reply
echo_reply-carries bytes =
    datagram-carries (icmp_fields (get_or bytes 1 0) (get_or bytes 4 0) (get_or bytes 5 0)) (destination bytes) (source bytes) (message 0 0 (drop 4 (carried bytes))) refl refl

and-left : (a b : Bool) → (a && b) ≡ true → a ≡ true
and-left true b h = refl
and-left false b h = h

and-right : (a b : Bool) → (a && b) ≡ true → b ≡ true
and-right true b h = h
and-right false b h = absurd cc

-- the first, the second and the seventh test of an echo request
request-tests : (a b c d e f g h i j : Bool) → (a && b && c && d && e && f && g && h && i && j) ≡ true → (a ≡ true) × (b ≡ true) × (g ≡ true)
request-tests a b c d e f g h i j all =
    let seven = and-left (a && b && c && d && e && f && g) h (and-left (a && b && c && d && e && f && g && h) i (and-left (a && b && c && d && e && f && g && h && i) j all)) in
    let two = and-left (a && b) c (and-left (a && b && c) d (and-left (a && b && c && d) e (and-left (a && b && c && d && e) f (and-left (a && b && c && d && e && f) g seven)))) in
    (and-left a b two, and-right a b two, and-right (a && b && c && d && e && f) g seven)

request-parts : (bytes : List ℕ) → is_echo_request bytes ≡ true →
    (header_good bytes [] ≡ true) × ((stated_len bytes == 20) ≡ true) × (nat_le (stated_len bytes + 8) (total_len bytes) ≡ true)
request-parts bytes asks =
    request-tests (header_good bytes []) (stated_len bytes == 20) (get_or bytes 9 0 == 1) (is_in_one_piece bytes) (is_host (source bytes)) (is_host (destination bytes))
    (nat_le (stated_len bytes + 8) (total_len bytes)) (get_or bytes (stated_len bytes) 0 == 8) (get_or bytes (stated_len bytes + 1) 0 == 0)
    (ones_sum (sum_of_words (carried bytes)) == 65535) asks

-- the lengths of an echo request
request-lens : (bytes : List ℕ) → is_echo_request bytes ≡ true → (stated_len bytes ≡ 20) × (28 ≤ total_len bytes) × (total_len bytes ≤ length bytes)
request-lens bytes asks =
    let p = request-parts bytes asks in
    let s : stated_len bytes ≡ 20 = (Decides-eqb (stated_len bytes) 20).0 p.1 in
    (s, leb-true 28 (total_len bytes) (subst (λ (n : ℕ). nat_le (n + 8) (total_len bytes) ≡ true) s p.2), (good-lens bytes [] p.0).2)

-- the reply is as long as the datagram of the request
pub echo_reply-len : (bytes : List ℕ) → is_echo_request bytes ≡ true → length (echo_reply bytes) ≡ total_len bytes
echo_reply-len bytes asks =
    let n = request-lens bytes asks in
    let inside = drop (stated_len bytes) bytes in
    let a : length inside ≡ length bytes - stated_len bytes = length-drop (stated_len bytes) bytes in
    let b : length (carried bytes) ≡ total_len bytes - stated_len bytes =
    length-take-le (total_len bytes - stated_len bytes) inside (omega (arith, a, n)) in
    let c : length (drop 4 (carried bytes)) ≡ length (carried bytes) - 4 = length-drop 4 (carried bytes) in
    omega (arith, (echo_reply-carries bytes).len, message-len 0 0 (drop 4 (carried bytes)), a, b, c, n)
