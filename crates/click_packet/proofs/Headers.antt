-- Lemmas about the fields of a header.
use Rattle.std.proofs.Common.{◌≡◌, ℕ, ◌+◌, ◌-◌, ◌*◌, ◌/◌, ◌%◌, ◌<◌, ◌≤◌, true, false, List, ◌∷◌, length, get_or, set, take, get_or-set_other, get_or-set_same, length-set, length-take, zero, suc, [], ◌≢◌, ◌⊎◌, ◌↔◌, ⊎_elim, Some, None, refl, sym, ◌∙◌, ap, arith, not, ◌==◌, nat_le, Contains, is_some}
use Rattle.std.specs.Bool.{Decides}
use Rattle.std.specs.List.{list_any}
use Rattle.std.specs.Str.{bytes_eq}
use Rattle.std.proofs.lemmas.Bool.Decides.{nat_tests, Decides-eqb, Decides-and, Decides-not, Decides-like, Decides-by_or}
use Rattle.std.proofs.lemmas.List.Elements.{Decides-contains}
use Rattle.std.specs.Cmp.Lexicographic.{bytes_decides}
use Rattle.click_packet.proofs.Sums.{total, sum_of_words-total, complement_sums, ones_sums, complement_from_sum}
use Rattle.click_packet.specs.Checksum.{sum_of_words, ones_sum}
use Rattle.click_packet.specs.Header.{header_len, stated_len, with_checksum_field, checksum_field, checksum, header_good, version, total_len, header, source, with_ttl, ttl, IsGoodHeader}

-- the sum changes by as much as the checksum field does
total-field : (xs : List ℕ) (w : ℕ) → 12 ≤ length xs → total (with_checksum_field xs w) + checksum_field xs ≡ total xs + w
total-field (a ∷ b ∷ c ∷ d ∷ e ∷ f ∷ g ∷ h ∷ i ∷ j ∷ k ∷ l ∷ rest) w long = omega arith
total-field xs w long = absurd (omega arith)

pub sum_of_words-field : (xs : List ℕ) (w : ℕ) → 12 ≤ length xs →
    sum_of_words (with_checksum_field xs w) + checksum_field xs ≡ sum_of_words xs + w
sum_of_words-field xs w long =
    omega (arith, total-field xs w long, sum_of_words-total xs, sum_of_words-total (with_checksum_field xs w))

pub header_len-some : (bytes : List ℕ) → 20 ≤ stated_len bytes → stated_len bytes ≤ length bytes → header_len bytes ≡ Some (stated_len bytes)
unfolding header_len
header_len-some bytes low high = grind (arith, nat_tests)

pub header_len-short : (bytes : List ℕ) → stated_len bytes < 20 → header_len bytes ≡ None
unfolding header_len
header_len-short bytes low = grind (arith, nat_tests)

pub header_len-past : (bytes : List ℕ) → length bytes < stated_len bytes → header_len bytes ≡ None
unfolding header_len
header_len-past bytes low = grind (arith, nat_tests)

-- a header whose fields pass the tests is valid, unless its source address is refused
pub header_good-fields : (bytes : List ℕ) (refused : List (List ℕ)) → header_len bytes ≡ Some (stated_len bytes) → version bytes ≡ 4 →
    stated_len bytes ≤ total_len bytes → total_len bytes ≤ length bytes → ones_sum (sum_of_words (header bytes)) ≡ 65535 →
    header_good bytes refused ≡ not (list_any (λ address. bytes_eq address (source bytes)) refused)
unfolding header_good
header_good-fields bytes refused e v t l s =
    let n1 : (version bytes == 4) ≡ true = (Decides-eqb (version bytes) 4).1 v in
    let n2 : nat_le (stated_len bytes) (total_len bytes) ≡ true = grind (arith, nat_tests) in
    let n3 : nat_le (total_len bytes) (length bytes) ≡ true = grind (arith, nat_tests) in
    let n4 : (ones_sum (sum_of_words (header bytes)) == 65535) ≡ true = (Decides-eqb (ones_sum (sum_of_words (header bytes))) 65535).1 s in
    simp (e, n1, n2, n3, n4)

-- an empty list refuses no address
pub nobody_refused : (bytes : List ℕ) (refused : List (List ℕ)) → refused ≡ [] → not (list_any (λ address. bytes_eq address (source bytes)) refused) ≡ true
nobody_refused bytes refused none = rw none refl

decides_le : (a b : ℕ) → Decides (nat_le a b) (a ≤ b)
decides_le a b = (λ e. grind (arith, nat_tests), λ h. grind (arith, nat_tests))

decides_header : (bytes : List ℕ) → Decides (is_some (header_len bytes)) ((20 ≤ stated_len bytes) × (stated_len bytes ≤ length bytes))
unfolding header_len
decides_header bytes = (λ e. grind (arith, nat_tests), λ h. grind (arith, nat_tests))

-- whether a list is among these lists
decides_contains : (xss : List (List ℕ)) (xs : List ℕ) → Decides (list_any (λ ys. bytes_eq ys xs) xss) (Contains xss xs)
decides_contains xss xs =
    Decides-contains xss xs _
    (Decides-by_or (λ ys. bytes_eq ys xs) (λ ys. ys ≡ xs) (list_any (λ ys. bytes_eq ys xs)) (λ ys. bytes_decides ys xs) refl (λ _ _. refl) xss)

-- the test decides whether the header is valid
pub header_good-decides : (bytes : List ℕ) (refused : List (List ℕ)) → Decides (header_good bytes refused) (IsGoodHeader bytes refused)
unfolding header_good
header_good-decides bytes refused =
    let a = decides_header bytes in
    let b = Decides-eqb (version bytes) 4 in
    let c = decides_le (stated_len bytes) (total_len bytes) in
    let d = decides_le (total_len bytes) (length bytes) in
    let e = Decides-eqb (ones_sum (sum_of_words (header bytes))) 65535 in
    let f = Decides-not _ (decides_contains refused (source bytes)) in
    Decides-like _
    (λ h. record { version = h.0.0.0.0.1; long = h.0.0.0.0.0.0; there = h.0.0.0.0.0.1; holds_header = h.0.0.0.1; holds_data = h.0.0.1; sum = h.0.1; welcome = h.1 })
    (λ g. ((((((g.long, g.there), g.version), g.holds_header), g.holds_data), g.sum), g.welcome))
    (Decides-and _ _ (Decides-and _ _ (Decides-and _ _ (Decides-and _ _ (Decides-and _ _ a b) c) d) e) f)

pub header_good-false : (bytes : List ℕ) (refused : List (List ℕ)) → (IsGoodHeader bytes refused → ⊥) → false ≡ header_good bytes refused
header_good-false bytes refused h =
    elim (header_good bytes refused) as (λ b. header_good bytes refused ≡ b → false ≡ b) [
      | true ↦ λ e. absurd (h ((header_good-decides bytes refused).0 e))
      | false ↦ λ _. refl
    ] refl

-- if there is no header length, the stated length is out of range
pub header_len-none : (bytes : List ℕ) → None ≡ header_len bytes → 20 ≤ stated_len bytes → stated_len bytes ≤ length bytes → ⊥
header_len-none bytes e low high = let f = header_len-some bytes low high in cc

-- writing a byte after the first leaves the length of the header unchanged
stated_len-set : (bytes : List ℕ) (k b : ℕ) → 0 < k → stated_len (set bytes k b) ≡ stated_len bytes
stated_len-set bytes k b h = ap (λ n. n % 16 * 4) (get_or-set_other bytes k 0 b 0 (omega arith))

pub with_ttl_is : (bytes : List ℕ) (ttl : ℕ) →
    with_ttl bytes ttl ≡ with_checksum_field (set bytes 8 ttl) (checksum (take (stated_len bytes) (set bytes 8 ttl)))
unfolding with_ttl
with_ttl_is bytes ttl =
    ap (λ n. with_checksum_field (set bytes 8 ttl) (checksum (take n (set bytes 8 ttl)))) (stated_len-set bytes 8 ttl (omega arith))

pub take-set_in : (n : ℕ) (xs : List ℕ) (i b : ℕ) → take n (set xs i b) ≡ set (take n xs) i b
take-set_in zero xs i b = refl
take-set_in (suc n) [] i b = refl
take-set_in (suc n) (x ∷ xs) zero b = refl
take-set_in (suc n) (x ∷ xs) (suc i) b = ap (λ ys. x ∷ ys) (take-set_in n xs i b)

-- with its checksum in the field, a header sums to ffff
sum_of_words-checksum : (xs : List ℕ) → 12 ≤ length xs → ones_sum (sum_of_words (with_checksum_field xs (checksum xs))) ≡ 65535
unfolding checksum
sum_of_words-checksum xs long =
    let bare = sum_of_words (with_checksum_field xs 0) in
    let word = 65535 - ones_sum bare in
    let e : sum_of_words (with_checksum_field xs word) ≡ bare + word =
    omega (arith, sum_of_words-field xs 0 long, sum_of_words-field xs word long) in
    ap ones_sum e ∙ complement_sums bare word refl

-- no other checksum field makes it sum to ffff, except that ffff may stand for 0
pub sums_by_checksum : (xs : List ℕ) → 12 ≤ length xs → checksum_field xs ≤ 65535 →
    (ones_sum (sum_of_words xs) ≡ 65535) ↔ ((checksum_field xs ≡ checksum xs) ⊎ ((checksum xs ≡ 0) × (checksum_field xs ≡ 65535)))
unfolding checksum
sums_by_checksum xs long short =
    let bare = sum_of_words (with_checksum_field xs 0) in
    let word = checksum_field xs in
    let e : sum_of_words xs ≡ bare + word = omega (arith, sum_of_words-field xs 0 long) in (
      λ h. complement_from_sum bare word short (sym (ap ones_sum e) ∙ h),
      λ h. ap ones_sum e ∙ ⊎_elim (λ f. complement_sums bare word f) (λ f. ones_sums bare word f.0 f.1) h,
    )

pub length-with_ttl : (bytes : List ℕ) (ttl : ℕ) → length (with_ttl bytes ttl) ≡ length bytes
unfolding with_ttl
length-with_ttl bytes ttl = simp length-set

-- three writes leave every other byte unchanged
get_or-writes : (bytes : List ℕ) (n a b k : ℕ) → k ≢ 8 → k ≢ 10 → k ≢ 11 → get_or (set (set (set bytes 8 n) 10 a) 11 b) k 0 ≡ get_or bytes k 0
get_or-writes bytes n a b k e f g =
    let aged = set bytes 8 n in
    get_or-set_other (set aged 10 a) 11 k b 0 g ∙ get_or-set_other aged 10 k a 0 f ∙ get_or-set_other bytes 8 k n 0 e

get_or-writes_same : (bytes : List ℕ) (n a b : ℕ) → 8 < length bytes → get_or (set (set (set bytes 8 n) 10 a) 11 b) 8 0 ≡ n
get_or-writes_same bytes n a b h =
    let aged = set bytes 8 n in
    get_or-set_other (set aged 10 a) 11 8 b 0 (omega arith) ∙ get_or-set_other aged 10 8 a 0 (omega arith) ∙ get_or-set_same bytes 8 n 0 h

pub get_or-with_ttl : (bytes : List ℕ) (n k : ℕ) → k ≢ 8 → k ≢ 10 → k ≢ 11 → get_or (with_ttl bytes n) k 0 ≡ get_or bytes k 0
unfolding with_ttl
get_or-with_ttl bytes n k e f g =
    let word = checksum (header (set bytes 8 n)) in
    get_or-writes bytes n (word / 256) (word % 256) k e f g

get_or-with_ttl_same : (bytes : List ℕ) (n : ℕ) → 8 < length bytes → get_or (with_ttl bytes n) 8 0 ≡ n
unfolding with_ttl
get_or-with_ttl_same bytes n h =
    let word = checksum (header (set bytes 8 n)) in
    get_or-writes_same bytes n (word / 256) (word % 256) h

stated_len-with_ttl : (bytes : List ℕ) (ttl : ℕ) → stated_len (with_ttl bytes ttl) ≡ stated_len bytes
stated_len-with_ttl bytes ttl = ap (λ n. n % 16 * 4) (get_or-with_ttl bytes ttl 0 (omega arith) (omega arith) (omega arith))

sum-with_ttl : (bytes : List ℕ) (ttl : ℕ) → 20 ≤ stated_len bytes → stated_len bytes ≤ length bytes →
    ones_sum (sum_of_words (header (with_ttl bytes ttl))) ≡ 65535
sum-with_ttl bytes ttl low high =
    let aged = set bytes 8 ttl in
    let len = stated_len bytes in
    let word = checksum (take len aged) in
    let e : header (with_ttl bytes ttl) ≡ take len (with_ttl bytes ttl) = ap (λ n. take n (with_ttl bytes ttl)) (stated_len-with_ttl bytes ttl) in
    let f : take len (with_ttl bytes ttl) ≡ take len (with_checksum_field aged word) = ap (take len) (with_ttl_is bytes ttl) in
    let g : take len (with_checksum_field aged word) ≡ with_checksum_field (take len aged) word =
    take-set_in len (set aged 10 (word / 256)) 11 (word % 256) ∙ ap (λ xs. set xs 11 (word % 256)) (take-set_in len aged 10 (word / 256)) in
    let long : 12 ≤ length (take len aged) = simp (length-take, length-set) (omega arith) in
    ap (λ xs. ones_sum (sum_of_words xs)) (e ∙ f ∙ g) ∙ sum_of_words-checksum (take len aged) long

pub with_ttl-good : (bytes : List ℕ) (refused : List (List ℕ)) (ttl : ℕ) → IsGoodHeader bytes refused → IsGoodHeader (with_ttl bytes ttl) refused
with_ttl-good bytes refused ttl g =
    let same = λ (k : ℕ) (a : k ≢ 8) (b : k ≢ 10) (c : k ≢ 11). get_or-with_ttl bytes ttl k a b c in
    let e0 = same 0 (omega arith) (omega arith) (omega arith) in
    let e2 = same 2 (omega arith) (omega arith) (omega arith) in
    let e3 = same 3 (omega arith) (omega arith) (omega arith) in
    let len = length-with_ttl bytes ttl in
    let e : source (with_ttl bytes ttl) ≡ source bytes = simp (
      same 12 (omega arith) (omega arith) (omega arith),
      same 13 (omega arith) (omega arith) (omega arith),
      same 14 (omega arith) (omega arith) (omega arith),
      same 15 (omega arith) (omega arith) (omega arith),
    ) in
    record {
      version = omega (arith, e0, g.version);
      long = omega (arith, e0, g.long);
      there = omega (arith, e0, len, g.there);
      holds_header = omega (arith, e0, e2, e3, g.holds_header);
      holds_data = omega (arith, e2, e3, len, g.holds_data);
      sum = sum-with_ttl bytes ttl g.long g.there;
      welcome = λ h. g.welcome (rw e at h);
    }

pub ttl-with_ttl : (bytes : List ℕ) (n : ℕ) → 20 ≤ stated_len bytes → stated_len bytes ≤ length bytes → ttl (with_ttl bytes n) ≡ Some n
ttl-with_ttl bytes n low high =
    let e = stated_len-with_ttl bytes n in
    let len = length-with_ttl bytes n in
    let here = header_len-some (with_ttl bytes n) (omega arith) (omega arith) in
    rw (here, get_or-with_ttl_same bytes n (omega arith)) refl

pub ruleset header_lens = (header_len-some, header_len-short, header_len-past)

-- the lengths of a good header
pub good-lens : (bytes : List ℕ) (refused : List (List ℕ)) → header_good bytes refused ≡ true →
    (20 ≤ stated_len bytes) × (stated_len bytes ≤ total_len bytes) × (total_len bytes ≤ length bytes)
good-lens bytes refused e = let g = (header_good-decides bytes refused).0 e in (g.long, g.holds_header, g.holds_data)

-- a good header has at least 20 bytes
pub good-not_short : (bytes : List ℕ) (refused : List (List ℕ)) → length bytes < 20 → header_good bytes refused ≡ false
unfolding header_good header_len
good-not_short bytes refused h = grind (arith, nat_tests)

pub ruleset good_lens = (good-lens, good-not_short)
