-- Lemmas about seats and their entries, for the close.
use Rattle.std.proofs.Common.{◌≡◌, ◌⊎◌, inl, inr, ℕ, zero, suc, true, false, ◌==◌, cond, List, [], ◌∷◌, ◌++◌, length, ◌<◌, ◌≤◌, ◌+◌, slice_index_or, count_by, map, sym, refl, ap, ◌∙◌, arith}
use Rattle.std.proofs.lemmas.Bool.{cases_lt}
use Rattle.std.proofs.lemmas.Bool.Decides.{nat_tests}
use mathlib.Core.Option.{some, some-injective, some-ne-none}
use lib.ListN.{get_elem?}
use Rattle.std.specs.List.{All}
use Rattle.std.proofs.lemmas.List.Elements.{All-push}
use Rattle.std.proofs.lemmas.List.Sums.{sum_by_push, sum_by-cons}
use Rattle.click_desk.specs.declared.entry.Entry.{Entry}
use Rattle.click_desk.specs.History.{entries}
use Rattle.click_desk.proofs.Histories.{all_below}
use Rattle.click_rings.specs.Feeds.{FeedName}
use Rattle.click_desk.specs.SeatStates.{DeskName, SeatState, new_seat, seats_below}
use Rattle.click_desk.specs.Closing.{IsEachOnce}

pub index_of : (l : List SeatState) (i : ℕ) (x d : SeatState) → get_elem? l i ≡ some x → slice_index_or l i d ≡ x
index_of [] i x d e = absurd (some-ne-none x (sym e))
index_of (y ∷ l) zero x d e = some-injective y x e
index_of (y ∷ l) (suc i) x d e = index_of l i x d e

-- If each number below n is that of exactly one seat, and n is not 0, there is a seat.
pub some_seat : (n : ℕ) (seats : List SeatState) → 0 < n → IsEachOnce n seats → 0 < length seats
some_seat n [] above once = absurd (let e : 0 ≡ 1 = once 0 above in omega arith)
some_seat n (s ∷ seats) above once = omega arith

-- If each number below n is that of exactly one seat, and other numbers have no entries, each entry
-- is of exactly one seat.
pub each_seated : (n : ℕ) (seats : List SeatState) (es : List Entry) → IsEachOnce n seats → ((k : ℕ) → n ≤ k → entries es k ≡ []) → All (λ e. count_by (λ s. s.number == e.seat) seats ≡ 1) es
each_seated n seats es once none k d below = once (slice_index_or es k d).seat (all_below n es none k d below)

-- New seats belong to their desk.
pub all_belong : (desk : DeskName) (feeds : List FeedName) (n : ℕ) → All (λ s. s.desk ≡ desk) (seats_below desk feeds n)
all_belong desk feeds zero = λ k d below. absurd (omega arith)
all_belong desk feeds (suc n) = All-push (λ s. s.desk ≡ desk) (seats_below desk feeds n) (new_seat desk feeds n) (all_belong desk feeds n) refl

-- New seats have the feeds of their desk.
pub all_fed : (desk : DeskName) (feeds : List FeedName) (n : ℕ) → All (λ s. s.feeds ≡ feeds) (seats_below desk feeds n)
all_fed desk feeds zero = λ k d below. absurd (omega arith)
all_fed desk feeds (suc n) = All-push (λ s. s.feeds ≡ feeds) (seats_below desk feeds n) (new_seat desk feeds n) (all_fed desk feeds n) refl

-- The number of seats with a given number, after one more seat is appended.
count_more : (k : ℕ) (xs : List SeatState) (x : SeatState) → count_by (λ s. s.number == k) (xs ++ x ∷ []) ≡ count_by (λ s. s.number == k) xs + cond (x.number == k) 1 0
count_more k xs x = sum_by_push (λ (s : SeatState). cond (s.number == k) 1 0) xs x

count_above : (desk : DeskName) (feeds : List FeedName) (n k : ℕ) → n ≤ k → count_by (λ s. s.number == k) (seats_below desk feeds n) ≡ 0
count_above desk feeds zero k above = refl
count_above desk feeds (suc n) k above =
    let e = count_above desk feeds n k (omega arith) in
    let other : (n == k) ≡ false = grind (arith, nat_tests) in
    count_more k (seats_below desk feeds n) (new_seat desk feeds n) ∙ (ap (λ a. a + cond (n == k) 1 0) e ∙ ap (λ b. 0 + cond b 1 0) other)

count_here : (desk : DeskName) (feeds : List FeedName) (n k : ℕ) → ((k < n) ⊎ (n ≤ k)) → k < suc n → IsEachOnce n (seats_below desk feeds n) → count_by (λ s. s.number == k) (seats_below desk feeds (suc n)) ≡ 1
count_here desk feeds n k (inl less) below once =
    let other : (n == k) ≡ false = grind (arith, nat_tests) in
    count_more k (seats_below desk feeds n) (new_seat desk feeds n) ∙ (ap (λ a. a + cond (n == k) 1 0) (once k less) ∙ ap (λ b. 1 + cond b 1 0) other)
count_here desk feeds n k (inr above) below once =
    let same : (n == k) ≡ true = grind (arith, nat_tests) in
    count_more k (seats_below desk feeds n) (new_seat desk feeds n) ∙ (ap (λ a. a + cond (n == k) 1 0) (count_above desk feeds n k above) ∙ ap (λ b. 0 + cond b 1 0) same)

-- Each number below n is that of exactly one new seat.
pub new_once : (desk : DeskName) (feeds : List FeedName) (n : ℕ) → IsEachOnce n (seats_below desk feeds n)
new_once desk feeds zero = λ k below. absurd (omega arith)
new_once desk feeds (suc n) = λ k below. count_here desk feeds n k (cases_lt k n) below (new_once desk feeds n)

count_numbers : (k : ℕ) (xs : List SeatState) → count_by (λ s. s.number == k) xs ≡ count_by (λ m. m == k) (map (λ (s : SeatState). s.number) xs)
count_numbers k [] = refl
count_numbers k (x ∷ xs) =
    sum_by-cons (λ (s : SeatState). cond (s.number == k) 1 0) x xs
    ∙ (ap (λ m. cond (x.number == k) 1 0 + m) (count_numbers k xs) ∙ sym (sum_by-cons (λ (m : ℕ). cond (m == k) 1 0) x.number (map (λ (s : SeatState). s.number) xs)))

-- Whether each number is that of exactly one seat depends only on the numbers of the seats.
pub same_once : (n : ℕ) (xs ys : List SeatState) → map (λ (s : SeatState). s.number) xs ≡ map (λ (s : SeatState). s.number) ys → IsEachOnce n xs → IsEachOnce n ys
same_once n xs ys same once k below = count_numbers k ys ∙ (ap (λ l. count_by (λ m. m == k) l) (sym same) ∙ (sym (count_numbers k xs) ∙ once k below))
