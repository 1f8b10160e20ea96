-- The seats of the additional work.
use Rattle.std.proofs.Common.{◌≡◌, ℕ, zero, suc, ◌+◌, List, [], ◌∷◌, ◌++◌, drop, length, map, refl, sym, ap, ◌∙◌, subst, append_assoc, append-nil, length-append, arith}
use Rattle.std.proofs.Math.Seq.{drop-append_seam}
use Rattle.std.specs.List.{All, AllZip}
use Rattle.std.proofs.lemmas.List.{map-append}
use Rattle.std.proofs.lemmas.List.Elements.{All-nil, All-cons, All-head, All-tail, All-push}
use Rattle.click_rings.specs.Feeds.{FeedName}
use Rattle.click_desk.specs.SeatStates.{DeskName, SeatState, new_seat, seats_below}
use Rattle.click_workers.specs.Beside.{seats_from}
use Rattle.click_workers.specs.Seats.{IsOf, SameSeat}
use Rattle.click_workers.specs.Work.{numbers_below}
use Rattle.click_workers.proofs.LinkFeeds.{same-map}
use Rattle.click_workers.proofs.NewSeats.{map-push}

-- Cutting a list at one index gives the same two parts.
cut-same : (xs us ys vs : List SeatState) → length xs ≡ length us → xs ++ ys ≡ us ++ vs → (xs ≡ us) × (ys ≡ vs)
cut-same [] [] ys vs many e = (refl, e)
cut-same [] (u ∷ us) ys vs many e = absurd (omega arith)
cut-same (x ∷ xs) [] ys vs many e = absurd (omega arith)
cut-same (x ∷ xs) (u ∷ us) ys vs many e =
    let head : x ≡ u = cc in
    let tail : xs ++ ys ≡ us ++ vs = cc in
    let k = cut-same xs us ys vs (omega arith) tail in
    (ap (λ z. z ∷ xs) head ∙ ap (λ l. u ∷ l) k.0, k.1)

seats-parts : (desk : DeskName) (feeds : List FeedName) (n m : ℕ) → seats_below desk feeds (n + m) ≡ seats_below desk feeds n ++ seats_from desk feeds n m
seats-parts desk feeds n zero = let same : n + 0 ≡ n = omega arith in ap (seats_below desk feeds) same ∙ sym (append-nil (seats_below desk feeds n))
seats-parts desk feeds n (suc m) =
    let next : n + suc m ≡ suc (n + m) = omega arith in
    ap (seats_below desk feeds) next ∙ ap (λ l. l ++ new_seat desk feeds (n + m) ∷ []) (seats-parts desk feeds n m)
    ∙ append_assoc (seats_below desk feeds n) (seats_from desk feeds n m) (new_seat desk feeds (n + m) ∷ [])

pub from-many : (desk : DeskName) (feeds : List FeedName) (n m : ℕ) → length (seats_from desk feeds n m) ≡ m
from-many desk feeds n zero = refl
from-many desk feeds n (suc m) = omega (arith, length-append (seats_from desk feeds n m) (new_seat desk feeds (n + m) ∷ []), from-many desk feeds n m)

-- The last m of n + m new seats, and the seats before them.
pub taken : (desk : DeskName) (feeds : List FeedName) (n m : ℕ) (seats front back : List SeatState) → seats ≡ seats_below desk feeds (n + m) → seats ≡ front ++ back → length back ≡ m
    → (front ≡ seats_below desk feeds n) × (back ≡ seats_from desk feeds n m)
taken desk feeds n m seats front back all cut many =
    let whole : front ++ back ≡ seats_below desk feeds n ++ seats_from desk feeds n m = sym cut ∙ all ∙ seats-parts desk feeds n m in
    let long : length front ≡ length (seats_below desk feeds n) =
    omega (arith, ap length whole, length-append front back, length-append (seats_below desk feeds n) (seats_from desk feeds n m), many, from-many desk feeds n m) in
    cut-same front (seats_below desk feeds n) back (seats_from desk feeds n m) long whole

-- New seats belong to their desk and have its feeds.
pub from-of : (desk : DeskName) (feeds : List FeedName) (n m : ℕ) → All (IsOf desk feeds) (seats_from desk feeds n m)
from-of desk feeds n zero = All-nil (IsOf desk feeds)
from-of desk feeds n (suc m) = All-push (IsOf desk feeds) (seats_from desk feeds n m) (new_seat desk feeds (n + m)) (from-of desk feeds n m) (refl, refl)

-- The first of some new seats has made no call.
pub no-calls : (desk : DeskName) (feeds : List FeedName) (n m : ℕ) (rest : List SeatState) (one : SeatState) → one ∷ rest ≡ seats_from desk feeds n m → one.calls ≡ []
no-calls desk feeds n m rest one is =
    All-head (λ (s : SeatState). s.calls ≡ []) one rest (subst (λ (l : List SeatState). All (λ (s : SeatState). s.calls ≡ []) l) (sym is) (each desk feeds n m))
  where
    each : (desk : DeskName) (feeds : List FeedName) (n m : ℕ) → All (λ (s : SeatState). s.calls ≡ []) (seats_from desk feeds n m)
    each desk feeds n zero = All-nil (λ (s : SeatState). s.calls ≡ [])
    each desk feeds n (suc m) = All-push (λ (s : SeatState). s.calls ≡ []) (seats_from desk feeds n m) (new_seat desk feeds (n + m)) (each desk feeds n m) refl

-- Seats that keep their number, desk and feeds still belong to the desk and have its feeds.
pub of-same : (desk : DeskName) (feeds : List FeedName) (olds news : List SeatState) → AllZip SameSeat olds news → All (IsOf desk feeds) olds → All (IsOf desk feeds) news
of-same desk feeds [] [] h all = All-nil (IsOf desk feeds)
of-same desk feeds [] (y ∷ ys) h all = absurd h
of-same desk feeds (x ∷ xs) [] h all = absurd h
of-same desk feeds (x ∷ xs) (y ∷ ys) h all =
    let k = All-head (IsOf desk feeds) x xs all in
    All-cons (IsOf desk feeds) y ys (h.0.0 ∙ k.0, h.0.2 ∙ k.1) (of-same desk feeds xs ys h.1 (All-tail (IsOf desk feeds) x xs all))

pub both-all : (P : SeatState → Type 0) (xs ys : List SeatState) → All P xs → All P ys → All P (xs ++ ys)
both-all P [] ys a b = b
both-all P (x ∷ xs) ys a b = All-cons P x (xs ++ ys) (All-head P x xs a) (both-all P xs ys (All-tail P x xs a) b)

pub each-part : (P : SeatState → Type 0) (xs ys : List SeatState) → All P (xs ++ ys) → All P xs × All P ys
each-part P [] ys h = (All-nil P, h)
each-part P (x ∷ xs) ys h =
    let k = each-part P xs ys (All-tail P x (xs ++ ys) h) in
    (All-cons P x xs (All-head P x (xs ++ ys) h) k.0, k.1)

-- The seats after the one at index n.
pub drop-behind : (n : ℕ) (seats served rest : List SeatState) (one : SeatState) → seats ≡ served ++ one ∷ rest → length served ≡ n → drop (n + 1) seats ≡ rest
drop-behind n seats served rest one parts many =
    let front : List SeatState = served ++ one ∷ [] in
    let long : n + 1 ≡ length front = omega (arith, many, length-append served (one ∷ [])) in
    ap (drop (n + 1)) (parts ∙ sym (append_assoc served (one ∷ []) rest)) ∙ ap (λ k. drop k (front ++ rest)) long ∙ drop-append_seam front rest

-- All seats, those of the additional work among them, belong to the desk and have its feeds.
pub all-of : (desk : DeskName) (feeds : List FeedName) (n m : ℕ) (served olds news : List SeatState) → All (IsOf desk feeds) served → olds ≡ seats_from desk feeds n m → AllZip SameSeat olds news
    → All (IsOf desk feeds) (served ++ news)
all-of desk feeds n m served olds news all is same =
    both-all (IsOf desk feeds) served news all (of-same desk feeds olds news same (subst (λ (l : List SeatState). All (IsOf desk feeds) l) (sym is) (from-of desk feeds n m)))

from-numbers : (desk : DeskName) (feeds : List FeedName) (n m : ℕ) → numbers_below n ++ map (λ (s : SeatState). s.number) (seats_from desk feeds n m) ≡ numbers_below (n + m)
from-numbers desk feeds n zero = let same : n ≡ n + 0 = omega arith in append-nil (numbers_below n) ∙ ap numbers_below same
from-numbers desk feeds n (suc m) =
    let next : suc (n + m) ≡ n + suc m = omega arith in
    ap (λ l. numbers_below n ++ l) (map-push (seats_from desk feeds n m) (new_seat desk feeds (n + m)))
    ∙ sym (append_assoc (numbers_below n) (map (λ (s : SeatState). s.number) (seats_from desk feeds n m)) ((n + m) ∷ []))
    ∙ ap (λ l. l ++ (n + m) ∷ []) (from-numbers desk feeds n m) ∙ ap numbers_below next

-- The numbers of all seats, those of the additional work among them, are the numbers below n + m.
pub all-numbers : (desk : DeskName) (feeds : List FeedName) (n m : ℕ) (served olds news : List SeatState) → map (λ (s : SeatState). s.number) served ≡ numbers_below n → olds ≡ seats_from desk feeds n m
    → AllZip SameSeat olds news → map (λ (s : SeatState). s.number) (served ++ news) ≡ numbers_below (n + m)
all-numbers desk feeds n m served olds news below is same =
    map-append (λ (s : SeatState). s.number) served news ∙ ap (λ l. l ++ map (λ (s : SeatState). s.number) news) below
    ∙ ap (λ l. numbers_below n ++ l) (same-map SameSeat (λ (s : SeatState). s.number) (λ (s : SeatState). s.number) (λ x y r. r.1) olds news same ∙ ap (map (λ (s : SeatState). s.number)) is)
    ∙ from-numbers desk feeds n m
