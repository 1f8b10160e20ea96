-- Lemmas about the feeds that are left, for settling a feed.
use Rattle.std.proofs.Common.{◌≡◌, ℕ, zero, suc, ◌<◌, Bool, true, false, ◌||◌, if◌then◌else◌, List, [], ◌∷◌, map, length, slice_index_or, slice_set, sym, refl, ap, ◌∙◌, true≢false, arith}
use Rattle.std.specs.List.{All, remove}
use Rattle.std.specs.Str.{bytes_eq}
use Rattle.click_rings.specs.Feeds.{ConsumerState, FeedName, name_of, has_feed, have_distinct_devices, IsPlace}
use Rattle.click_rings.proofs.Draws.{has_at, none_first, none_rest, first_apart, rest_apart, other_first, is_itself, same_device}
use Rattle.click_desk.specs.Polls.{without}

-- Removing the inlet of a device from the list gives `without`.
pub without_at : (device : List ℕ) (is : List ConsumerState) (k : ℕ) (y : ConsumerState) → IsPlace device is k → have_distinct_devices (map name_of is) ≡ true → remove (slice_set is k y) k ≡ without device is
without_at device [] k y at apart = let h = at.0 in absurd (omega arith)
without_at device (i ∷ is) zero y at apart =
    let same : bytes_eq i.device device ≡ true = at.1 i in
    rw same refl
without_at device (i ∷ is) (suc k) y at apart =
    let there : IsPlace device is k = (let h = at.0 in omega arith, at.1) in
    let other : bytes_eq i.device device ≡ false = other_first device i is (bytes_eq i.device device) refl (first_apart i is apart) (has_at device is k there) in
    rw other (ap (λ l. i ∷ l) (without_at device is k y there (rest_apart i is apart)))

all_tail : (P : ConsumerState → Type 0) (i : ConsumerState) (is : List ConsumerState) → All P (i ∷ is) → All P is
all_tail P i is all = λ k x below. all (suc k) x (omega arith)

all_cons : (P : ConsumerState → Type 0) (i : ConsumerState) (is : List ConsumerState) → P i → All P is → All P (i ∷ is)
all_cons P i is here all zero x below = here
all_cons P i is here all (suc k) x below = all k x (omega arith)

all_choice : (P : ConsumerState → Type 0) (i : ConsumerState) (is rest : List ConsumerState) (b : Bool) → P i → All P is → All P rest → All P (if b then is else (i ∷ rest))
all_choice P i is rest true here all kept = all
all_choice P i is rest false here all kept = all_cons P i rest here kept

-- What holds for all feeds holds for those that are left.
pub all_without : (P : ConsumerState → Type 0) (device : List ℕ) (is : List ConsumerState) → All P is → All P (without device is)
all_without P device [] all = all
all_without P device (i ∷ is) all =
    all_choice P i is (without device is) (bytes_eq i.device device) (all 0 i (omega arith)) (all_tail P i is all) (all_without P device is (all_tail P i is all))

none_choice : (d : List ℕ) (i : ConsumerState) (is rest : List ConsumerState) (b : Bool) → has_feed d (map name_of (i ∷ is)) ≡ false → has_feed d (map name_of rest) ≡ false → has_feed d (map name_of (if b then is else (i ∷ rest))) ≡ false
none_choice d i is rest true none kept = none_rest (bytes_eq i.device d) (has_feed d (map name_of is)) none
none_choice d i is rest false none kept =
    let first : bytes_eq i.device d ≡ false = none_first (bytes_eq i.device d) (has_feed d (map name_of is)) none in
    rw first kept

has_without : (d device : List ℕ) (is : List ConsumerState) → has_feed d (map name_of is) ≡ false → has_feed d (map name_of (without device is)) ≡ false
has_without d device [] none = none
has_without d device (i ∷ is) none =
    none_choice d i is (without device is) (bytes_eq i.device device) none (has_without d device is (none_rest (bytes_eq i.device d) (has_feed d (map name_of is)) none))

-- A lookup for a device skips the feed of another device.
or_other : (a b : Bool) → (a ≡ true → ⊥) → (a || b) ≡ true → b ≡ true
or_other true b never has = absurd (never refl)
or_other false b never has = has

or_either : (a b c : Bool) → (b ≡ true → c ≡ true) → (a || b) ≡ true → (a || c) ≡ true
or_either true b c kept has = refl
or_either false b c kept has = kept has

has_choice : (d device : List ℕ) (i : ConsumerState) (is rest : List ConsumerState) (b : Bool) → bytes_eq i.device device ≡ b → (d ≡ device → ⊥)
    → (has_feed d (map name_of is) ≡ true → has_feed d (map name_of rest) ≡ true) → has_feed d (map name_of (i ∷ is)) ≡ true → has_feed d (map name_of (if b then is else (i ∷ rest))) ≡ true
has_choice d device i is rest true here other kept has =
    or_other (bytes_eq i.device d) (has_feed d (map name_of is)) (λ same. other (sym (same_device i.device d same) ∙ same_device i.device device here)) has
has_choice d device i is rest false here other kept has = or_either (bytes_eq i.device d) (has_feed d (map name_of is)) (has_feed d (map name_of rest)) kept has

-- The feeds that are left include those of all other devices.
pub has_others : (d device : List ℕ) (is : List ConsumerState) → (d ≡ device → ⊥) → has_feed d (map name_of is) ≡ true → has_feed d (map name_of (without device is)) ≡ true
has_others d device [] other has = has
has_others d device (i ∷ is) other has = has_choice d device i is (without device is) (bytes_eq i.device device) refl other (has_others d device is other) has

apart_cons : (i : ConsumerState) (is : List ConsumerState) → has_feed i.device (map name_of is) ≡ false → have_distinct_devices (map name_of is) ≡ true → have_distinct_devices (map name_of (i ∷ is)) ≡ true
apart_cons i is none apart = rw none apart

apart_choice : (i : ConsumerState) (is rest : List ConsumerState) (b : Bool) → have_distinct_devices (map name_of is) ≡ true → have_distinct_devices (map name_of (i ∷ rest)) ≡ true → have_distinct_devices (map name_of (if b then is else (i ∷ rest))) ≡ true
apart_choice i is rest true apart kept = apart
apart_choice i is rest false apart kept = kept

-- The devices of the feeds that are left are distinct.
pub apart_without : (device : List ℕ) (is : List ConsumerState) → have_distinct_devices (map name_of is) ≡ true → have_distinct_devices (map name_of (without device is)) ≡ true
apart_without device [] apart = apart
apart_without device (i ∷ is) apart =
    let rest = rest_apart i is apart in
    apart_choice i is (without device is) (bytes_eq i.device device) rest
    (apart_cons i (without device is) (has_without i.device device is (first_apart i is apart)) (apart_without device is rest))

abbrev first_or : FeedName → List FeedName → FeedName
first_or n [] = n
first_or n (f ∷ fs) = f

abbrev after_first : List FeedName → List FeedName
after_first [] = []
after_first (f ∷ fs) = fs

away_at : (device : List ℕ) (is : List ConsumerState) (k : ℕ) (x : ConsumerState) → has_feed device (map name_of is) ≡ false → k < length is → (slice_index_or is k x).device ≡ device → ⊥
away_at device [] k x away below same = absurd (omega arith)
away_at device (i ∷ is) zero x away below same =
    let here : bytes_eq i.device device ≡ true = ap (λ d. bytes_eq d device) same ∙ is_itself device in
    true≢false (sym here ∙ none_first (bytes_eq i.device device) (has_feed device (map name_of is)) away)
away_at device (i ∷ is) (suc k) x away below same =
    away_at device is k x (none_rest (bytes_eq i.device device) (has_feed device (map name_of is)) away) (omega arith) same

-- If the devices of the inlets are distinct, the inlet of the first feed's device has the ring of
-- that feed.
pub own_ring : (n : FeedName) (others : List FeedName) (is : List ConsumerState) → map name_of is ≡ n ∷ others → have_distinct_devices (map name_of is) ≡ true
    → All (λ i. i.device ≡ n.device → i.ring ≡ n.ring) is
own_ring n others [] same apart k x below = absurd (omega arith)
own_ring n others (i ∷ is) same apart zero x below = λ here. ap (λ (f : FeedName). f.ring) (ap (first_or n) same)
own_ring n others (i ∷ is) same apart (suc k) x below = λ here.
    let first : i.device ≡ n.device = ap (λ (f : FeedName). f.device) (ap (first_or n) same) in
    let away : has_feed n.device (map name_of is) ≡ false = ap (λ d. has_feed d (map name_of is)) (sym first) ∙ first_apart i is apart in
    absurd (away_at n.device is k x away (omega arith) here)

-- Without the first feed, the other feeds are left.
pub others_left : (n : FeedName) (others : List FeedName) (is : List ConsumerState) → map name_of is ≡ n ∷ others → map name_of (without n.device is) ≡ others
others_left n others [] same = absurd (let e : 0 ≡ length (n ∷ others) = ap length same in omega arith)
others_left n others (i ∷ is) same =
    let here : bytes_eq i.device n.device ≡ true = ap (λ (f : FeedName). bytes_eq f.device n.device) (ap (first_or n) same) ∙ is_itself n.device in
    rw here (ap after_first same)
