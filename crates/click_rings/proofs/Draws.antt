-- Lemmas about the inlets of several devices.
use Rattle.std.proofs.Common.{◌≡◌, ℕ, zero, suc, ◌<◌, ◌≤◌, ◌+◌, Bool, true, false, ◌||◌, ◌&&◌, if◌then◌else◌, List, [], ◌∷◌, ◌++◌, map, length, slice_index_or, slice_set, Decides, sym, refl, ap, ◌∙◌, subst, true≢false, append-nil, arith}
use Rattle.std.proofs.Math.Bool.{not}
use Rattle.std.proofs.lemmas.Bool.{not-true}
use Rattle.std.proofs.lemmas.Slice.Eq.{bytes_eq-Decides}
use Rattle.std.specs.Str.{bytes_eq}
use Rattle.std.specs.List.{All}
use Rattle.std.proofs.lemmas.List.Elements.{All-nil, All-cons}
use Rattle.click_packet.specs.Packet.{Packet}
use Rattle.click_rings.specs.Feeds.{ConsumerState, FeedName, name_of, has_feed, have_distinct_devices, drew, IsPlace}

pub none_first : (a b : Bool) → (a || b) ≡ false → a ≡ false
none_first true b e = e
none_first false b e = refl

pub none_rest : (a b : Bool) → (a || b) ≡ false → b ≡ false
none_rest true b e = absurd (true≢false e)
none_rest false b e = e

both_first : (a b : Bool) → (a && b) ≡ true → a ≡ true
both_first true b e = refl
both_first false b e = e

both_rest : (a b : Bool) → (a && b) ≡ true → b ≡ true
both_rest true b e = e
both_rest false b e = absurd (true≢false (sym e))

or_first : (a b : Bool) → a ≡ true → (a || b) ≡ true
or_first true b e = refl
or_first false b e = absurd (true≢false (sym e))

or_rest : (a b : Bool) → b ≡ true → (a || b) ≡ true
or_rest true b e = refl
or_rest false b e = e

-- the two names are of the same device
pub same_device : (a b : List ℕ) → bytes_eq a b ≡ true → a ≡ b
same_device a b e = (bytes_eq-Decides a b).0 e

pub is_itself : (a : List ℕ) → bytes_eq a a ≡ true
is_itself a = (bytes_eq-Decides a a).1 refl

-- inlets of other devices are unchanged
pub drew_away : (device : List ℕ) (got : List Packet) (is : List ConsumerState) → has_feed device (map name_of is) ≡ false → drew device got is ≡ is
drew_away device got [] away = refl
drew_away device got (i ∷ is) away =
    let first : bytes_eq i.device device ≡ false = none_first (bytes_eq i.device device) (has_feed device (map name_of is)) away in
    let rest = drew_away device got is (none_rest (bytes_eq i.device device) (has_feed device (map name_of is)) away) in
    rw first (ap (λ l. i ∷ l) rest)

drew_one : (got : List Packet) (i : ConsumerState) (b : Bool) → name_of (if b then record i { drawn = i.drawn ++ got } else i) ≡ name_of i
drew_one got i true = refl
drew_one got i false = refl

-- a draw changes no name
pub drew_feeds : (device : List ℕ) (got : List Packet) (is : List ConsumerState) → map name_of (drew device got is) ≡ map name_of is
drew_feeds device got [] = refl
drew_feeds device got (i ∷ is) = (λ k. drew_one got i (bytes_eq i.device device) k ∷ drew_feeds device got is k)

-- if an inlet is at an index, the device has a feed
pub has_at : (device : List ℕ) (is : List ConsumerState) (k : ℕ) → IsPlace device is k → has_feed device (map name_of is) ≡ true
has_at device [] k at = let h = at.0 in absurd (omega arith)
has_at device (i ∷ is) zero at = or_first (bytes_eq i.device device) (has_feed device (map name_of is)) (at.1 i)
has_at device (i ∷ is) (suc k) at = or_rest (bytes_eq i.device device) (has_feed device (map name_of is)) (has_at device is k (let h = at.0 in omega arith, at.1))

-- each of these feeds is one of them
pub each_has : (fs : List FeedName) → All (λ (f : FeedName). has_feed f.device fs ≡ true) fs
each_has [] = All-nil (λ (f : FeedName). has_feed f.device [] ≡ true)
each_has (f ∷ fs) =
    All-cons (λ (n : FeedName). has_feed n.device (f ∷ fs) ≡ true) f fs (or_first (bytes_eq f.device f.device) (has_feed f.device fs) (is_itself f.device))
    (λ k n below. or_rest (bytes_eq f.device (slice_index_or fs k n).device) (has_feed (slice_index_or fs k n).device fs) (each_has fs k n below))

-- if the devices are distinct, no other feed is for the first one's device
pub head_apart : (f : FeedName) (fs : List FeedName) → have_distinct_devices (f ∷ fs) ≡ true → has_feed f.device fs ≡ false
head_apart f fs e = not-true (has_feed f.device fs) (both_first (not (has_feed f.device fs)) (have_distinct_devices fs) e)

pub tail_apart : (f : FeedName) (fs : List FeedName) → have_distinct_devices (f ∷ fs) ≡ true → have_distinct_devices fs ≡ true
tail_apart f fs e = both_rest (not (has_feed f.device fs)) (have_distinct_devices fs) e

-- if the devices are distinct, no other inlet is for the first one's device
pub first_apart : (i : ConsumerState) (is : List ConsumerState) → have_distinct_devices (map name_of (i ∷ is)) ≡ true → has_feed i.device (map name_of is) ≡ false
first_apart i is e = head_apart (name_of i) (map name_of is) e

pub rest_apart : (i : ConsumerState) (is : List ConsumerState) → have_distinct_devices (map name_of (i ∷ is)) ≡ true → have_distinct_devices (map name_of is) ≡ true
rest_apart i is e = tail_apart (name_of i) (map name_of is) e

-- if one of the others is for the device, the first one is not
pub other_first : (device : List ℕ) (i : ConsumerState) (is : List ConsumerState) (b : Bool) → bytes_eq i.device device ≡ b → has_feed i.device (map name_of is) ≡ false → has_feed device (map name_of is) ≡ true → b ≡ false
other_first device i is true same away there = absurd (true≢false (sym there ∙ (ap (λ d. has_feed d (map name_of is)) (sym (same_device i.device device same)) ∙ away)))
other_first device i is false same away there = refl

-- packets are drawn only from the inlet of the device
pub drew_at : (device : List ℕ) (got : List Packet) (is : List ConsumerState) (k : ℕ) (x : ConsumerState) → IsPlace device is k → have_distinct_devices (map name_of is) ≡ true → x ≡ slice_index_or is k x
    → slice_set is k (record x { drawn = x.drawn ++ got }) ≡ drew device got is
drew_at device got [] k x at apart here = let h = at.0 in absurd (omega arith)
drew_at device got (i ∷ is) zero x at apart here =
    let same : bytes_eq i.device device ≡ true = at.1 i in
    let away : has_feed device (map name_of is) ≡ false = ap (λ d. has_feed d (map name_of is)) (sym (same_device i.device device same)) ∙ first_apart i is apart in
    let others : is ≡ drew device got is = sym (drew_away device got is away) in
    rw same (λ j. record (here j) { drawn = (here j).drawn ++ got } ∷ others j)
drew_at device got (i ∷ is) (suc k) x at apart here =
    let there : IsPlace device is k = (let h = at.0 in omega arith, at.1) in
    let other : bytes_eq i.device device ≡ false = other_first device i is (bytes_eq i.device device) refl (first_apart i is apart) (has_at device is k there) in
    rw other (ap (λ l. i ∷ l) (drew_at device got is k x there (rest_apart i is apart) here))
