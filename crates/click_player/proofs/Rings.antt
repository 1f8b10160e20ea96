-- Lists of feeds, and the rings of feeds of the same device.
use Rattle.std.proofs.Common.{◌≡◌, ℕ, zero, suc, ◌<◌, Bool, true, false, if◌then◌else◌, List, [], ◌∷◌, ◌++◌, map, length, slice_index_or, sym, refl, ap, ◌∙◌, subst, true≢false, arith}
use Rattle.std.specs.List.{All, remove}
use Rattle.std.specs.Str.{bytes_eq}
use Rattle.std.proofs.lemmas.List.{append_assoc, append-nil}
use Rattle.std.proofs.lemmas.List.Elements.{All-push}
use Rattle.click_rings.specs.Feeds.{ConsumerState, FeedName, name_of, has_feed, have_distinct_devices}
use Rattle.click_rings.proofs.Draws.{head_apart, tail_apart, none_first, none_rest, is_itself, same_device}
use Rattle.click_desk.specs.Polls.{without}
use Rattle.click_player.specs.Belonging.{HaveRings}

-- A feed in a list without a device does not have that device.
away : (device : List ℕ) (fs : List FeedName) (k : ℕ) (f : FeedName) → has_feed device fs ≡ false → k < length fs → (slice_index_or fs k f).device ≡ device → ⊥
away device [] k f none below same = absurd (omega arith)
away device (x ∷ fs) zero f none below same =
    let here : bytes_eq x.device device ≡ true = ap (λ d. bytes_eq d device) same ∙ is_itself device in
    true≢false (sym here ∙ none_first (bytes_eq x.device device) (has_feed device fs) none)
away device (x ∷ fs) (suc k) f none below same =
    away device fs k f (none_rest (bytes_eq x.device device) (has_feed device fs) none) (omega arith) same

-- Of feeds with distinct devices, those with the same device have the same ring.
pub own_rings : (fs : List FeedName) → have_distinct_devices fs ≡ true → HaveRings fs fs
own_rings [] apart k d below j f there same = absurd (omega (arith, below))
own_rings (x ∷ fs) apart zero d below zero f there same = refl
own_rings (x ∷ fs) apart zero d below (suc j) f there same = absurd (away x.device fs j f (head_apart x fs apart) (omega (arith, there)) same)
own_rings (x ∷ fs) apart (suc k) d below zero f there same = absurd (away x.device fs k d (head_apart x fs apart) (omega (arith, below)) (sym same))
own_rings (x ∷ fs) apart (suc k) d below (suc j) f there same = own_rings fs (tail_apart x fs apart) k d (omega (arith, below)) j f (omega (arith, there)) same

-- If all items have a property, those that are left after a removal have it.
pub all_remove : {X : Type 0} (P : X → Type 0) (xs : List X) (n : ℕ) → All P xs → All P (remove xs n)
all_remove P [] zero all k d below = absurd (omega (arith, below))
all_remove P [] (suc n) all k d below = absurd (omega (arith, below))
all_remove P (x ∷ xs) zero all k d below = all (suc k) d (omega arith)
all_remove P (x ∷ xs) (suc n) all zero d below = all zero d (omega arith)
all_remove P (x ∷ xs) (suc n) all (suc k) d below = all_remove P xs n (λ j e there. all (suc j) e (omega arith)) k d (omega arith)

all_tail : (P : FeedName → Type 0) (f : FeedName) (fs : List FeedName) → All P (f ∷ fs) → All P fs
all_tail P f fs all = λ k x below. all (suc k) x (omega arith)

all_cons : (P : FeedName → Type 0) (f : FeedName) (fs : List FeedName) → P f → All P fs → All P (f ∷ fs)
all_cons P f fs here all zero x below = here
all_cons P f fs here all (suc k) x below = all k x (omega arith)

left_choice : (P : FeedName → Type 0) (t : ConsumerState) (ts rest : List ConsumerState) (b : Bool) → P (name_of t) → All P (map name_of ts) → All P (map name_of rest) → All P (map name_of (if b then ts else (t ∷ rest)))
left_choice P t ts rest true here all kept = all
left_choice P t ts rest false here all kept = all_cons P (name_of t) (map name_of rest) here kept

-- If all feeds have a property, those that are left after a settlement have it.
pub all_left : (P : FeedName → Type 0) (device : List ℕ) (ts : List ConsumerState) → All P (map name_of ts) → All P (map name_of (without device ts))
all_left P device [] all = all
all_left P device (t ∷ ts) all =
    let rest = all_tail P (name_of t) (map name_of ts) all in
    left_choice P t ts (without device ts) (bytes_eq t.device device) (all 0 (name_of t) (omega arith)) rest (all_left P device ts rest)

none_choice : (device : List ℕ) (t : ConsumerState) (ts rest : List ConsumerState) (b : Bool) → bytes_eq t.device device ≡ b → has_feed t.device (map name_of ts) ≡ false → has_feed device (map name_of rest) ≡ false
    → has_feed device (map name_of (if b then ts else (t ∷ rest))) ≡ false
none_choice device t ts rest true same apart kept = subst (λ d. has_feed d (map name_of ts) ≡ false) (same_device t.device device same) apart
none_choice device t ts rest false same apart kept = rw same kept

-- After a settlement no feed of the device is left.
none_left : (device : List ℕ) (ts : List ConsumerState) → have_distinct_devices (map name_of ts) ≡ true → has_feed device (map name_of (without device ts)) ≡ false
none_left device [] apart = refl
none_left device (t ∷ ts) apart =
    none_choice device t ts (without device ts) (bytes_eq t.device device) refl (head_apart (name_of t) (map name_of ts) apart) (none_left device ts (tail_apart (name_of t) (map name_of ts) apart))

away_at : (device : List ℕ) (ts : List ConsumerState) (k : ℕ) (t : ConsumerState) → has_feed device (map name_of ts) ≡ false → k < length ts → (slice_index_or ts k t).device ≡ device → ⊥
away_at device [] k t none below same = absurd (omega arith)
away_at device (x ∷ ts) zero t none below same =
    let here : bytes_eq x.device device ≡ true = ap (λ d. bytes_eq d device) same ∙ is_itself device in
    true≢false (sym here ∙ none_first (bytes_eq x.device device) (has_feed device (map name_of ts)) none)
away_at device (x ∷ ts) (suc k) t none below same =
    away_at device ts k t (none_rest (bytes_eq x.device device) (has_feed device (map name_of ts)) none) (omega arith) same

pub others_left : (device : List ℕ) (ts : List ConsumerState) → have_distinct_devices (map name_of ts) ≡ true → All (λ t. t.device ≡ device → ⊥) (without device ts)
others_left device ts apart k t below = λ same. away_at device (without device ts) k t (none_left device ts apart) below same

-- If all names of consumers have a property, the name of each consumer has it.
pub all_named : (P : FeedName → Type 0) (ts : List ConsumerState) → All P (map name_of ts) → All (λ (t : ConsumerState). P (name_of t)) ts
all_named P [] all k t below = absurd (omega (arith, below))
all_named P (x ∷ ts) all zero t below = all 0 (name_of x) (omega arith)
all_named P (x ∷ ts) all (suc k) t below = all_named P ts (all_tail P (name_of x) (map name_of ts) all) k t (omega (arith, below))

-- The consumers of a driver's device have the ring of the driver.
pub ring_of : (ds : List FeedName) (ts : List ConsumerState) (n : ℕ) (d : FeedName) (device : List ℕ) → HaveRings ds (map name_of ts) → n < length ds → d ≡ slice_index_or ds n d → d.device ≡ device
    → All (λ t. t.device ≡ device → t.ring ≡ d.ring) ts
ring_of ds ts n d device rings below is named k t there same =
    subst (λ (x : FeedName). (slice_index_or ts k t).device ≡ x.device → (slice_index_or ts k t).ring ≡ x.ring) (sym is)
    (all_named (λ (f : FeedName). f.device ≡ (slice_index_or ds n d).device → f.ring ≡ (slice_index_or ds n d).ring) ts (rings n d below) k t there) (same ∙ sym named)

-- Drivers and feeds still have the same rings after a settlement.
pub rings_left : (ds : List FeedName) (device : List ℕ) (ts after : List ConsumerState) → after ≡ without device ts → HaveRings ds (map name_of ts) → HaveRings ds (map name_of after)
rings_left ds device ts after left rings =
    subst (λ (l : List ConsumerState). HaveRings ds (map name_of l)) (sym left)
    (λ k d below. all_left (λ (f : FeedName). f.device ≡ (slice_index_or ds k d).device → f.ring ≡ (slice_index_or ds k d).ring) device ts (rings k d below))

-- Drivers and feeds still have the same rings if a driver is removed.
pub rings_away : (ds gone fs : List FeedName) (n : ℕ) → gone ≡ remove ds n → HaveRings ds fs → HaveRings gone fs
rings_away ds gone fs n gone_is rings =
    subst (λ (l : List FeedName). HaveRings l fs) (sym gone_is) (all_remove (λ (d : FeedName). All (λ (f : FeedName). f.device ≡ d.device → f.ring ≡ d.ring) fs) ds n rings)

-- Drivers and feeds still have the same rings if the removed driver is appended again.
pub rings_again : (ds gone after fs : List FeedName) (n : ℕ) (d y : FeedName) → n < length ds → d ≡ slice_index_or ds n d → gone ≡ remove ds n → y ≡ d → after ≡ gone ++ y ∷ [] → HaveRings ds fs → HaveRings after fs
rings_again ds gone after fs n d y below is gone_is same after_is rings =
    subst (λ (l : List FeedName). HaveRings l fs) (sym after_is)
    (All-push (λ (x : FeedName). All (λ (f : FeedName). f.device ≡ x.device → f.ring ≡ x.ring) fs) gone y (rings_away ds gone fs n gone_is rings)
    (subst (λ (x : FeedName). All (λ (f : FeedName). f.device ≡ x.device → f.ring ≡ x.ring) fs) (sym (same ∙ is)) (rings n d below)))

-- If the first of the remaining feeds moves to the finished ones, the whole list is the same.
pub one-over : (done left old whole : List FeedName) (n : FeedName) → n ∷ left ≡ old → done ++ old ≡ whole → (done ++ n ∷ []) ++ left ≡ whole
one-over done left old whole n first so_far = append_assoc done (n ∷ []) left ∙ ap (λ x. done ++ x) first ∙ so_far

-- If no feed remains, all are finished.
pub all-over : (done left whole : List FeedName) → length left ≡ 0 → done ++ left ≡ whole → done ≡ whole
all-over done [] whole none so_far = sym (append-nil done) ∙ so_far
all-over done (n ∷ left) whole none so_far = absurd (omega arith)
