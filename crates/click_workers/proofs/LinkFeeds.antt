-- Feeds of links, and lists whose items are related pairwise.
use Rattle.std.proofs.Common.{◌≡◌, ◌⊎◌, inl, inr, ℕ, true, false, true≢false, List, Option, [], ◌∷◌, map, refl, sym, ap, subst, ◌∙◌}
use Rattle.std.specs.Str.{bytes_eq}
use Rattle.std.specs.List.{All, AllZip}
use Rattle.std.proofs.lemmas.List.Elements.{All-nil, All-cons, All-head, All-tail}
use Rattle.click_rings.specs.Feeds.{ConsumerState, FeedName, RingName, name_of, has_feed, have_distinct_devices}
use Rattle.click_rings.proofs.Draws.{none_first, none_rest, head_apart, first_apart, rest_apart, is_itself, each_has}
use Rattle.click_desk.proofs.Settlements.{own_ring, all_without, has_others}
use Rattle.click_desk.proofs.MissingViews.{viewless}
use Rattle.click_desk.specs.BookState.{BookState}
use Rattle.click_desk.specs.Openings.{IsViewFault}
use Rattle.click_desk.specs.Polls.{without}
use Rattle.click_desk.specs.declared.open.OpenFault.{OpenFault}
use Rattle.click_desk.specs.declared.open.OpenFault.TheVariants as told
use Rattle.click_workers.specs.Linked.{FitsConsumers, HasRing, IsTrueOpening}
use Rattle.click_workers.specs.Runs.{HeadlineWith}
use Rattle.click_workers.specs.Work.{SideBySide}

-- If the device has no feed, each of these feeds is of another device.
away : (device : List ℕ) (fs : List FeedName) → has_feed device fs ≡ false → All (λ (f : FeedName). device ≡ f.device → ⊥) fs
away device [] none = All-nil (λ (f : FeedName). device ≡ f.device → ⊥)
away device (f ∷ fs) none =
    All-cons (λ (f : FeedName). device ≡ f.device → ⊥) f fs
    (λ same. let here : bytes_eq f.device device ≡ true = ap (λ d. bytes_eq d device) (sym same) ∙ is_itself device in
    true≢false (sym here ∙ none_first (bytes_eq f.device device) (has_feed device fs) none))
    (away device fs (none_rest (bytes_eq f.device device) (has_feed device fs) none))

widen : (t : ConsumerState) (ts : List ConsumerState) (fs : List FeedName) → All (λ (f : FeedName). t.device ≡ f.device → ⊥) fs → All (λ (f : FeedName). FitsConsumers ts f.device f.ring) fs
    → All (λ (f : FeedName). FitsConsumers (t ∷ ts) f.device f.ring) fs
widen t ts [] gone fit = All-nil (λ (f : FeedName). FitsConsumers (t ∷ ts) f.device f.ring)
widen t ts (f ∷ fs) gone fit =
    All-cons (λ (f : FeedName). FitsConsumers (t ∷ ts) f.device f.ring) f fs
    (All-cons (λ (x : ConsumerState). x.device ≡ f.device → x.ring ≡ f.ring) t ts (λ same. absurd (All-head (λ (f : FeedName). t.device ≡ f.device → ⊥) f fs gone same))
    (All-head (λ (f : FeedName). FitsConsumers ts f.device f.ring) f fs fit))
    (widen t ts fs (All-tail (λ (f : FeedName). t.device ≡ f.device → ⊥) f fs gone) (All-tail (λ (f : FeedName). FitsConsumers ts f.device f.ring) f fs fit))

-- If the devices of the feeds are distinct, each feed is the only one of its device.
fits : (consumers : List ConsumerState) → have_distinct_devices (map name_of consumers) ≡ true → All (λ (f : FeedName). FitsConsumers consumers f.device f.ring) (map name_of consumers)
fits [] apart = All-nil (λ (f : FeedName). FitsConsumers [] f.device f.ring)
fits (t ∷ ts) apart =
    All-cons (λ (f : FeedName). FitsConsumers (t ∷ ts) f.device f.ring) (name_of t) (map name_of ts)
    (own_ring (name_of t) (map name_of ts) (t ∷ ts) refl apart)
    (widen t ts (map name_of ts) (away t.device (map name_of ts) (first_apart t ts apart)) (fits ts (rest_apart t ts apart)))

pub own-feeds : (consumers : List ConsumerState) → have_distinct_devices (map name_of consumers) ≡ true → All (λ (f : FeedName). HasRing consumers f.device f.ring) (map name_of consumers)
own-feeds consumers apart = λ k f below. (each_has (map name_of consumers) k f below, fits consumers apart k f below)

-- Settling the feed of a device leaves the feeds of all other devices.
pub others-kept : (consumers : List ConsumerState) (device other : List ℕ) (ring : RingName) → (other ≡ device → ⊥) → HasRing consumers other ring → HasRing (without device consumers) other ring
others-kept consumers device other ring differ has =
    (has_others other device consumers differ has.0, all_without (λ (t : ConsumerState). t.device ≡ other → t.ring ≡ ring) device consumers has.1)

-- What holds for each item of a mapped list holds for the map of each item.
pub from-map : {X Y : Type 0} (P : Y → Type 0) (g : X → Y) (xs : List X) → All P (map g xs) → All (λ x. P (g x)) xs
from-map P g [] h = All-nil (λ x. P (g x))
from-map P g (x ∷ xs) h = All-cons (λ x. P (g x)) x xs (All-head P (g x) (map g xs) h) (from-map P g xs (All-tail P (g x) (map g xs) h))

-- If the devices of the feeds are distinct, each feed but the first is of another device than the
-- first.
pub others-differ : {X : Type 0} (feed : X → FeedName) (x : X) (xs : List X) → have_distinct_devices (map feed (x ∷ xs)) ≡ true → All (λ y. (feed y).device ≡ (feed x).device → ⊥) xs
others-differ feed x xs apart = λ k y below same.
    from-map (λ (f : FeedName). (feed x).device ≡ f.device → ⊥) feed xs (away (feed x).device (map feed xs) (head_apart (feed x) (map feed xs) apart)) k y below (sym same)

-- Related lists have the same map, if related items have.
pub same-map : {X Y Z : Type 0} (R : X → Y → Type 0) (f : X → Z) (g : Y → Z) → ((x : X) (y : Y) → R x y → g y ≡ f x) → (xs : List X) (ys : List Y) → AllZip R xs ys → map g ys ≡ map f xs
same-map R f g each [] [] h = refl
same-map R f g each [] (y ∷ ys) h = absurd h
same-map R f g each (x ∷ xs) [] h = absurd h
same-map R f g each (x ∷ xs) (y ∷ ys) h = ap (λ z. z ∷ map g ys) (each x y h.0) ∙ ap (λ l. f x ∷ l) (same-map R f g each xs ys h.1)

-- Three lists: relations of the first with the second and of the second with the third give one of
-- the first with the third.
pub weave : {X Y Z : Type 0} (P : X → Type 0) (R : X → Y → Type 0) (Q : Y → Z → Type 0) (S : X → Z → Type 0) → ((x : X) (y : Y) (z : Z) → P x → R x y → Q y z → S x z)
    → (xs : List X) (ys : List Y) (zs : List Z) → All P xs → AllZip R xs ys → SideBySide Q ys zs → SideBySide S xs zs
weave P R Q S each [] [] [] all a b = tt
weave P R Q S each [] [] (z ∷ zs) all a b = absurd b
weave P R Q S each [] (y ∷ ys) zs all a b = absurd a
weave P R Q S each (x ∷ xs) [] zs all a b = absurd a
weave P R Q S each (x ∷ xs) (y ∷ ys) [] all a b = absurd b
weave P R Q S each (x ∷ xs) (y ∷ ys) (z ∷ zs) all a b = (each x y z (All-head P x xs all) a.0 b.0, weave P R Q S each xs ys zs (All-tail P x xs all) a.1 b.1)

-- The devices of the feeds' names are the devices that the names were built from.
pub devices-named : {X : Type 0} (device : X → List ℕ) (ring : X → RingName) (xs : List X)
    → map (λ (f : FeedName). f.device) (map (λ x. record { device = device x; ring = ring x }) xs) ≡ map device xs
devices-named device ring [] = refl
devices-named device ring (x ∷ xs) = ap (λ l. device x ∷ l) (devices-named device ring xs)

-- A headline stays true when feeds of the book are settled, as long as a book without feeds gets
-- none.
pub resettled : (feeds : List FeedName) (room : Option ℕ) (text : List ℕ) (n : ℕ) (book : BookState) (consumers : List ConsumerState) → (book.consumers ≡ [] → consumers ≡ [])
    → HeadlineWith feeds room text n book → HeadlineWith feeds room text n (record book { consumers = consumers })
resettled feeds room text n book consumers none h = record {
  opening = h.opening;
  kept = h.kept;
  replayed = h.replayed;
  lawful = h.lawful;
  entered = h.entered;
  once = h.once;
  numbered = h.numbered;
  no_feeds = λ bare. none (h.no_feeds bare);
  options = h.options;
}

-- The fault of opening a desk without views is the fault of the run with links.
pub no-desk : (seats : ℕ) (feeds : List FeedName) (text : List ℕ) (f : OpenFault) → (f ≡ told.NoMemory) ⊎ IsViewFault seats feeds 0 text f
    → IsTrueOpening seats (map (λ (x : FeedName). x.device) feeds) text f
no-desk seats feeds text f (inl none) = inl none
no-desk seats feeds text f (inr why) = inr (feeds, refl, viewless seats feeds text f why)

-- Why there is no run with links depends only on the list of devices.
pub no-run : (seats : ℕ) (devices devices2 : List (List ℕ)) (text : List ℕ) (f : OpenFault) → devices ≡ devices2 → IsTrueOpening seats devices text f → IsTrueOpening seats devices2 text f
no-run seats devices devices2 text f same why = subst (λ (ds : List (List ℕ)). IsTrueOpening seats ds text f) same why
