-- Lemmas about the devices of a list of elements, each with the first element that names it.
use Rattle.std.proofs.Common.{◌≡◌, ◌≢◌, ◌⊎◌, inl, inr, ℕ, suc, ◌+◌, refl, sym, ap, ◌∙◌, ◌<◌, arith, List, [], ◌∷◌, ◌++◌, length, length-take-le, take, get_or, Bool, true, false, cond, position, Option, Some, None}
use Rattle.std.specs.Prelude.{if◌then◌else◌, ◌||◌}
use Rattle.std.specs.Str.{bytes_eq}
use Rattle.std.proofs.lemmas.Bool.{false≢true}
use Rattle.std.specs.List.{slice_get, position_from}
use Rattle.std.proofs.lemmas.Iterator.Adapters.{position_from-zero}
use Rattle.std.proofs.lemmas.List.{take_more, length_push}
use Rattle.std.proofs.lemmas.Slice.Eq.{bytes_eq-Decides}
use Rattle.click_classes.specs.declared.state.State.{State}
use Rattle.click_base.specs.NameLists.{has_name}
use Rattle.click_engine.specs.declared.devices.PacketDirection.{PacketDirection}
use Rattle.click_engine.specs.Devices.{Device, device_of, without, first_with, devices_from, element_with}
use Rattle.click_engine.specs.kept.Tables.{devices}
use Rattle.click_engine.proofs.OfPlants.PlantElements.{joined_on}

pub bytes_tell : (n m : List ℕ) → ((bytes_eq n m ≡ true) × (n ≡ m)) ⊎ ((bytes_eq n m ≡ false) × (n ≢ m))
bytes_tell n m = go (bytes_eq n m) refl
  where
    go : (b : Bool) → bytes_eq n m ≡ b → ((bytes_eq n m ≡ true) × (n ≡ m)) ⊎ ((bytes_eq n m ≡ false) × (n ≢ m))
    go true e = inl (e, (bytes_eq-Decides n m).0 e)
    go false e = inr (e, λ h. false≢true (sym e ∙ (bytes_eq-Decides n m).1 h))

bytes-same : (n m : List ℕ) → n ≡ m → bytes_eq n m ≡ true
bytes-same n m h = (bytes_eq-Decides n m).1 h

bytes-other : (n m : List ℕ) → n ≢ m → bytes_eq n m ≡ false
bytes-other n m h = go (bytes_eq n m) refl
  where
    go : (b : Bool) → bytes_eq n m ≡ b → bytes_eq n m ≡ false
    go true e = absurd (h ((bytes_eq-Decides n m).0 e))
    go false e = e

abbrev has : List ℕ → List Device → Bool
has n [] = false
has n (d ∷ ds) = bytes_eq n d.name || has n ds

abbrev device : List ℕ → ℕ → Device
device n p = record { name = n; element = p }

abbrev pub added : List ℕ → ℕ → List Device → List Device
added n p ds = if has n ds then ds else ds ++ device n p ∷ []

abbrev pub noted : Option (List ℕ) → ℕ → List Device → List Device
noted None p ds = ds
noted (Some n) p ds = added n p ds

has-without : (m n : List ℕ) (ds : List Device) → n ≢ m → has n (without m ds) ≡ has n ds
has-without m n [] h = refl
has-without m n (d ∷ ds) h = go (bytes_tell m d.name) (has-without m n ds h)
  where
    go : ((bytes_eq m d.name ≡ true) × (m ≡ d.name)) ⊎ ((bytes_eq m d.name ≡ false) × (m ≢ d.name)) → has n (without m ds) ≡ has n ds
        → has n (if bytes_eq m d.name then without m ds else d ∷ without m ds) ≡ (bytes_eq n d.name || has n ds)
    go (inl t) ih = rw (t.0, bytes-other n d.name (λ e. h (e ∙ sym t.1))) ih
    go (inr t) ih = rw t.0 (ap (λ b. bytes_eq n d.name || b) ih)

cons-if : (b : Bool) (d : Device) (xs ys : List Device) → d ∷ (if b then xs else ys) ≡ (if b then d ∷ xs else d ∷ ys)
cons-if true d xs ys = refl
cons-if false d xs ys = refl

without-push : (m : List ℕ) (ds : List Device) (x : Device) → without m (ds ++ x ∷ []) ≡ (if bytes_eq m x.name then without m ds else without m ds ++ x ∷ [])
without-push m [] x = refl
without-push m (d ∷ ds) x = go (bytes_tell m d.name) (without-push m ds x)
  where
    go : ((bytes_eq m d.name ≡ true) × (m ≡ d.name)) ⊎ ((bytes_eq m d.name ≡ false) × (m ≢ d.name))
        → without m (ds ++ x ∷ []) ≡ (if bytes_eq m x.name then without m ds else without m ds ++ x ∷ [])
        → without m (d ∷ ds ++ x ∷ []) ≡ (if bytes_eq m x.name then without m (d ∷ ds) else without m (d ∷ ds) ++ x ∷ [])
    go (inl t) ih = rw t.0 ih
    go (inr t) ih = rw t.0 (ap (λ r. d ∷ r) ih ∙ cons-if (bytes_eq m x.name) d (without m ds) (without m ds ++ x ∷ []))

same-added : (b : Bool) (m n : List ℕ) (p : ℕ) (ds : List Device) → m ≡ n → without m (if b then ds else ds ++ device n p ∷ []) ≡ without m ds
same-added true m n p ds e = refl
same-added false m n p ds e = without-push m ds (device n p) ∙ rw (bytes-same m n e) refl

other-added : (b : Bool) (m n : List ℕ) (p at : ℕ) (ds : List Device) → m ≢ n
    → device m at ∷ without m (if b then ds else ds ++ device n p ∷ []) ≡ (if b then device m at ∷ without m ds else (device m at ∷ without m ds) ++ device n p ∷ [])
other-added true m n p at ds e = refl
other-added false m n p at ds e = ap (λ r. device m at ∷ r) (without-push m ds (device n p) ∙ rw (bytes-other m n e) refl)

added-under : (m n : List ℕ) (at p : ℕ) (ds : List Device) → device m at ∷ without m (added n p ds) ≡ added n p (device m at ∷ without m ds)
added-under m n at p ds = go (bytes_tell n m)
  where
    go : ((bytes_eq n m ≡ true) × (n ≡ m)) ⊎ ((bytes_eq n m ≡ false) × (n ≢ m)) → device m at ∷ without m (added n p ds) ≡ added n p (device m at ∷ without m ds)
    go (inl t) = rw t.0 (ap (λ r. device m at ∷ r) (same-added (has n ds) m n p ds (sym t.1)))
    go (inr t) = rw (t.0, has-without m n ds t.1) (other-added (has n ds) m n p at ds (λ e. t.1 (sym e)))

noted-under : (o q : Option (List ℕ)) (at p : ℕ) (ds : List Device) → first_with o at (noted q p ds) ≡ noted q p (first_with o at ds)
noted-under None q at p ds = refl
noted-under (Some m) None at p ds = refl
noted-under (Some m) (Some n) at p ds = added-under m n at p ds

first-noted : (o : Option (List ℕ)) (at : ℕ) → first_with o at [] ≡ noted o at []
first-noted None at = refl
first-noted (Some n) at = refl

pub devices_more : (w : PacketDirection) (at : ℕ) (ss : List State) (s : State) → devices_from w at (ss ++ s ∷ []) ≡ noted (device_of w s) (at + length ss) (devices_from w at ss)
devices_more w at [] s = let e : at ≡ at + 0 = omega arith in first-noted (device_of w s) at ∙ ap (λ p. noted (device_of w s) p []) e
devices_more w at (t ∷ ss) s =
    let e : (at + 1) + length ss ≡ at + suc (length ss) = omega arith in
    ap (first_with (device_of w t) at) (devices_more w (at + 1) ss s) ∙ noted-under (device_of w t) (device_of w s) at ((at + 1) + length ss) (devices_from w (at + 1) ss)
    ∙ ap (λ p. noted (device_of w s) p (first_with (device_of w t) at (devices_from w (at + 1) ss))) e

has-names : (n : List ℕ) (names : List (List ℕ)) (places : List ℕ) → length names ≡ length places → has n (devices names places) ≡ has_name n names
has-names n [] places e = refl
has-names n (m ∷ names) [] e = absurd (omega (arith, e))
has-names n (m ∷ names) (p ∷ places) e = ap (λ b. bytes_eq n m || b) (has-names n names places (omega (arith, e)))

devices-push : (names : List (List ℕ)) (places : List ℕ) (n : List ℕ) (p : ℕ) → length names ≡ length places
    → devices (names ++ n ∷ []) (places ++ p ∷ []) ≡ devices names places ++ device n p ∷ []
devices-push [] [] n p e = refl
devices-push [] (q ∷ places) n p e = absurd (omega (arith, e))
devices-push (m ∷ names) [] n p e = absurd (omega (arith, e))
devices-push (m ∷ names) (q ∷ places) n p e = ap (λ ds. device m q ∷ ds) (devices-push names places n p (omega (arith, e)))

-- one more element names a device, which is known already or is new
pub known_again : (names : List (List ℕ)) (places : List ℕ) (n : List ℕ) (p : ℕ) → length names ≡ length places → has_name n names ≡ true
    → devices names places ≡ added n p (devices names places)
known_again names places n p e h = rw (has-names n names places e, h) refl

pub first_known : (names : List (List ℕ)) (places : List ℕ) (n : List ℕ) (p : ℕ) → length names ≡ length places → has_name n names ≡ false
    → devices (names ++ n ∷ []) (places ++ p ∷ []) ≡ added n p (devices names places)
first_known names places n p e h = devices-push names places n p e ∙ rw (has-names n names places e, h) refl

module _ (w : PacketDirection) (ss : List State) (at : ℕ) (s : State) (inside : at < length ss) (here : s ≡ get_or ss at s) where
  pub next_device : devices_from w 0 (take (at + 1) ss) ≡ noted (device_of w s) at (devices_from w 0 (take at ss))
  next_device =
      let len = length-take-le at ss (omega (arith, inside)) in
      let place : 0 + length (take at ss) ≡ at = omega (arith, len) in
      ap (devices_from w 0) (take_more ss at s inside ∙ ap (λ t. take at ss ++ t ∷ []) (sym here)) ∙ devices_more w 0 (take at ss) s
      ∙ ap (λ p. noted (device_of w s) p (devices_from w 0 (take at ss))) place

  pub no_device : None ≡ device_of w s → devices_from w 0 (take at ss) ≡ devices_from w 0 (take (at + 1) ss)
  no_device e = ap (λ o. noted o at (devices_from w 0 (take at ss))) e ∙ sym next_device

  pub one_device : (n : List ℕ) → Some n ≡ device_of w s → added n at (devices_from w 0 (take at ss)) ≡ devices_from w 0 (take (at + 1) ss)
  one_device n e = ap (λ o. noted o at (devices_from w 0 (take at ss))) e ∙ sym next_device

-- the element of a device, by the device's index among the names
abbrev pub beside : List ℕ → Option ℕ → Option ℕ
beside places None = None
beside places (Some i) = slice_get places i

seam : (before : List ℕ) (p : ℕ) (after : List ℕ) → slice_get (before ++ p ∷ after) (length before) ≡ Some p
seam [] p after = refl
seam (q ∷ before) p after = seam before p after

beside-from : (i : ℕ) (before : List ℕ) (names : List (List ℕ)) (places : List ℕ) (name : List ℕ) → length before ≡ i → length names ≡ length places
    → element_with (devices names places) name ≡ beside (before ++ places) (position_from (bytes_eq name) i names)
beside-from i before [] places name b e = refl
beside-from i before (n ∷ names) [] name b e = absurd (omega (arith, e))
beside-from i before (n ∷ names) (p ∷ places) name b e =
    go (bytes_eq name n) (beside-from (i + 1) (before ++ p ∷ []) names places name (length_push before p ∙ ap (λ k. k + 1) b) (omega (arith, e)))
  where
    go : (t : Bool) → element_with (devices names places) name ≡ beside ((before ++ p ∷ []) ++ places) (position_from (bytes_eq name) (i + 1) names)
        → (if t then Some p else element_with (devices names places) name) ≡ beside (before ++ p ∷ places) (cond t (Some i) (position_from (bytes_eq name) (i + 1) names))
    go true h = sym (ap (slice_get (before ++ p ∷ places)) (sym b) ∙ seam before p places)
    go false h = h ∙ ap (λ ps. beside ps (position_from (bytes_eq name) (i + 1) names)) (sym (joined_on before p places))

pub beside_name : (names : List (List ℕ)) (places : List ℕ) (name : List ℕ) → length names ≡ length places
    → element_with (devices names places) name ≡ beside places (position (bytes_eq name) names)
beside_name names places name e = beside-from 0 [] names places name refl e ∙ ap (beside places) (sym (position_from-zero (bytes_eq name) names))
