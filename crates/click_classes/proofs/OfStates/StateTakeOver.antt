-- What an element takes over.
use Rattle.std.proofs.Common.{◌≡◌, ℕ, ◌+◌, ◌<◌, ◌≤◌, nat_lt, length, take, true, false, Option, Some, None, if◌then◌else◌, inl, inr, refl, ap, ◌∙◌, arith, length-take}
use Rattle.std.proofs.lemmas.Bool.{cases_lt}
use Rattle.std.proofs.lemmas.Bool.Decides.{nat_tests}
use Rattle.click_classes.specs.Ports.{at_least}
use Rattle.click_classes.specs.Fitting.{FitsPorts}
use Rattle.click_classes.specs.PacketList.{PacketList}
use Rattle.click_classes.specs.Queues.{Queued, queue_of, IsSound}
use Rattle.click_classes.specs.Settings.{settings}
use Rattle.click_classes.specs.State.{class}
use Rattle.click_base.specs.declared.class.Class.TheVariants as kind
use Rattle.click_classes.specs.TakeOver.{filled, left_over, kept_position, taken_over}
use Rattle.click_classes.specs.declared.state.State.{State}
use Rattle.click_classes.specs.declared.state.State.TheVariants as state

abbrev queue_from : PacketList → PacketList → Queued
queue_from q old = record { list = filled q old; drops = left_over q old; highest = length (filled q old).packets }

counted : (q old : PacketList) → length (filled q old).packets + left_over q old ≡ length old.packets
counted q old = omega (arith, length-take q.capacity old.packets)

abbrev Taken : ℕ → State → State → Queued → Queued → Type 0
Taken outputs s old q before = (t : Queued) × (queue_of (taken_over outputs s old) ≡ Some t) × (t.list ≡ record { packets = take q.list.capacity before.list.packets; capacity = q.list.capacity })
    × (length t.list.packets + t.drops ≡ length before.list.packets) × (t.highest ≡ length t.list.packets)

from_lists : (outputs : ℕ) (s old : State) (q before : Queued) (a b : PacketList) → a ≡ q.list → b ≡ before.list → queue_of (taken_over outputs s old) ≡ Some (queue_from a b) → Taken outputs s old q before
from_lists outputs s old q before a b x y is =
    (queue_from a b, is, ap (λ (l : PacketList). filled l b) x ∙ ap (filled q.list) y, counted a b ∙ ap (λ (l : PacketList). length l.packets) y, refl)

pub front : (outputs : ℕ) (s old : State) (q before : Queued) → class s ≡ class old → queue_of s ≡ Some q → queue_of old ≡ Some before → Taken outputs s old q before
front outputs (state.Queue a d h) (state.Queue b e i) q before same is was = from_lists outputs (state.Queue a d h) (state.Queue b e i) q before a b (let x : record { list = a; drops = d; highest = h } ≡ q = cc in ap (λ (x : Queued). x.list) x) (let x : record { list = b; drops = e; highest = i } ≡ before = cc in ap (λ (x : Queued). x.list) x) refl
front outputs (state.FrontDropQueue a d h) (state.FrontDropQueue b e i) q before same is was = from_lists outputs (state.FrontDropQueue a d h) (state.FrontDropQueue b e i) q before a b (let x : record { list = a; drops = d; highest = h } ≡ q = cc in ap (λ (x : Queued). x.list) x) (let x : record { list = b; drops = e; highest = i } ≡ before = cc in ap (λ (x : Queued). x.list) x) refl
front outputs (state.Queue a d h) (state.FrontDropQueue b e i) q before same is was = absurd (let x = same in cc)
front outputs (state.FrontDropQueue a d h) (state.Queue b e i) q before same is was = absurd (let x = same in cc)
front outputs s old q before same is was = absurd (let x = same in cc)

-- the position of a Switch

position-there : (outputs k : ℕ) (own : Option ℕ) → k < outputs → kept_position outputs own (Some k) ≡ Some k
position-there outputs k own inside = let t : nat_lt k outputs ≡ true = grind (arith, nat_tests) in ap (λ b. if b then Some k else own) t

position-past : (outputs k : ℕ) (own : Option ℕ) → outputs ≤ k → kept_position outputs own (Some k) ≡ own
position-past outputs k own past = let t : nat_lt k outputs ≡ false = grind (arith, nat_tests) in ap (λ b. if b then Some k else own) t

pub position-kept : (outputs k : ℕ) (own : Option ℕ) → k < outputs → taken_over outputs (state.Switch own) (state.Switch (Some k)) ≡ state.Switch (Some k)
position-kept outputs k own inside = ap state.Switch (position-there outputs k own inside)

pub position-own : (outputs k : ℕ) (own : Option ℕ) → outputs ≤ k → taken_over outputs (state.Switch own) (state.Switch (Some k)) ≡ state.Switch own
position-own outputs k own past = ap state.Switch (position-past outputs k own past)

position-fits : (outputs : ℕ) (own old : Option ℕ) → at_least own ≤ outputs → at_least (kept_position outputs own old) ≤ outputs
position-fits outputs own None fits = omega arith
position-fits outputs own (Some k) fits = elim (cases_lt k outputs) [
  | inl inside ↦ rw (position-there outputs k own inside) (omega (arith, inside))
  | inr past ↦ rw (position-past outputs k own past) fits
]

-- all other elements keep their first state

pub other_class : (outputs : ℕ) (s old : State) → (class s ≡ class old → ⊥) → taken_over outputs s old ≡ s
other_class outputs (state.Queue a d h) (state.Queue b e i) ne = absurd (ne refl)
other_class outputs (state.FrontDropQueue a d h) (state.FrontDropQueue b e i) ne = absurd (ne refl)
other_class outputs (state.Counter n b) (state.Counter m c) ne = absurd (ne refl)
other_class outputs (state.Switch own) (state.Switch k) ne = absurd (ne refl)
other_class outputs (state.ARPQuerier a) (state.ARPQuerier b) ne = absurd (ne refl)
other_class outputs _ _ ne = refl

pub anew : (outputs : ℕ) (s old : State) → (class s ≡ kind.Queue → ⊥) → (class s ≡ kind.FrontDropQueue → ⊥) → (class s ≡ kind.Counter → ⊥) → (class s ≡ kind.Switch → ⊥) → (class s ≡ kind.ARPQuerier → ⊥) → taken_over outputs s old ≡ s
anew outputs (state.Queue a d h) (state.Queue b e i) x y z w v = absurd (x refl)
anew outputs (state.FrontDropQueue a d h) (state.FrontDropQueue b e i) x y z w v = absurd (y refl)
anew outputs (state.Counter n b) (state.Counter m c) x y z w v = absurd (z refl)
anew outputs (state.Switch own) (state.Switch k) x y z w v = absurd (w refl)
anew outputs (state.ARPQuerier a) (state.ARPQuerier b) x y z w v = absurd (v refl)
anew outputs _ _ x y z w v = refl

-- what a hot swap keeps

pub keeps_class : (outputs : ℕ) (s old : State) → class (taken_over outputs s old) ≡ class s
keeps_class outputs (state.Queue a d h) (state.Queue b e i) = refl
keeps_class outputs (state.FrontDropQueue a d h) (state.FrontDropQueue b e i) = refl
keeps_class outputs (state.Counter n b) (state.Counter m c) = refl
keeps_class outputs (state.Switch own) (state.Switch k) = refl
keeps_class outputs (state.ARPQuerier a) (state.ARPQuerier b) = refl
keeps_class outputs _ _ = refl

pub keeps_settings : (outputs : ℕ) (s old : State) → (class s ≡ kind.Switch → ⊥) → settings (taken_over outputs s old) ≡ settings s
keeps_settings outputs (state.Queue a d h) (state.Queue b e i) ne = refl
keeps_settings outputs (state.FrontDropQueue a d h) (state.FrontDropQueue b e i) ne = refl
keeps_settings outputs (state.Counter n b) (state.Counter m c) ne = refl
keeps_settings outputs (state.Switch own) (state.Switch k) ne = absurd (ne refl)
keeps_settings outputs (state.ARPQuerier a) (state.ARPQuerier b) ne = refl
keeps_settings outputs _ _ ne = refl

pub keeps_ports : (inputs outputs : ℕ) (s old : State) → FitsPorts inputs outputs s → FitsPorts inputs outputs (taken_over outputs s old)
keeps_ports inputs outputs (state.Queue a d h) (state.Queue b e i) fits =
    record { inputs_from = fits.inputs_from; inputs_to = fits.inputs_to; outputs_from = fits.outputs_from; outputs_to = fits.outputs_to; equal = fits.equal; turn = tt }
keeps_ports inputs outputs (state.FrontDropQueue a d h) (state.FrontDropQueue b e i) fits =
    record { inputs_from = fits.inputs_from; inputs_to = fits.inputs_to; outputs_from = fits.outputs_from; outputs_to = fits.outputs_to; equal = fits.equal; turn = tt }
keeps_ports inputs outputs (state.Counter n b) (state.Counter m c) fits =
    record { inputs_from = fits.inputs_from; inputs_to = fits.inputs_to; outputs_from = fits.outputs_from; outputs_to = fits.outputs_to; equal = fits.equal; turn = tt }
keeps_ports inputs outputs (state.Switch own) (state.Switch k) fits =
    record { inputs_from = fits.inputs_from; inputs_to = fits.inputs_to; outputs_from = position-fits outputs own k fits.outputs_from; outputs_to = fits.outputs_to; equal = fits.equal; turn = tt }
keeps_ports inputs outputs (state.ARPQuerier a) (state.ARPQuerier b) fits =
    record { inputs_from = fits.inputs_from; inputs_to = fits.inputs_to; outputs_from = fits.outputs_from; outputs_to = fits.outputs_to; equal = fits.equal; turn = tt }
keeps_ports inputs outputs _ _ fits = fits

within : (q old : PacketList) → length (filled q old).packets ≤ q.capacity
within q old = omega (arith, length-take q.capacity old.packets)

pub stays_sound : (outputs : ℕ) (s old : State) → IsSound s → IsSound (taken_over outputs s old)
stays_sound outputs (state.Queue a d h) (state.Queue b e i) sound = (within a b, omega arith)
stays_sound outputs (state.FrontDropQueue a d h) (state.FrontDropQueue b e i) sound = (within a b, omega arith)
stays_sound outputs (state.Counter n b) (state.Counter m c) sound = tt
stays_sound outputs (state.Switch own) (state.Switch k) sound = tt
stays_sound outputs (state.ARPQuerier a) (state.ARPQuerier b) sound = tt
stays_sound outputs _ _ sound = sound

-- After taking over, a Counter is in the state of the old one, and so is a Switch if the old one
-- fitted the same number of outputs.

pub counter-goes-on : (outputs : ℕ) (s old : State) → class s ≡ class old → class old ≡ kind.Counter → taken_over outputs s old ≡ old
counter-goes-on outputs (state.Counter n b) (state.Counter m c) same is = refl
counter-goes-on outputs s old same is = absurd (let x = same ∙ is in cc)

fitting-position : (outputs : ℕ) (own k : Option ℕ) → at_least k ≤ outputs → kept_position outputs own k ≡ k
fitting-position outputs own None fits = refl
fitting-position outputs own (Some k) fits = position-there outputs k own (omega (arith, fits))

pub switch-goes-on : (inputs outputs : ℕ) (s old : State) → class s ≡ class old → class old ≡ kind.Switch → FitsPorts inputs outputs old → taken_over outputs s old ≡ old
switch-goes-on inputs outputs (state.Switch own) (state.Switch k) same is fits = ap state.Switch (fitting-position outputs own k fits.outputs_from)
switch-goes-on inputs outputs s old same is fits = absurd (let x = same ∙ is in cc)
