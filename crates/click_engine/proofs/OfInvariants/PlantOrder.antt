-- Packets, handlers and swaps leave a plant in order.
use Rattle.std.proofs.Common.{◌≡◌, ℕ, refl, sym, ap, ◌∙◌, subst, List, length, get_or, Some, arith}
use Rattle.std.specs.List.{All}
use Rattle.click_packet.specs.Packet.{Packet}
use Rattle.click_classes.specs.Queues.{IsSound}
use Rattle.click_classes.specs.State.{class}
use Rattle.click_base.specs.declared.class.Class.{Class}
use Rattle.click_classes.proofs.OfStates.StateSettings.{class-settings}
use Rattle.click_ports.specs.Net.{Net}
use Rattle.click_engine.specs.declared.run_state.Element.{Element}
use Rattle.click_engine.specs.Devices.{element_with}
use Rattle.click_engine.specs.InOrder.{IsPlaced, AreInOrder, IsInOrder}
use Rattle.click_engine.specs.Keeps.{fixed}
use Rattle.click_engine.specs.Plant.{Plant, wiring}
use Rattle.click_engine.specs.Rounds.{arrive, transmit, round}
use Rattle.click_engine.specs.RunState.{Wiring, RunState, with_state, acted_at, given_at, blank}
use Rattle.click_engine.specs.Run.{push, pull}
use Rattle.click_engine.proofs.OfInvariants.PortFit.{Fits, FitsAfter, fits-relates}
use Rattle.click_engine.proofs.OfInvariants.ElementInvariants.{Anywhere, anywhere, whole, all_after, SameFixed, fixed-relates, SoundAfter, sound-relates}
use Rattle.click_engine.proofs.OfInvariants.RunRelations.{Relates, Kept, kept-set, push-kept, pull-kept}
use Rattle.click_engine.proofs.OfInvariants.RoundRelations.{PlantKept, arrive-kept, transmit-kept, round-kept}

-- an element has the ports and the class of another
pub record IsAlike (e f : Element) : Type 0 where
  pub inputs : f.inputs ≡ e.inputs
  pub outputs : f.outputs ≡ e.outputs
  pub its_class : class f.state ≡ class e.state

alike : (e : Element) → IsAlike e e
alike e = record { inputs = refl; outputs = refl; its_class = refl }

-- ---- elements that replace others

pub as-placed : (net : Net) (at : ℕ) (e f : Element) → IsAlike e f → IsPlaced net at e → IsPlaced net at f
as-placed net at e f a h = record {
  its_class = h.its_class ∙ ap (λ (c : Class). Some c) (sym a.its_class);
  inputs = a.inputs ∙ h.inputs;
  outputs = a.outputs ∙ h.outputs;
}

module _ (net : Net) (es fs : List Element) (h : AreInOrder net es) (count : length fs ≡ length es) (each : (at : ℕ) → IsAlike (get_or es at blank) (get_or fs at blank)) where
  pub still-in-order : All Fits fs → All (λ (e : Element). IsSound e.state) fs → AreInOrder net fs
  still-in-order fitting sound = record {
    lawful = h.lawful;
    count = count ∙ h.count;
    placed = λ at inside. as-placed net at (get_or es at blank) (get_or fs at blank) (each at) (h.placed at (omega (arith, inside, count)));
    fitting = fitting;
    sound = sound;
  }

-- a plant with such elements, and with the net and the devices of the other, is in order
pub plant-in-order : (v w : Plant) → IsInOrder v → w.net ≡ v.net → w.sources ≡ v.sources → w.sinks ≡ v.sinks → length w.elements ≡ length v.elements
    → ((at : ℕ) → IsAlike (get_or v.elements at blank) (get_or w.elements at blank))
    → All Fits w.elements → All (λ (e : Element). IsSound e.state) w.elements → IsInOrder w
plant-in-order v w h net sources sinks count each fitting sound = record {
  elements = subst (λ n. AreInOrder n w.elements) (sym net) (still-in-order v.net v.elements w.elements h.elements count each fitting sound);
  enters = λ device at is. (each at).its_class ∙ h.enters device at (ap (λ ds. element_with ds device) (sym sources) ∙ is);
  leaves = λ device at is. (each at).its_class ∙ h.leaves device at (ap (λ ds. element_with ds device) (sym sinks) ∙ is);
}

-- ---- packets

-- what packets preserve of an element
pub record KeptBy (at : ℕ) (e f : Element) : Type 0 where
  pub same : SameFixed at e f
  pub fits : FitsAfter at e f
  pub sound : SoundAfter at e f

order-relates : Relates Anywhere KeptBy
order-relates =
    let a = fixed-relates in
    let b = fits-relates in
    let c = sound-relates in
    record {
      same = λ at e. record { same = a.same at e; fits = b.same at e; sound = c.same at e };
      on = λ at e f g h k. record { same = a.on at e f g h.same k.same; fits = b.on at e f g h.fits k.fits; sound = c.on at e f g h.sound k.sound };
      pushed = λ at input e p h. record { same = a.pushed at input e p h; fits = b.pushed at input e p h; sound = c.pushed at input e p h };
      pulled = λ at input e p h. record { same = a.pulled at input e p h; fits = b.pulled at input e p h; sound = c.pulled at input e p h };
      held = λ at e s h is. record { same = a.held at e s h is; fits = b.held at e s h is; sound = c.held at e s h is };
      emitted = λ at e s h is. record { same = a.emitted at e s h is; fits = b.emitted at e s h is; sound = c.emitted at e s h is };
    }

fixed-alike : (e f : Element) → fixed f ≡ fixed e → IsAlike e f
fixed-alike e f h = record {
  inputs = ap (λ (x : Element). x.inputs) h;
  outputs = ap (λ (x : Element). x.outputs) h;
  its_class = sym (class-settings f.state) ∙ ap (λ (x : Element). class x.state) h ∙ class-settings e.state;
}

module _ (es fs : List Element) (k : Kept KeptBy es fs) where
  kept-fitting : All Fits es → All Fits fs
  kept-fitting = all_after Fits es fs k.count (λ at. (k.each at).fits)

  kept-sound : All (λ (e : Element). IsSound e.state) es → All (λ (e : Element). IsSound e.state) fs
  kept-sound = all_after (λ (e : Element). IsSound e.state) es fs k.count (λ at. (k.each at).sound)

  kept-alike : (at : ℕ) → IsAlike (get_or es at blank) (get_or fs at blank)
  kept-alike at = fixed-alike (get_or es at blank) (get_or fs at blank) (k.each at).same

  kept-in-order : (net : Net) → AreInOrder net es → AreInOrder net fs
  kept-in-order net h = still-in-order net es fs h k.count kept-alike (kept-fitting h.fitting) (kept-sound h.sound)

pub push-in-order : (net : Net) (adjacency : Wiring) (d : ℕ) (w : RunState) (at o : ℕ) (p : Packet) → AreInOrder net w.elements → AreInOrder net (push adjacency d w at o p).elements
push-in-order net adjacency d w at o p h = kept-in-order w.elements _ (push-kept Anywhere KeptBy order-relates adjacency (whole adjacency) d w at o p tt) net h

pub pull-in-order : (net : Net) (adjacency : Wiring) (d : ℕ) (w : RunState) (at i : ℕ) → AreInOrder net w.elements → AreInOrder net (pull adjacency d w at i).run_state.elements
pull-in-order net adjacency d w at i h = kept-in-order w.elements _ (pull-kept Anywhere KeptBy order-relates adjacency (whole adjacency) d w at i tt) net h

pub acted-in-order : (net : Net) (w : RunState) (at i : ℕ) (p : Packet) → AreInOrder net w.elements → AreInOrder net (with_state w at (acted_at w at i p).state).elements
acted-in-order net w at i p h =
    kept-in-order w.elements _ (kept-set Anywhere KeptBy order-relates w.elements at (acted_at w at i p).state (order-relates.pushed at i (get_or w.elements at blank) p tt)) net h

pub given-in-order : (net : Net) (w : RunState) (at i : ℕ) (p : Packet) → AreInOrder net w.elements → AreInOrder net (with_state w at (given_at w at i p).state).elements
given-in-order net w at i p h =
    kept-in-order w.elements _ (kept-set Anywhere KeptBy order-relates w.elements at (given_at w at i p).state (order-relates.pulled at i (get_or w.elements at blank) p tt)) net h

run-in-order : (v w : Plant) → PlantKept KeptBy v w → IsInOrder v → IsInOrder w
run-in-order v w k h =
    plant-in-order v w h (ap (λ (x : Plant). x.net) k.rest) (ap (λ (x : Plant). x.sources) k.rest) (ap (λ (x : Plant). x.sinks) k.rest) k.elements.count
    (kept-alike v.elements w.elements k.elements) (kept-fitting v.elements w.elements k.elements h.elements.fitting) (kept-sound v.elements w.elements k.elements h.elements.sound)

pub arrive-in-order : (v : Plant) (device : List ℕ) (p : Packet) → IsInOrder v → IsInOrder (arrive v device p)
arrive-in-order v device p = run-in-order v _ (arrive-kept Anywhere KeptBy order-relates v (whole (wiring v)) device p (λ at e. tt))

pub transmit-in-order : (v : Plant) (device : List ℕ) → IsInOrder v → IsInOrder (transmit v device)
transmit-in-order v device = run-in-order v _ (transmit-kept Anywhere KeptBy order-relates v (whole (wiring v)) device (λ at e. tt))

pub round-in-order : (v : Plant) → IsInOrder v → IsInOrder (round v).plant
round-in-order v = run-in-order v _ (round-kept Anywhere KeptBy order-relates v (whole (wiring v)) (anywhere v.tasks))
