-- Elements fit their ports at first, and packets preserve that.
use Rattle.std.proofs.Common.{◌≡◌, ℕ, zero, suc, ◌+◌, refl, sym, ap, subst, List, [], ◌∷◌, map, Some, arith}
use Rattle.std.specs.Prelude.{slice_get}
use Rattle.std.specs.List.{All}
use Rattle.std.proofs.lemmas.List.Elements.{All-nil, All-cons}
use Rattle.click_packet.specs.Packet.{Packet}
use Rattle.click_classes.specs.Ports.{counts}
use Rattle.click_classes.specs.Fitting.{FitsPorts}
use Rattle.click_classes.specs.Settings.{settings}
use Rattle.click_classes.specs.declared.ports.Side.TheVariants as side
use Rattle.click_classes.specs.declared.state.State.{State}
use Rattle.click_classes.proofs.OfPorts.PortFit.{act-fits, gives-fits, stored-fits, emission-fits, first-turn}
use Rattle.click_ports.specs.Lawful.{IsCounted, AllCounted}
use Rattle.click_ports.specs.Net.{Net, IsLawfulNet, shape_of}
use Rattle.click_ports.specs.Ports.{used}
use Rattle.click_engine.specs.declared.run_state.Element.{Element}
use Rattle.click_engine.specs.Keeps.{AreFitting}
use Rattle.click_engine.specs.Plant.{Plant, IsStarted, wiring, element_of, elements_from}
use Rattle.click_engine.specs.Rounds.{arrive, transmit, round}
use Rattle.click_engine.proofs.OfInvariants.ElementInvariants.{Anywhere, anywhere, whole, all_after}
use Rattle.click_engine.proofs.OfInvariants.RunRelations.{Relates}
use Rattle.click_engine.proofs.OfInvariants.RoundRelations.{PlantKept, arrive-kept, transmit-kept, round-kept}

abbrev pub Fits : Element → Type 0
Fits e = FitsPorts e.inputs e.outputs e.state

abbrev pub FitsAfter : ℕ → Element → Element → Type 0
FitsAfter at e f = Fits e → Fits f

pub fits-relates : Relates Anywhere FitsAfter
fits-relates = record {
  same = λ at e k. k;
  on = λ at e f g h k s. k (h s);
  pushed = λ at input e p h. act-fits e.inputs e.outputs input e.state p;
  pulled = λ at input e p h. gives-fits e.inputs e.outputs input e.state p;
  held = λ at e s h is. stored-fits e.inputs e.outputs e.state s is;
  emitted = λ at e s h is. emission-fits e.inputs e.outputs e.state s is;
}

fitting_of : (v w : Plant) → PlantKept FitsAfter v w → AreFitting v → AreFitting w
fitting_of v w h = all_after Fits v.elements w.elements h.elements.count h.elements.each

pub arrive-fitting : (v : Plant) (device : List ℕ) (p : Packet) → AreFitting v → AreFitting (arrive v device p)
arrive-fitting v device p = fitting_of v _ (arrive-kept Anywhere FitsAfter fits-relates v (whole (wiring v)) device p (λ at e. tt))

pub transmit-fitting : (v : Plant) (device : List ℕ) → AreFitting v → AreFitting (transmit v device)
transmit-fitting v device = fitting_of v _ (transmit-kept Anywhere FitsAfter fits-relates v (whole (wiring v)) device (λ at e. tt))

pub round-fitting : (v : Plant) → AreFitting v → AreFitting (round v).plant
round-fitting v = fitting_of v _ (round-kept Anywhere FitsAfter fits-relates v (whole (wiring v)) (anywhere v.tasks))

-- ---- a plant that begins

abbrev pub IsSet : State → Type 0
IsSet s = settings s ≡ s

abbrev Counted : Net → ℕ → State → Type 0
Counted net at s = IsCounted (counts s) (used net.connections at side.Input) (used net.connections at side.Output)

first-fits : (net : Net) (at : ℕ) (s : State) → Counted net at s → IsSet s → Fits (element_of net at s)
first-fits net at s h k = record {
  inputs_from = h.inputs_in.0;
  inputs_to = h.inputs_in.1;
  outputs_from = h.outputs_in.0;
  outputs_to = h.outputs_in.1;
  equal = h.equal;
  turn = first-turn (used net.connections at side.Input) (used net.connections at side.Output) s k h.inputs_in.0 h.outputs_in.0;
}

started-fits : (net : Net) (at : ℕ) (states : List State) → ((k : ℕ) (s : State) → slice_get states k ≡ Some s → Counted net (at + k) s) → All IsSet states
    → All Fits (elements_from net at states)
started-fits net at [] h k = All-nil Fits
started-fits net at (s ∷ ss) h k =
    let here : at + 0 ≡ at = omega arith in
    All-cons Fits (element_of net at s) (elements_from net (at + 1) ss) (first-fits net at s (subst (λ n. Counted net n s) here (h 0 s refl)) (k zero s (omega arith)))
    (started-fits net (at + 1) ss (λ j t e. let next : at + suc j ≡ at + 1 + j = omega arith in subst (λ n. Counted net n t) next (h (suc j) t e))
    (λ j d inside. k (suc j) d (omega (arith, inside))))

pub shape-at : (states : List State) (k : ℕ) (s : State) → slice_get states k ≡ Some s → slice_get (map shape_of states) k ≡ Some (shape_of s)
shape-at [] k s e = cc
shape-at (t ∷ ts) zero s e = let same : t ≡ s = cc in ap (λ u. Some (shape_of u)) same
shape-at (t ∷ ts) (suc k) s e = shape-at ts k s e

pub begins-fitting : (net : Net) (states : List State) (v : Plant) → IsStarted net states v → net.shapes ≡ map shape_of states → IsLawfulNet net → All IsSet states → AreFitting v
begins-fitting net states v is shapes lawful set =
    let counted : AllCounted (map shape_of states) net.connections = rw (← shapes) lawful.lawful.counted in
    subst (λ es. All Fits es) (sym is.elements_are) (started-fits net 0 states (λ k s e. let same : k ≡ 0 + k = omega arith in subst (λ n. Counted net n s) same (counted k (shape_of s) (shape-at states k s e))) set)
