-- A plant begins in order; swaps, and changes of one element, leave it in order.
use Rattle.std.proofs.Common.{◌≡◌, ℕ, zero, suc, ◌+◌, ◌<◌, inl, inr, true, refl, sym, ap, ◌∙◌, subst, List, [], ◌∷◌, length, get_or, map, option_map, slice_get, slice_set, Option, Some, None, arith}
use Rattle.std.specs.List.{All}
use Rattle.std.proofs.lemmas.Bool.{cases_eq}
use Rattle.std.proofs.lemmas.List.{get_or-set_same, get_or-set_other, length-set, length-map}
use Rattle.std.proofs.lemmas.List.Elements.{All-set}
use Rattle.std.proofs.lemmas.List.Quantifiers.{position-Some}
use Rattle.click_classes.specs.Acts.{is_source, is_sink}
use Rattle.click_classes.specs.Queues.{IsSound}
use Rattle.click_classes.specs.State.{class}
use Rattle.click_base.specs.declared.class.Class.TheVariants as kind
use Rattle.click_classes.specs.declared.state.State.{State}
use Rattle.click_classes.specs.declared.state.State.TheVariants as state
use Rattle.click_classes.proofs.OfStates.StateTakeOver.{keeps_class}
use Rattle.click_ports.specs.Net.{Net, IsLawfulNet, shape_of}
use Rattle.click_ports.specs.declared.shape.Shape.{Shape}
use Rattle.click_engine.specs.declared.run_state.Element.{Element}
use Rattle.click_engine.specs.InOrder.{IsPlaced, AreInOrder, IsInOrder}
use Rattle.click_engine.specs.Plant.{Plant, IsStarted, element_of, elements_from}
use Rattle.click_engine.specs.Rounds.{source_of, sink_of, state_at}
use Rattle.click_engine.specs.TakeOver.{named, with_taken_over, each_taken, taken}
use Rattle.click_engine.specs.RunState.{blank}
use Rattle.click_engine.proofs.OfPlants.FirstPlant.{enters_first, leaves_first}
use Rattle.click_engine.proofs.OfPlants.PlantElements.{elements_length}
use Rattle.click_engine.proofs.OfInvariants.PortFit.{Fits, IsSet, begins-fitting, shape-at}
use Rattle.click_engine.proofs.OfInvariants.PlantOrder.{IsAlike, plant-in-order}
use Rattle.click_engine.proofs.OfInvariants.ElementInvariants.{begins-sound}
use Rattle.click_engine.proofs.OfPlants.ElementTakeOver.{all_sound, all_fitting}

-- ---- a plant that begins

-- each state has the class of its shape; the shapes are taken from an index on
abbrev AreShaped : Net → ℕ → List State → Type 0
AreShaped net from ss = (k : ℕ) (s : State) → slice_get ss k ≡ Some s → option_map (λ (x : Shape). x.class) (slice_get net.shapes (from + k)) ≡ Some (class s)

placed-from : (net : Net) (from : ℕ) (ss : List State) → AreShaped net from ss → (at : ℕ) → at < length (elements_from net from ss) → IsPlaced net (from + at) (get_or (elements_from net from ss) at blank)
placed-from net from [] h at inside = absurd (omega (arith, inside))
placed-from net from (s ∷ ss) h zero inside =
    let here : from + 0 ≡ from = omega arith in
    record {
      its_class = h 0 s refl;
      inputs = subst (λ n. (element_of net from s).inputs ≡ (element_of net n s).inputs) (sym here) refl;
      outputs = subst (λ n. (element_of net from s).outputs ≡ (element_of net n s).outputs) (sym here) refl;
    }
placed-from net from (s ∷ ss) h (suc at) inside =
    let next : from + 1 + at ≡ from + suc at = omega arith in
    subst (λ n. IsPlaced net n (get_or (elements_from net (from + 1) ss) at blank)) next
    (placed-from net (from + 1) ss (λ k s e. let there : from + suc k ≡ from + 1 + k = omega arith in subst (λ n. option_map (λ (x : Shape). x.class) (slice_get net.shapes n) ≡ Some (class s)) there (h (suc k) s e)) at (omega (arith, inside)))

state-from : (net : Net) (from : ℕ) (ss : List State) (at : ℕ) → (get_or (elements_from net from ss) at blank).state ≡ get_or ss at state.Idle
state-from net from [] at = refl
state-from net from (s ∷ ss) zero = refl
state-from net from (s ∷ ss) (suc at) = state-from net (from + 1) ss at

source-class : (device : List ℕ) (s : State) → is_source device s ≡ true → class s ≡ kind.FromDevice
source-class device (state.FromDevice d) e = refl
source-class device _ e = cc

sink-class : (device : List ℕ) (s : State) → is_sink device s ≡ true → class s ≡ kind.ToDevice
sink-class device (state.ToDevice d) e = refl
sink-class device _ e = cc

module _ (net : Net) (states : List State) (v : Plant) (is : IsStarted net states v) where
  began : (at : ℕ) → state_at v at ≡ get_or states at state.Idle
  began at = ap (λ es. (get_or es at blank).state) is.elements_are ∙ state-from net 0 states at

  begins-enter : (device : List ℕ) (at : ℕ) → source_of v device ≡ Some at → class (state_at v at) ≡ kind.FromDevice
  begins-enter device at e =
      let found = position-Some (is_source device) states at state.Idle (sym (enters_first net states v is device) ∙ e) in
      ap class (began at) ∙ source-class device (get_or states at state.Idle) found.1

  begins-leave : (device : List ℕ) (at : ℕ) → sink_of v device ≡ Some at → class (state_at v at) ≡ kind.ToDevice
  begins-leave device at e =
      let found = position-Some (is_sink device) states at state.Idle (sym (leaves_first net states v is device) ∙ e) in
      ap class (began at) ∙ sink-class device (get_or states at state.Idle) found.1

shaped : (net : Net) (states : List State) → net.shapes ≡ map shape_of states → AreShaped net 0 states
shaped net states h k s e =
    let here : 0 + k ≡ k = omega arith in
    ap (λ n. option_map (λ (x : Shape). x.class) (slice_get net.shapes n)) here ∙ ap (λ ss. option_map (λ (x : Shape). x.class) (slice_get ss k)) h
    ∙ ap (option_map (λ (x : Shape). x.class)) (shape-at states k s e)

pub begins-in-order : (net : Net) (states : List State) (v : Plant) → IsStarted net states v → net.shapes ≡ map shape_of states → IsLawfulNet net → All IsSet states → All IsSound states → IsInOrder v
begins-in-order net states v is shapes lawful set sound =
    let fitting = begins-fitting net states v is shapes lawful set in
    let sound = begins-sound net states v is sound in
    let many : length (elements_from net 0 states) ≡ length net.shapes = elements_length net 0 states ∙ sym (length-map states shape_of) ∙ ap length (sym shapes) in
    let placed : (at : ℕ) → at < length (elements_from net 0 states) → IsPlaced net at (get_or (elements_from net 0 states) at blank)
    = λ at inside. (let here : 0 + at ≡ at = omega arith in subst (λ n. IsPlaced net n (get_or (elements_from net 0 states) at blank)) here (placed-from net 0 states (shaped net states shapes) at inside)) in
    record {
      elements = subst (λ n. AreInOrder n v.elements) (sym is.net_is) (record {
        lawful = lawful;
        count = ap length is.elements_are ∙ many;
        placed = subst (λ es. (at : ℕ) → at < length es → IsPlaced net at (get_or es at blank)) (sym is.elements_are) placed;
        fitting = fitting;
        sound = sound;
      });
      enters = begins-enter net states v is;
      leaves = begins-leave net states v is;
    }

-- ---- swaps

after-alike : (e : Element) (o : Option Element) → IsAlike e (with_taken_over e o)
after-alike e None = record { inputs = refl; outputs = refl; its_class = refl }
after-alike e (Some before) = record {
  inputs = refl;
  outputs = refl;
  its_class = keeps_class e.outputs e.state before.state;
}

taken-alike : (old : Plant) (names : List (List ℕ)) (es : List Element) (at : ℕ) → IsAlike (get_or es at blank) (get_or (each_taken old names es) at blank)
taken-alike old [] es at = record { inputs = refl; outputs = refl; its_class = refl }
taken-alike old (n ∷ ns) [] at = record { inputs = refl; outputs = refl; its_class = refl }
taken-alike old (n ∷ ns) (e ∷ es) zero = after-alike e (named old n)
taken-alike old (n ∷ ns) (e ∷ es) (suc at) = taken-alike old ns es at

length-taken : (old : Plant) (names : List (List ℕ)) (es : List Element) → length (each_taken old names es) ≡ length es
length-taken old [] es = refl
length-taken old (n ∷ ns) [] = refl
length-taken old (n ∷ ns) (e ∷ es) = ap suc (length-taken old ns es)

pub taken-in-order : (v old : Plant) → IsInOrder v → IsInOrder (taken v old)
taken-in-order v old h =
    plant-in-order v (taken v old) h refl refl refl (length-taken old v.net.names v.elements) (taken-alike old v.net.names v.elements)
    (all_fitting old v.net.names v.elements h.elements.fitting) (all_sound old v.net.names v.elements h.elements.sound)

-- ---- a change of one element

got : (es : List Element) (at : ℕ) (e : Element) → slice_get es at ≡ Some e → (at < length es) × (get_or es at blank ≡ e)
got [] at e h = absurd (let x = h in cc)
got (d ∷ es) zero e h = (omega arith, (let x = h in cc))
got (d ∷ es) (suc at) e h = let rest = got es at e h in (omega (arith, rest.0), rest.1)

set-alike : (es : List Element) (at : ℕ) (e f : Element) → slice_get es at ≡ Some e → IsAlike e f → (k : ℕ) → IsAlike (get_or es k blank) (get_or (slice_set es at f) k blank)
set-alike es at e f h a k = elim (cases_eq k at) [
  | inl is ↦ (let found = got es at e h in
      subst (λ j. IsAlike (get_or es j blank) (get_or (slice_set es at f) j blank)) (sym is)
      (subst (λ x. IsAlike x (get_or (slice_set es at f) at blank)) (sym found.1) (subst (λ x. IsAlike e x) (sym (get_or-set_same es at f blank found.0)) a)))
  | inr other ↦ subst (λ x. IsAlike (get_or es k blank) x) (sym (get_or-set_other es at k f blank other)) (record { inputs = refl; outputs = refl; its_class = refl })
]

pub changed-in-order : (v : Plant) (at : ℕ) (e f : Element) → IsInOrder v → slice_get v.elements at ≡ Some e → f.inputs ≡ e.inputs → f.outputs ≡ e.outputs → class f.state ≡ class e.state
    → Fits f → IsSound f.state → IsInOrder (record v { elements = slice_set v.elements at f })
changed-in-order v at e f h is inputs outputs its_class fits sound =
    plant-in-order v (record v { elements = slice_set v.elements at f }) h refl refl refl (length-set v.elements at f)
    (set-alike v.elements at e f is (record { inputs = inputs; outputs = outputs; its_class = its_class }))
    (All-set Fits v.elements at f fits h.elements.fitting) (All-set (λ (x : Element). IsSound x.state) v.elements at f sound h.elements.sound)
