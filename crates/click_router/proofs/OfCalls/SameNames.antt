-- After a swap to a text with the same names, each element takes over from the one at its own
-- index.
use Rattle.std.proofs.Common.{◌≡◌, ℕ, zero, suc, ◌+◌, ◌<◌, List, [], ◌∷◌, length, Some, slice_get, option_and_then, option_map, get_or, refl, sym, ap, ◌∙◌, subst, arith}
use Rattle.click_classes.specs.Fitting.{FitsPorts}
use Rattle.click_classes.specs.State.{class}
use Rattle.click_base.specs.declared.class.Class.TheVariants as kind
use Rattle.click_classes.specs.declared.ports.Side.TheVariants as side
use Rattle.click_classes.specs.declared.state.State.{State}
use Rattle.click_classes.proofs.OfStates.StateTakeOver.{counter-goes-on, switch-goes-on}
use Rattle.click_engine.specs.declared.run_state.Element.{Element}
use Rattle.click_engine.specs.InOrder.{IsPlaced}
use Rattle.click_engine.specs.Plant.{elements_from}
use Rattle.click_engine.specs.TakeOver.{place_of, named, with_taken_over}
use Rattle.click_engine.specs.RunState.{blank}
use Rattle.click_engine.proofs.OfPlants.ElementTakeOver.{each_by_name}
use Rattle.click_expand.specs.Flat.{AreDistinct}
use Rattle.click_expand.specs.declared.flat.FlatElement.{FlatElement}
use Rattle.click_ports.specs.Net.{names_of, net_of}
use Rattle.click_ports.specs.Ports.{used}
use Rattle.click_ports.specs.declared.net.Net.{Net}
use Rattle.click_ports.specs.declared.shape.Shape.{Shape}
use Rattle.click_router.specs.InOrder.{IsInOrder}
use Rattle.click_router.specs.Opened.{IsOpened, AreFresh}
use Rattle.click_router.specs.State.{RouterState}
use Rattle.click_router.specs.Swap.{taken}
use Rattle.click_router.proofs.OfCalls.RouterOrder.{opened-in-order}
use Rattle.click_router.proofs.OfOpenings.DistinctNames.{flat-distinct, inside, gets, at_its_place}

as_many : (net : Net) (k : ℕ) (qs : List State) → length (elements_from net k qs) ≡ length qs
as_many net k [] = refl
as_many net k (q ∷ qs) = ap suc (as_many net (k + 1) qs)

fresh_each : (es : List FlatElement) (qs : List State) → AreFresh es qs → length (names_of es) ≡ length qs
fresh_each [] [] h = refl
fresh_each [] (q ∷ qs) h = absurd h
fresh_each (e ∷ es) [] h = absurd h
fresh_each (e ∷ es) (q ∷ qs) h = ap suc (fresh_each es qs h.1)

pub takes_from_itself : (old new : RouterState) (text : List ℕ) (at : ℕ) (e before : Element) → IsOpened text new → old.plant.net.names ≡ new.plant.net.names
    → slice_get new.plant.elements at ≡ Some e → slice_get old.plant.elements at ≡ Some before
    → slice_get (taken new old).plant.elements at ≡ Some (with_taken_over e (Some before))
takes_from_itself old new text at e before o same here there =
    let begins = o.opens.begins in
    let names : new.plant.net.names ≡ names_of new.flat.elements = ap (λ (n : Net). n.names) begins.started.net_is in
    let distinct : AreDistinct old.plant.net.names = subst AreDistinct (sym (same ∙ names)) (flat-distinct o.config new.flat o.opens.is_flat) in
    let below : at < length new.plant.net.names =
    let l = inside new.plant.elements at e here in
    let many : length new.plant.elements ≡ length begins.states = ap length begins.started.elements_are ∙ as_many (net_of new.flat begins.states) 0 begins.states in
    let each : length new.plant.net.names ≡ length begins.states = ap length names ∙ fresh_each new.flat.elements begins.states begins.fresh in
    omega (arith, l, many, each) in
    let n = gets new.plant.net.names at below in
    let found : place_of old.plant n.0 ≡ Some at = at_its_place old.plant.net.names at n.0 distinct (ap (λ ns. slice_get ns at) same ∙ n.1) in
    let is : named old.plant n.0 ≡ Some before = ap (λ p. option_and_then (slice_get old.plant.elements) p) found ∙ there in
    each_by_name old.plant new.plant.net.names new.plant.elements at n.0 e n.1 here ∙ ap (λ x. Some (with_taken_over e x)) is

-- If the nets are equal, an element has the class and the outputs of the old one at its index.

gets_it : (es : List Element) (at : ℕ) (e : Element) → slice_get es at ≡ Some e → get_or es at blank ≡ e
gets_it [] at e h = absurd (let k = h in cc)
gets_it (d ∷ es) zero e h = let k = h in cc
gets_it (d ∷ es) (suc at) e h = gets_it es at e h

abbrev Fits : Element → Type 0
Fits e = FitsPorts e.inputs e.outputs e.state

module _ (old new : RouterState) (text : List ℕ) (at : ℕ) (e before : Element) (opened : IsOpened text new) (in_order : IsInOrder old) (same : old.plant.net ≡ new.plant.net)
    (here : slice_get new.plant.elements at ≡ Some e) (there : slice_get old.plant.elements at ≡ Some before) where
  placed : (s : RouterState) (x : Element) → IsInOrder s → slice_get s.plant.elements at ≡ Some x → IsPlaced s.plant.net at x
  placed s x h is = subst (IsPlaced s.plant.net at) (gets_it s.plant.elements at x is) (h.elements.placed at (inside s.plant.elements at x is))

  mine : IsPlaced new.plant.net at e
  mine = placed new e (opened-in-order text new opened) here

  its : IsPlaced old.plant.net at before
  its = placed old before in_order there

  same-class : class e.state ≡ class before.state
  same-class =
      let both : Some (class e.state) ≡ Some (class before.state) = sym mine.its_class ∙ ap (λ (n : Net). option_map (λ (s : Shape). s.class) (slice_get n.shapes at)) (sym same) ∙ its.its_class in cc

  same-outputs : before.outputs ≡ e.outputs
  same-outputs = its.outputs ∙ ap (λ (n : Net). used n.connections at side.Output) same ∙ sym mine.outputs

  fits : Fits before
  fits = subst Fits (gets_it old.plant.elements at before there) (in_order.elements.fitting at blank (inside old.plant.elements at before there))

  taken_there : slice_get (taken new old).plant.elements at ≡ Some (with_taken_over e (Some before))
  taken_there = takes_from_itself old new text at e before opened (ap (λ (n : Net). n.names) same) here there

  pub counts_on : class before.state ≡ kind.Counter → slice_get (taken new old).plant.elements at ≡ Some (record e { state = before.state })
  counts_on is = taken_there ∙ ap (λ s. Some (record e { state = s })) (counter-goes-on e.outputs e.state before.state same-class is)

  pub stands_on : class before.state ≡ kind.Switch → slice_get (taken new old).plant.elements at ≡ Some (record e { state = before.state })
  stands_on is = taken_there
      ∙ ap (λ s. Some (record e { state = s })) (switch-goes-on before.inputs e.outputs e.state before.state same-class is (subst (λ n. FitsPorts before.inputs n before.state) same-outputs fits))
