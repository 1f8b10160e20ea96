-- Lemmas about the ports at which packet runs begin, and about the depth: any depth of at least the
-- crossings gives the same packet runs.
use Rattle.std.proofs.Common.{◌≡◌, ℕ, zero, suc, ◌<◌, ◌≤◌, inl, inr, sym, ap, ◌∙◌, List, [], ◌∷◌, length, get_or, slice_get, option_map, Some, arith}
use Rattle.std.proofs.lemmas.Bool.{cases_lt}
use Rattle.std.proofs.lemmas.List.{get_or_past}
use Rattle.std.proofs.lemmas.List.Elements.{All-get_or}
use Rattle.click_packet.specs.Packet.{Packet}
use Rattle.click_classes.specs.Acts.{Stored}
use Rattle.click_classes.specs.Ports.{counts}
use Rattle.click_classes.specs.State.{class}
use Rattle.click_base.specs.declared.class.Class.{Class}
use Rattle.click_base.specs.declared.class.Class.TheVariants as kind
use Rattle.click_classes.specs.declared.state.State.{State}
use Rattle.click_classes.specs.declared.state.State.TheVariants as state
use Rattle.click_ports.specs.declared.shape.Shape.{Shape}
use Rattle.click_engine.specs.declared.run_state.Element.{Element}
use Rattle.click_engine.specs.InOrder.{IsInOrder}
use Rattle.click_engine.specs.Plant.{Plant, most_crossings, wiring, begin, end}
use Rattle.click_engine.specs.Rounds.{source_of, sink_of, emitted, asks, sourced}
use Rattle.click_engine.specs.Run.{push, pull}
use Rattle.click_engine.specs.RunState.{with_state, blank}
use Rattle.click_engine.proofs.OfInvariants.PortFit.{Fits}
use Rattle.click_engine.proofs.OfRuns.PullDepth.{pull-left, pull-slack}
use Rattle.click_engine.proofs.OfRuns.PushDepth.{push-slack}

-- ---- the ports of a class

device-output : (s : State) → class s ≡ kind.FromDevice → (counts s).outputs.0 ≡ 1
device-output (state.FromDevice d) e = cc
device-output _ e = cc

device-input : (s : State) → class s ≡ kind.ToDevice → (counts s).inputs.0 ≡ 1
device-input (state.ToDevice d) e = cc
device-input _ e = cc

source-output : (s : State) → class s ≡ kind.InfiniteSource → (counts s).outputs.0 ≡ 1
source-output (state.InfiniteSource b l u a n) e = cc
source-output _ e = cc

unqueue-ports : (s : State) → class s ≡ kind.Unqueue → ((counts s).inputs.0 ≡ 1) × ((counts s).outputs.0 ≡ 1)
unqueue-ports state.Unqueue e = ((cc), (cc))
unqueue-ports _ e = cc

discard-input : (s : State) → class s ≡ kind.Discard → (counts s).inputs.0 ≡ 1
discard-input state.Discard e = cc
discard-input _ e = cc

-- ---- the ports at which packet runs begin

module _ (v : Plant) (h : IsInOrder v) where
  abbrev here : ℕ → Element
  here at = get_or v.elements at blank

  fits-there : (at : ℕ) → at < length v.elements → Fits (here at)
  fits-there at inside = All-get_or Fits v.elements at blank inside h.elements.fitting

  pub enters-there : (device : List ℕ) (at : ℕ) → source_of v device ≡ Some at → 0 < (here at).outputs
  enters-there device at e = elim (cases_lt at (length v.elements)) [
    | inl inside ↦ (let one = device-output (here at).state (h.enters device at e) in omega (arith, one, (fits-there at inside).outputs_from))
    | inr past ↦ (let idle : kind.Idle ≡ kind.FromDevice = ap (λ (x : Element). class x.state) (sym (get_or_past v.elements at blank past)) ∙ h.enters device at e in cc)
  ]

  pub leaves-there : (device : List ℕ) (at : ℕ) → sink_of v device ≡ Some at → 0 < (here at).inputs
  leaves-there device at e = elim (cases_lt at (length v.elements)) [
    | inl inside ↦ (let one = device-input (here at).state (h.leaves device at e) in omega (arith, one, (fits-there at inside).inputs_from))
    | inr past ↦ (let idle : kind.Idle ≡ kind.ToDevice = ap (λ (x : Element). class x.state) (sym (get_or_past v.elements at blank past)) ∙ h.leaves device at e in cc)
  ]

  inside-shapes : (ss : List Shape) (at : ℕ) (shape : Shape) → slice_get ss at ≡ Some shape → at < length ss
  inside-shapes [] at shape e = absurd (let x = e in cc)
  inside-shapes (s ∷ ss) zero shape e = omega arith
  inside-shapes (s ∷ ss) (suc at) shape e = omega (arith, inside-shapes ss at shape e)

  its-class : (at : ℕ) (shape : Shape) (c : Class) → slice_get v.net.shapes at ≡ Some shape → shape.class ≡ c → (at < length v.elements) × (class (here at).state ≡ c)
  its-class at shape c e f =
      let inside : at < length v.elements = omega (arith, inside-shapes v.net.shapes at shape e, h.elements.count) in
      let same : Some shape.class ≡ Some (class (here at).state) = sym (ap (option_map (λ (s : Shape). s.class)) e) ∙ (h.elements.placed at inside).its_class in
      (inside, (let alike : shape.class ≡ class (here at).state = cc in sym alike ∙ f))

  pub source-there : (at : ℕ) (shape : Shape) → slice_get v.net.shapes at ≡ Some shape → shape.class ≡ kind.InfiniteSource → 0 < (here at).outputs
  source-there at shape e f =
      let (inside, is) = its-class at shape kind.InfiniteSource e f in
      omega (arith, source-output (here at).state is, (fits-there at inside).outputs_from)

  pub unqueue-there : (at : ℕ) (shape : Shape) → slice_get v.net.shapes at ≡ Some shape → shape.class ≡ kind.Unqueue → (0 < (here at).inputs) × (0 < (here at).outputs)
  unqueue-there at shape e f =
      let (inside, is) = its-class at shape kind.Unqueue e f in
      let ports = unqueue-ports (here at).state is in
      (omega (arith, ports.0, (fits-there at inside).inputs_from), omega (arith, ports.1, (fits-there at inside).outputs_from))

  pub discard-there : (at : ℕ) (shape : Shape) → slice_get v.net.shapes at ≡ Some shape → shape.class ≡ kind.Discard → 0 < (here at).inputs
  discard-there at shape e f =
      let (inside, is) = its-class at shape kind.Discard e f in
      omega (arith, discard-input (here at).state is, (fits-there at inside).inputs_from)

-- ---- any depth

module _ (v : Plant) (depth : ℕ) (deep : most_crossings ≤ depth) where
  pub emitted-deep : (at : ℕ) (p : Packet) → emitted v at p ≡ end v (push (wiring v) depth (begin most_crossings v) at 0 p)
  emitted-deep at p = ap (end v) (push-slack (wiring v) most_crossings depth (begin most_crossings v) at 0 p (omega arith) (omega (arith, deep)))

  pub asks-deep : (at : ℕ) → asks v at ≡ pull (wiring v) depth (begin most_crossings v) at 0
  asks-deep at = pull-slack (wiring v) most_crossings depth (begin most_crossings v) at 0 (omega arith) (omega (arith, deep))

  pub asked-deep : (at : ℕ) (p : Packet) → push (wiring v) most_crossings (asks v at).run_state at 0 p ≡ push (wiring v) depth (asks v at).run_state at 0 p
  asked-deep at p =
      let fewer : (asks v at).run_state.left ≤ most_crossings = pull-left (wiring v) most_crossings (begin most_crossings v) at 0 in
      push-slack (wiring v) most_crossings depth (asks v at).run_state at 0 p fewer (omega (arith, fewer, deep))

  pub sourced-deep : (at : ℕ) (e : Stored) → sourced v at e ≡ end v (push (wiring v) depth (with_state (begin most_crossings v) at e.state) at 0 e.packet)
  sourced-deep at e =
      ap (end v) (push-slack (wiring v) most_crossings depth (with_state (begin most_crossings v) at e.state) at 0 e.packet (omega arith) (omega (arith, deep)))
