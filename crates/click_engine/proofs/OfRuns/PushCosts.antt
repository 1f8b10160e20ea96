-- A push with at least as many crossings left as its cost has no overrun.
use Rattle.std.proofs.Common.{◌≡◌, ℕ, zero, suc, ◌+◌, ◌<◌, ◌≤◌, refl, ap, ◌∙◌, List, get_or, Option, Some, None, arith}
use Rattle.click_packet.specs.Packet.{Packet}
use Rattle.click_engine.specs.declared.run_state.Element.{Element}
use Rattle.click_engine.specs.declared.run_state.ConnectionEnd.{ConnectionEnd}
use Rattle.click_engine.specs.Costs.{crossing_cost, outputs_cost, IsCost}
use Rattle.click_engine.specs.Keeps.{fixed}
use Rattle.click_engine.specs.Plant.{Plant, most_crossings, wiring, begin}
use Rattle.click_engine.specs.Rounds.{arrive, source_of}
use Rattle.click_engine.specs.Run.{push, sent}
use Rattle.click_engine.specs.RunState.{Wiring, RunState, element_at, with_state, acted_at, spent, blank}
use Rattle.click_engine.proofs.OfInvariants.ElementInvariants.{Anywhere, SameFixed, fixed-relates, whole}
use Rattle.click_engine.proofs.OfInvariants.RunRelations.{Kept, kept-same, kept-on, kept-set, push-kept}
use Rattle.click_engine.proofs.OfRuns.PushDepth.{push-left}
use Rattle.click_engine.proofs.OfRuns.RunSteps.{push-unconnected, push-some}

-- there was no overrun, and at most n crossings were spent
pub record Spends (w v : RunState) (n : ℕ) : Type 0 where
  pub overruns : v.overruns ≡ w.overruns
  pub left : w.left ≤ v.left + n

module _ (net : Wiring) (cost : ℕ → ℕ) where
  one_at_least : (at o : ℕ) → 1 ≤ crossing_cost net cost at o
  one_at_least at o = go (net.target at o) refl
    where
      go : (t : Option ConnectionEnd) → net.target at o ≡ t → 1 ≤ crossing_cost net cost at o
      go None e = rw (crossing_cost, e) (omega arith)
      go (Some far) e = rw (crossing_cost, e) (omega arith)

  module _ (es : List Element) (is : IsCost net cost es) where
    abbrev Here : RunState → Type 0
    Here w = Kept SameFixed es w.elements

    pushed_here : (d : ℕ) (w : RunState) (at o : ℕ) (p : Packet) → Here w → Here (push net d w at o p)
    pushed_here d w at o p h = kept-on Anywhere SameFixed fixed-relates es w.elements _ h (push-kept Anywhere SameFixed fixed-relates net (whole net) d w at o p tt)

    spread-cost : (d at : ℕ) (p : Packet)
        → ((v : RunState) (o : ℕ) → Here v → crossing_cost net cost at o ≤ v.left → v.left ≤ d → Spends v (push net d v at o p) (crossing_cost net cost at o))
        → (count first : ℕ) (w : RunState) → Here w → outputs_cost net cost at count first ≤ w.left → w.left ≤ d
        → Spends w (sent net d at p count first w) (outputs_cost net cost at count first)
    spread-cost d at p ih zero first w h k l = record { overruns = refl; left = omega arith }
    spread-cost d at p ih (suc n) first w h k l =
        let one = ih w first h (omega (arith, k)) l in
        let v = push net d w at first p in
        let rest =
        spread-cost d at p ih n (first + 1) v (pushed_here d w at first p h) (omega (arith, k, one.left)) (omega (arith, l, push-left net d w at first p)) in
        record { overruns = rest.overruns ∙ one.overruns; left = omega (arith, one.left, rest.left) }

    pub push-cost : (d : ℕ) (w : RunState) (at o : ℕ) (p : Packet) → Here w → crossing_cost net cost at o ≤ w.left → w.left ≤ d
        → Spends w (push net d w at o p) (crossing_cost net cost at o)
    push-cost zero w at o p h k l = absurd (omega (arith, k, l, one_at_least at o))
    push-cost (suc d) w at o p h k l = go (λ v e x q i j m. push-cost d v e x q i j m) (net.target at o) refl
      where
        some : 0 < w.left
        some = omega (arith, k, one_at_least at o)

        go : ((v : RunState) (e x : ℕ) (q : Packet) → Here v → crossing_cost net cost e x ≤ v.left → v.left ≤ d → Spends v (push net d v e x q) (crossing_cost net cost e x))
            → (t : Option ConnectionEnd) → net.target at o ≡ t → Spends w (push net (suc d) w at o p) (crossing_cost net cost at o)
        go ih None e = rw (push-unconnected net w at o (suc d) d p refl some e) (record { overruns = refl; left = omega (arith, one_at_least at o) })
        go ih (Some far) e =
            let whole_cost : crossing_cost net cost at o ≡ 1 + cost far.element = rw (crossing_cost, e) refl in
            let now = element_at w far.element in
            let then = get_or es far.element blank in
            let alike : fixed now ≡ fixed then = h.each far.element in
            let a = acted_at (spent w) far.element far.port p in
            let bound : outputs_cost net cost far.element a.outputs.count a.outputs.first ≤ cost far.element =
            rw (ap (λ (f : Element). f.outputs) alike) (is.each far.element now.state (ap (λ (f : Element). f.state) alike) far.port p) in
            let to = with_state (spent w) far.element a.state in
            let there = kept-on Anywhere SameFixed fixed-relates es w.elements _ h
            (kept-set Anywhere SameFixed fixed-relates w.elements far.element a.state (fixed-relates.pushed far.element far.port now p tt)) in
            let rest =
            spread-cost d far.element a.packet (λ v x. ih v far.element x a.packet) a.outputs.count a.outputs.first to there
            (omega (arith, k, whole_cost, bound)) (omega (arith, l, some)) in
            rw (push-some net w at o (suc d) d p far refl some e)
            (record { overruns = rest.overruns; left = omega (arith, rest.left, bound, whole_cost, some) })

-- a packet that enters has no overrun if its cost is at most the crossings of a packet run
pub arrive-cost : (cost : ℕ → ℕ) (v : Plant) → IsCost (wiring v) cost v.elements → (device : List ℕ) (p : Packet)
    → ((at : ℕ) → source_of v device ≡ Some at → crossing_cost (wiring v) cost at 0 ≤ most_crossings) → (arrive v device p).overruns ≡ v.overruns
arrive-cost cost v is device p h = go (source_of v device) refl
  where
    go : (o : Option ℕ) → source_of v device ≡ o → (arrive v device p).overruns ≡ v.overruns
    go None e = rw (arrive, e) refl
    go (Some at) e =
        rw (arrive, e)
        (push-cost (wiring v) cost v.elements is most_crossings (begin most_crossings v) at 0 p
        (kept-same Anywhere SameFixed fixed-relates v.elements) (h at e) (omega arith)).overruns

pub push-within : (net : Wiring) (cost : ℕ → ℕ) (w : RunState) → IsCost net cost w.elements → (depth at output : ℕ) (p : Packet)
    → crossing_cost net cost at output ≤ w.left → w.left ≤ depth → (push net depth w at output p).overruns ≡ w.overruns
push-within net cost w is depth at output p k l =
    (push-cost net cost w.elements is depth w at output p (kept-same Anywhere SameFixed fixed-relates w.elements) k l).overruns

pub push-spends : (net : Wiring) (cost : ℕ → ℕ) (w : RunState) → IsCost net cost w.elements → (depth at output : ℕ) (p : Packet)
    → crossing_cost net cost at output ≤ w.left → w.left ≤ depth → w.left ≤ (push net depth w at output p).left + crossing_cost net cost at output
push-spends net cost w is depth at output p k l =
    (push-cost net cost w.elements is depth w at output p (kept-same Anywhere SameFixed fixed-relates w.elements) k l).left
