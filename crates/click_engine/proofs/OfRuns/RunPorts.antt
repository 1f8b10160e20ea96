-- No packet run reaches a port without a connection.
use Rattle.std.proofs.Common.{◌≡◌, ℕ, zero, suc, ◌+◌, ◌<◌, ◌≤◌, inl, inr, refl, sym, ap, ◌∙◌, length, Option, Some, None, arith}
use Rattle.std.proofs.lemmas.Bool.{cases_lt}
use Rattle.std.proofs.lemmas.Bool.Decides.{nat_tests}
use Rattle.std.proofs.lemmas.List.Elements.{All-get_or}
use Rattle.click_packet.specs.Packet.{Packet}
use Rattle.click_classes.specs.Acts.{after, stored, Stored}
use Rattle.click_classes.specs.declared.ports.Side.TheVariants.{Input, Output}
use Rattle.click_classes.proofs.OfPorts.NamedPorts.{act-there, gives-there, tries-there}
use Rattle.click_ports.specs.Net.{Net}
use Rattle.click_ports.specs.Ports.{used, Has, input, output, joined_port}
use Rattle.click_ports.proofs.PortUses.{has-end}
use Rattle.click_engine.specs.InOrder.{AreInOrder, JoinsToo}
use Rattle.click_engine.specs.Run.{push, pull, sent, given, asked, Pulled}
use Rattle.click_engine.specs.Adjacency.{end_of, wiring_of}
use Rattle.click_engine.specs.RunState.{Wiring, RunState, element_at, with_state, acted_at, given_at, tries_at, spent, blank}
use Rattle.click_engine.proofs.OfInvariants.PortFit.{Fits}
use Rattle.click_engine.proofs.OfInvariants.PlantOrder.{acted-in-order, given-in-order, push-in-order, pull-in-order}
use Rattle.click_engine.proofs.OfPlants.ConnectedPorts.{Followed, joined-at, port-there, outputs-within, inputs-within}
use Rattle.click_engine.proofs.OfRuns.RunSteps.{push-none, push-some, pull-none, pull-stored, pull-asks, ask-none, ask-some}

after-within : (ports port : ℕ) → port < ports → after ports port < ports
after-within ports port h = grind (arith, nat_tests)

module _ (net : Net) (other : Wiring) (more : JoinsToo (wiring_of net) other) where
  -- an element with an index in the net fits its ports
  fits-at : (w : RunState) (at : ℕ) → AreInOrder net w.elements → at < length w.elements → Fits (element_at w at)
  fits-at w at h inside = All-get_or Fits w.elements at blank inside h.fitting

  spread-same : (d at : ℕ) (p : Packet) → ((v : RunState) (o : ℕ) → AreInOrder net v.elements → Has net.connections (output at o) → push other d v at o p ≡ push (wiring_of net) d v at o p)
      → (count first : ℕ) (w : RunState) → AreInOrder net w.elements → (0 < count → first + count ≤ used net.connections at Output)
      → sent other d at p count first w ≡ sent (wiring_of net) d at p count first w
  spread-same d at p ih zero first w h t = refl
  spread-same d at p ih (suc n) first w h t =
      let whole : first + suc n ≤ used net.connections at Output = t (omega arith) in
      let here = ih w first h (omega (arith, whole)) in
      ap (λ v. sent other d at p n (first + 1) v) here
      ∙ spread-same d at p ih n (first + 1) (push (wiring_of net) d w at first p) (push-in-order net (wiring_of net) d w at first p h) (λ k. omega (arith, whole))

  push-same : (d : ℕ) (w : RunState) (at o : ℕ) (p : Packet) → AreInOrder net w.elements → Has net.connections (output at o) → push other d w at o p ≡ push (wiring_of net) d w at o p
  push-same zero w at o p h i = push-none other w at o zero p (inl refl) ∙ sym (push-none (wiring_of net) w at o zero p (inl refl))
  push-same (suc d) w at o p h i = elim (cases_lt 0 w.left) [
    | inr none ↦ push-none other w at o (suc d) p (inr (omega arith)) ∙ sym (push-none (wiring_of net) w at o (suc d) p (inr (omega arith)))
    | inl some ↦ go some (λ v e x q. push-same d v e x q)
  ]
    where
      go : 0 < w.left → ((v : RunState) (e x : ℕ) (q : Packet) → AreInOrder net v.elements → Has net.connections (output e x) → push other d v e x q ≡ push (wiring_of net) d v e x q)
          → push other (suc d) w at o p ≡ push (wiring_of net) (suc d) w at o p
      go some ih =
          let f = joined-at Output Input net.shapes net.connections at o h.lawful.lawful i in
          let far = end_of Input f.by in
          let has = has-end net.connections f.by Input f.there in
          let inside = port-there net w.elements h (joined_port Input f.by) has in
          let place = h.placed far.element inside in
          let e = element_at (spent w) far.element in
          let a = acted_at (spent w) far.element far.port p in
          let named = act-there e.inputs e.outputs far.port e.state p (fits-at w far.element h inside) (omega (arith, has, place.inputs)) in
          push-some other w at o (suc d) d p far refl some (more.target at o far f.leads)
          ∙ spread-same d far.element a.packet (λ v x. ih v far.element x a.packet) a.outputs.count a.outputs.first (with_state (spent w) far.element a.state)
          (acted-in-order net (spent w) far.element far.port p h) (λ k. omega (arith, named k, place.outputs))
          ∙ sym (push-some (wiring_of net) w at o (suc d) d p far refl some f.leads)

  given-same : (d : ℕ) (w : RunState) (at i : ℕ) (p : Packet) → AreInOrder net w.elements → at < length w.elements → given other d at w i p ≡ given (wiring_of net) d at w i p
  given-same d w at i p h inside =
      let e = element_at w at in
      let g = given_at w at i p in
      let named = gives-there e.inputs e.outputs i e.state p in
      ap (λ v. let r : Pulled = record { run_state = v; packet = (given (wiring_of net) d at w i p).packet } in r)
      (spread-same d at g.packet (λ v x k l. push-same d v at x g.packet k l) g.copies.count g.copies.first (with_state w at g.state) (given-in-order net w at i p h)
      (λ k. omega (arith, named k, (h.placed at inside).outputs)))

  asked-same : (d at ins : ℕ) → at < length net.shapes → ins ≤ used net.connections at Input
      → ((v : RunState) (i : ℕ) → AreInOrder net v.elements → Has net.connections (input at i) → pull other d v at i ≡ pull (wiring_of net) d v at i)
      → (n i : ℕ) (w : RunState) → AreInOrder net w.elements → (0 < n → i < ins) → asked other d at ins n i w ≡ asked (wiring_of net) d at ins n i w
  asked-same d at ins inside most ih zero i w h t = refl
  asked-same d at ins inside most ih (suc n) i w h t =
      go (pull (wiring_of net) d w at i).packet refl
      (asked-same d at ins inside most ih n (after ins i) (pull (wiring_of net) d w at i).run_state (pull-in-order net (wiring_of net) d w at i h) (λ k. after-within ins i (t (omega arith))))
    where
      same : pull other d w at i ≡ pull (wiring_of net) d w at i
      same = ih w i h (let below : i < ins = t (omega arith) in omega (arith, below, most))

      go : (o : Option Packet) → (pull (wiring_of net) d w at i).packet ≡ o
          → asked other d at ins n (after ins i) (pull (wiring_of net) d w at i).run_state ≡ asked (wiring_of net) d at ins n (after ins i) (pull (wiring_of net) d w at i).run_state
          → asked other d at ins (suc n) i w ≡ asked (wiring_of net) d at ins (suc n) i w
      go None e rest =
          ask-none (λ v x. pull other d v at x) (λ v x q. given other d at v x q) ins (suc n) n i w refl (ap (λ (r : Pulled). r.packet) same ∙ e)
          ∙ ap (λ (r : Pulled). asked other d at ins n (after ins i) r.run_state) same
          ∙ rest
          ∙ sym (ask-none (λ v x. pull (wiring_of net) d v at x) (λ v x q. given (wiring_of net) d at v x q) ins (suc n) n i w refl e)
      go (Some p) e rest =
          let v = (pull (wiring_of net) d w at i).run_state in
          let order = pull-in-order net (wiring_of net) d w at i h in
          ask-some (λ u x. pull other d u at x) (λ u x q. given other d at u x q) ins (suc n) n i w p refl (ap (λ (r : Pulled). r.packet) same ∙ e)
          ∙ ap (λ (r : Pulled). given other d at r.run_state i p) same
          ∙ given-same d v at i p order (omega (arith, inside, order.count))
          ∙ sym (ask-some (λ u x. pull (wiring_of net) d u at x) (λ u x q. given (wiring_of net) d at u x q) ins (suc n) n i w p refl e)

  pull-same : (d : ℕ) (w : RunState) (at i : ℕ) → AreInOrder net w.elements → Has net.connections (input at i) → pull other d w at i ≡ pull (wiring_of net) d w at i
  pull-same zero w at i h k = pull-none other w at i zero (inl refl) ∙ sym (pull-none (wiring_of net) w at i zero (inl refl))
  pull-same (suc d) w at i h k = elim (cases_lt 0 w.left) [
    | inr none ↦ pull-none other w at i (suc d) (inr (omega arith)) ∙ sym (pull-none (wiring_of net) w at i (suc d) (inr (omega arith)))
    | inl some ↦ go some (λ v e x. pull-same d v e x)
  ]
    where
      go : 0 < w.left → ((v : RunState) (e x : ℕ) → AreInOrder net v.elements → Has net.connections (input e x) → pull other d v e x ≡ pull (wiring_of net) d v e x)
          → pull other (suc d) w at i ≡ pull (wiring_of net) (suc d) w at i
      go some ih = by_stored (stored (element_at (spent w) (end_of Output f.by).element).state) refl
        where
          f : Followed Input Output net.connections at i
          f = joined-at Input Output net.shapes net.connections at i h.lawful.lawful k

          by_stored : (o : Option Stored) → stored (element_at (spent w) (end_of Output f.by).element).state ≡ o → pull other (suc d) w at i ≡ pull (wiring_of net) (suc d) w at i
          by_stored (Some s) is =
              pull-stored other w at i (suc d) d (end_of Output f.by) s refl some (more.source at i (end_of Output f.by) f.leads) is
              ∙ sym (pull-stored (wiring_of net) w at i (suc d) d (end_of Output f.by) s refl some f.leads is)
          by_stored None is =
              let far = end_of Output f.by in
              let has = has-end net.connections f.by Output f.there in
              let inside = port-there net w.elements h (joined_port Output f.by) has in
              let place = h.placed far.element inside in
              let e = element_at (spent w) far.element in
              let t = tries_at (spent w) far.element far.port in
              let named = tries-there e.inputs e.outputs far.port e.state (fits-at w far.element h inside) (omega (arith, has, place.outputs)) in
              pull-asks other w at i (suc d) d far refl some (more.source at i far f.leads) is
              ∙ asked-same d far.element e.inputs (omega (arith, inside, h.count)) (omega (arith, place.inputs)) (λ v x. ih v far.element x) t.count t.first (spent w) h (λ c. (named c).0)
              ∙ sym (pull-asks (wiring_of net) w at i (suc d) d far refl some f.leads is)

  pub none-missed-by-push : (w : RunState) → AreInOrder net w.elements → (d at o : ℕ) (p : Packet) → o < (element_at w at).outputs → push other d w at o p ≡ push (wiring_of net) d w at o p
  none-missed-by-push w h d at o p i = push-same d w at o p h (outputs-within net w.elements h at o i)

  pub none-missed-by-pull : (w : RunState) → AreInOrder net w.elements → (d at i : ℕ) → i < (element_at w at).inputs → pull other d w at i ≡ pull (wiring_of net) d w at i
  none-missed-by-pull w h d at i k = pull-same d w at i h (inputs-within net w.elements h at i k)
