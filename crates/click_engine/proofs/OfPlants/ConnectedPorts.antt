-- In a lawful net each port of an element is connected to a port of an element.
use Rattle.std.proofs.Common.{◌≡◌, ℕ, zero, suc, ◌<◌, inl, inr, Bool, true, false, refl, sym, ap, ◌∙◌, List, [], ◌∷◌, length, get_or, Contains, Some, arith}
use Rattle.std.proofs.lemmas.Bool.{cases_lt}
use Rattle.std.proofs.lemmas.List.{get_or_past}
use Rattle.click_classes.specs.declared.ports.Side.{Side}
use Rattle.click_classes.specs.declared.ports.Side.TheVariants.{Input, Output}
use Rattle.click_expand.specs.declared.flat.Connection.{Connection}
use Rattle.click_ports.specs.declared.port.Port.{Port as NetPort}
use Rattle.click_ports.specs.declared.shape.Shape.{Shape}
use Rattle.click_ports.specs.Kinds.{IsPull, IsPush}
use Rattle.click_ports.specs.Lawful.{Lawful}
use Rattle.click_ports.specs.Net.{Net}
use Rattle.click_ports.specs.Ports.{Has, input, output, joined_port}
use Rattle.click_ports.proofs.OneConnection.{both_equal, equal_both, has-connection, one-target, one-source}
use Rattle.click_ports.proofs.PortUses.{has-end, has-within}
use Rattle.click_engine.specs.declared.run_state.Element.{Element}
use Rattle.click_engine.specs.declared.run_state.ConnectionEnd.{ConnectionEnd}
use Rattle.click_engine.specs.InOrder.{AreInOrder}
use Rattle.click_engine.specs.Adjacency.{end_of, is_port, first_joined, wiring_of}
use Rattle.click_engine.specs.RunState.{blank}

-- ---- connections

abbrev pub port_at : Side → ℕ → ℕ → NetPort
port_at s at n = record { element = at; side = s; number = n }

ends_there : (s : Side) (c : Connection) (at n : ℕ) → is_port (end_of s c) at n ≡ true → joined_port s c ≡ port_at s at n
ends_there Input c at n t = let both = equal_both c.to c.in_port at n t in ap (λ e. input e c.in_port) both.0 ∙ ap (λ k. input at k) both.1
ends_there Output c at n t = let both = equal_both c.from c.out_port at n t in ap (λ e. output e c.out_port) both.0 ∙ ap (λ k. output at k) both.1

is_end : (s : Side) (c : Connection) (at n : ℕ) → joined_port s c ≡ port_at s at n → is_port (end_of s c) at n ≡ true
is_end Input c at n e = both_equal c.to c.in_port at n (ap (λ (q : NetPort). q.element) e) (ap (λ (q : NetPort). q.number) e)
is_end Output c at n e = both_equal c.from c.out_port at n (ap (λ (q : NetPort). q.element) e) (ap (λ (q : NetPort). q.number) e)

-- the connection that a push or a pull at a port follows
pub record Followed (near far : Side) (cs : List Connection) (at n : ℕ) : Type 0 where
  pub by : Connection
  pub there : Contains cs by
  pub near_end : is_port (end_of near by) at n ≡ true
  pub leads : first_joined near far cs at n ≡ Some (end_of far by)

followed : (near far : Side) (cs : List Connection) (at n : ℕ) (c : Connection) → Contains cs c → is_port (end_of near c) at n ≡ true → Followed near far cs at n
followed near far [] at n c (k, l, e) t = absurd (omega (arith, l))
followed near far (x ∷ xs) at n c inside t = go (is_port (end_of near x) at n) refl inside (λ k. followed near far xs at n c k t)
  where
    go : (b : Bool) → is_port (end_of near x) at n ≡ b → Contains (x ∷ xs) c → (Contains xs c → Followed near far xs at n) → Followed near far (x ∷ xs) at n
    go true e k rest = record { by = x; there = (0, omega arith, refl); near_end = e; leads = rw e refl }
    go false e (zero, l, is) rest = let no : false ≡ true = sym e ∙ ap (λ y. is_port (end_of near y) at n) is ∙ t in cc no
    go false e (suc k, l, is) rest =
        let f = rest (k, omega (arith, l), is) in
        record { by = f.by; there = (suc f.there.0, omega (arith, f.there.1), f.there.2); near_end = f.near_end; leads = rw e f.leads }

pub joined-at : (near far : Side) (ss : List Shape) (cs : List Connection) (at n : ℕ) → Lawful ss cs → Has cs (port_at near at n) → Followed near far cs at n
joined-at near far ss cs at n k h =
    let (c, there, e) = has-connection ss cs (port_at near at n) k h in
    followed near far cs at n c there (is_end near c at n e)

-- a push output, or a pull input, is connected to the end that its connection names
pub target-named : (ss : List Shape) (cs : List Connection) (c : Connection) → Lawful ss cs → Contains cs c → IsPush ss cs (joined_port Output c)
    → first_joined Output Input cs c.from c.out_port ≡ Some (end_of Input c)
target-named ss cs c k there push =
    let f = followed Output Input cs c.from c.out_port c there (is_end Output c c.from c.out_port refl) in
    let same = one-target ss cs c f.by k there f.there (sym (ends_there Output f.by c.from c.out_port f.near_end)) push in
    f.leads ∙ ap (λ d. Some (end_of Input d)) (sym same)

pub source-named : (ss : List Shape) (cs : List Connection) (c : Connection) → Lawful ss cs → Contains cs c → IsPull ss cs (joined_port Input c)
    → first_joined Input Output cs c.to c.in_port ≡ Some (end_of Output c)
source-named ss cs c k there pull =
    let f = followed Input Output cs c.to c.in_port c there (is_end Input c c.to c.in_port refl) in
    let same = one-source ss cs c f.by k there f.there (sym (ends_there Input f.by c.to c.in_port f.near_end)) pull in
    f.leads ∙ ap (λ d. Some (end_of Output d)) (sym same)

-- ---- elements

module _ (net : Net) (es : List Element) (h : AreInOrder net es) where
  pub outputs-within : (at o : ℕ) → o < (get_or es at blank).outputs → Has net.connections (output at o)
  outputs-within at o i = elim (cases_lt at (length es)) [
    | inl inside ↦ omega (arith, i, (h.placed at inside).outputs)
    | inr past ↦ (let none : (get_or es at blank).outputs ≡ 0 = ap (λ (e : Element). e.outputs) (get_or_past es at blank past) in absurd (omega (arith, i, none)))
  ]

  pub inputs-within : (at i : ℕ) → i < (get_or es at blank).inputs → Has net.connections (input at i)
  inputs-within at i k = elim (cases_lt at (length es)) [
    | inl inside ↦ omega (arith, k, (h.placed at inside).inputs)
    | inr past ↦ (let none : (get_or es at blank).inputs ≡ 0 = ap (λ (e : Element). e.inputs) (get_or_past es at blank past) in absurd (omega (arith, k, none)))
  ]

  pub port-there : (p : NetPort) → Has net.connections p → p.element < length es
  port-there p i = let inside = has-within (length net.shapes) net.connections p h.lawful.within i in omega (arith, inside, h.count)

  -- an output is connected to an existing input, and an input to an existing output
  pub target-there : (at o : ℕ) → o < (get_or es at blank).outputs
      → (far : ConnectionEnd) × ((wiring_of net).target at o ≡ Some far) × (far.element < length es) × (far.port < (get_or es far.element blank).inputs)
  target-there at o i =
      let f = joined-at Output Input net.shapes net.connections at o h.lawful.lawful (outputs-within at o i) in
      let has = has-end net.connections f.by Input f.there in
      let inside = port-there (joined_port Input f.by) has in
      (end_of Input f.by, f.leads, inside, omega (arith, has, (h.placed f.by.to inside).inputs))

  pub source-there : (at i : ℕ) → i < (get_or es at blank).inputs
      → (far : ConnectionEnd) × ((wiring_of net).source at i ≡ Some far) × (far.element < length es) × (far.port < (get_or es far.element blank).outputs)
  source-there at i k =
      let f = joined-at Input Output net.shapes net.connections at i h.lawful.lawful (inputs-within at i k) in
      let has = has-end net.connections f.by Output f.there in
      let inside = port-there (joined_port Output f.by) has in
      (end_of Output f.by, f.leads, inside, omega (arith, has, (h.placed f.by.from inside).outputs))
