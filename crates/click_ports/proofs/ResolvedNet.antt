-- The net that `resolve` returns.
use Rattle.std.proofs.Common.{◌≡◌, ◌⊎◌, inl, inr, ℕ, ◌<◌, ◌≤◌, List, length, get_or, map, Bool, true, false, ◌&&◌, Some, refl, sym, ap, ◌∙◌, subst, arith, ◌++◌, Option, [], ◌∷◌}
use Rattle.std.specs.Prelude.{filter, nat_lt, ◌↔◌}
use Rattle.std.proofs.lemmas.List.{length-map, map_push}
use Rattle.std.proofs.lemmas.List.Elements.{filter_passes, All-weaker}
use Rattle.std.proofs.lemmas.Bool.Decides.{nat_tests}
use Rattle.click_base.specs.declared.class.Class.{Class}
use Rattle.click_classes.specs.declared.state.State.{State}
use Rattle.click_classes.specs.declared.ports.Code.TheVariants.{Pull}
use Rattle.click_classes.specs.State.{class}
use Rattle.click_expand.specs.declared.flat.FlatElement.{FlatElement}
use Rattle.click_expand.specs.declared.flat.Connection.{Connection}
use Rattle.click_expand.specs.declared.flat.Flat.{Flat}
use Rattle.click_ports.specs.declared.fault.PortFault.{PortFault}
use Rattle.click_ports.specs.declared.port.Port.{Port}
use Rattle.click_ports.specs.declared.shape.Shape.{Shape}
use Rattle.click_ports.specs.Breaches.{IsFirstBreach}
use Rattle.click_ports.specs.kept.Nets.{KeepsNet}
use Rattle.click_ports.specs.Kinds.{IsPull}
use Rattle.click_ports.specs.Lawful.{Lawful, AllCounted, AllConnected, NoneMixed, AllSingle}
use Rattle.click_ports.specs.kept.Marks.{AreMarks}
use Rattle.click_ports.specs.Net.{IsLawfulNet, Net, shape_of, is_there, joined, names_of, AreStatesOf}
use Rattle.click_ports.specs.Ports.{Has, used, port_index}
use Rattle.click_ports.specs.kept.Wiring.{Wiring, AreWithin}
use Rattle.click_ports.proofs.Lawfulness.{lawful-none}
use Rattle.click_ports.proofs.FirstBreach.{mark-read}
use Rattle.click_ports.proofs.PortUses.{has-within}

there_by : (a b n : ℕ) (t u : Bool) → nat_lt a n ≡ t → nat_lt b n ≡ u → (t && u) ≡ true → (a < n) × (b < n)
there_by a b n true true p q h = (grind (arith, nat_tests), grind (arith, nat_tests))
there_by a b n true false p q h = absurd (cc h)
there_by a b n false u p q h = absurd (cc h)

pub one-each : (es : List FlatElement) (states : List State) → AreStatesOf es states → length states ≡ length es
one-each es states h =
    sym (length-map states class) ∙ sym (ap length h) ∙ length-map es (λ (e : FlatElement). e.class)

pub joined-within : (es : List FlatElement) (states : List State) (cs kept : List Connection) (shapes : List Shape) (n : ℕ) → AreStatesOf es states → shapes ≡ map shape_of states → n ≡ length es → kept ≡ filter (is_there n) cs →
    AreWithin (length shapes) kept
joined-within es states cs kept shapes n h p q r =
    let same : n ≡ length shapes = q ∙ sym (one-each es states h) ∙ sym (length-map states shape_of) ∙ ap length (sym p) in
    subst (λ m. AreWithin m kept) same
    (subst (AreWithin n) (sym r)
    (All-weaker (λ c. is_there n c ≡ true) (λ (c : Connection). (c.from < n) × (c.to < n)) (λ c t. there_by c.from c.to n (nat_lt c.from n) (nat_lt c.to n) refl refl t)
    (filter (is_there n) cs) (filter_passes (is_there n) cs)))

-- a layout of the shapes and connections of a flat form
pub record IsOf (f : Flat) (states : List State) (w : Wiring) : Type 0 where
  pub shapes : w.shapes ≡ map shape_of states
  pub connections : w.connections ≡ joined f

pub laid-of : (f : Flat) (states : List State) (w : Wiring) (es : List FlatElement) (cs kept : List Connection) (shapes : List Shape) (n : ℕ) → es ≡ f.elements → cs ≡ f.connections → n ≡ length es →
    kept ≡ filter (is_there n) cs → shapes ≡ map shape_of states → ◌≡◌ {A = Wiring} w (record { shapes = shapes; connections = kept }) → IsOf f states w
laid-of f states w es cs kept shapes n a b d k s l = record {
  shapes = ap (λ (v : Wiring). v.shapes) l ∙ s;
  connections = ap (λ (v : Wiring). v.connections) l ∙ k ∙ ap (λ m. filter (is_there m) cs) (d ∙ ap length a) ∙ ap (filter (is_there (length f.elements))) b;
}

-- a net with a first breach is not lawful
pub refuted : (f : Flat) (states : List State) (w : Wiring) (fault : PortFault) → IsOf f states w → IsFirstBreach w.shapes w.connections fault → Lawful (map shape_of states) (joined f) → ⊥
refuted f states w fault o b k =
    lawful-none w.shapes w.connections fault (subst (λ cs. Lawful w.shapes cs) (sym o.connections) (subst (λ ss. Lawful ss (joined f)) (sym o.shapes) k)) b.breach

pub told-of : (f : Flat) (states : List State) (w : Wiring) (fault : PortFault) → IsOf f states w → IsFirstBreach w.shapes w.connections fault → IsFirstBreach (map shape_of states) (joined f) fault
told-of f states w fault o b = subst (λ cs. IsFirstBreach (map shape_of states) cs fault) o.connections (subst (λ ss. IsFirstBreach ss w.connections fault) o.shapes b)

pub kept-made : (es : List FlatElement) (states : List State) (names : List (List ℕ)) (w : Wiring) (pulls : List Bool) → AreStatesOf es states → names ≡ names_of es → w.shapes ≡ map shape_of states → AreWithin (length w.shapes) w.connections →
    AllCounted w.shapes w.connections → AllConnected w.connections → NoneMixed w.shapes w.connections → AllSingle w.shapes w.connections → AreMarks w Pull pulls → KeepsNet names w pulls
kept-made es states names w pulls h p q i a b d s m = record {
  sound = record {
    named = ap length p ∙ length-map es (λ (e : FlatElement). e.name) ∙ sym (one-each es states h) ∙ sym (length-map states shape_of) ∙ ap length (sym q);
    within = i;
    lawful = record { counted = a; connected = b; unmixed = d; single = s };
  };
  pulls = m;
}

-- no port exists after the last element, or after the last port of an element
pub has-not : (n : Net) (p : Port) (len count : ℕ) → IsLawfulNet n → len ≡ length n.shapes → (len ≤ p.element) ⊎ ((count ≡ used n.connections p.element p.side) × (count ≤ p.number)) → Has n.connections p → ⊥
has-not n p len count k e (inl l) h = let b = has-within (length n.shapes) n.connections p k.within h in omega (arith, b, l, e)
has-not n p len count k e (inr (c, l)) h = omega (arith, h, l, c)

-- the mark at a port's number
pub pull-read : (n : Net) (names : List (List ℕ)) (w : Wiring) (pulls : List Bool) (p : Port) (i : ℕ) (b : Bool) → ◌≡◌ {A = Net} (record { names = names; shapes = w.shapes; connections = w.connections }) n →
    KeepsNet names w pulls → Has n.connections p → i ≡ port_index w.connections p → i < length pulls → b ≡ get_or pulls i b → (b ≡ true) ↔ IsPull n.shapes n.connections p
pull-read n names w pulls p i b seen k h e l r =
    let here : Has w.connections p = subst (λ (m : Net). Has m.connections p) (sym seen) h in
    let is : get_or pulls (port_index w.connections p) false ≡ b = mark-read pulls i (port_index w.connections p) b (sym e) l r in
    let m = k.pulls.right p here in
    let there : IsPull w.shapes w.connections p → IsPull n.shapes n.connections p = λ t. subst (λ (v : Net). IsPull v.shapes v.connections p) seen t in
    let back : IsPull n.shapes n.connections p → IsPull w.shapes w.connections p = λ t. subst (λ (v : Net). IsPull v.shapes v.connections p) (sym seen) t in
    ((λ t. there (m.0 (is ∙ t))), (λ t. sym is ∙ m.1 (back t)))

-- one more element, with a state of its class
pub states-more : (es made : List FlatElement) (states more : List State) (e : FlatElement) (s : State) → made ≡ es ++ e ∷ [] → more ≡ states ++ s ∷ [] → e.class ≡ class s →
    AreStatesOf es states → AreStatesOf made more
states-more es made states more e s a b k h =
    let f : FlatElement → Class = λ x. x.class in
    let g : State → Class = class in
    ap (map f) a ∙ map_push f es e ∙ ap (λ c. map f es ++ c ∷ []) k ∙ ap (λ xs. xs ++ g s ∷ []) h ∙ sym (map_push g states s) ∙ ap (map g) (sym b)
