-- Packet runs preserve the properties that every packet preserves of an element.
use Rattle.std.proofs.Common.{◌≡◌, ℕ, zero, suc, ◌+◌, refl, ap, sym, ◌∙◌, subst, List, [], ◌∷◌, length, map, get_or, Some, arith}
use Rattle.std.proofs.lemmas.List.{get_or_default}
use Rattle.std.proofs.lemmas.List.Elements.{All-nil, All-cons}
use Rattle.std.specs.List.{All}
use Rattle.click_packet.specs.Packet.{Packet}
use Rattle.click_classes.specs.Queues.{IsSound}
use Rattle.click_classes.specs.Settings.{settings}
use Rattle.click_classes.specs.declared.state.State.{State}
use Rattle.click_classes.proofs.OfStates.StateSettings.{act-settings, gives-settings, stored-settings, emission-settings}
use Rattle.click_classes.proofs.OfQueues.QueueSoundness.{act-sound, gives-sound, stored-sound, emission-sound}
use Rattle.click_ports.specs.Net.{Net}
use Rattle.click_engine.specs.declared.run_state.Element.{Element}
use Rattle.click_engine.specs.Keeps.{AllAre, IsClosed, KeepsSettings, KeepsOutside, AreSound, fixed}
use Rattle.click_engine.specs.Plant.{Plant, IsStarted, wiring, element_of, elements_from}
use Rattle.click_engine.specs.Rounds.{arrive, transmit, task, round, source_of, sink_of}
use Rattle.click_engine.specs.RunState.{Wiring, blank}
use Rattle.click_engine.proofs.OfInvariants.RunRelations.{Relates, in_state}
use Rattle.click_engine.proofs.OfInvariants.RoundRelations.{PlantKept, arrive-kept, transmit-kept, task-within, round-kept}

abbrev pub Anywhere : ℕ → Type 0
Anywhere at = Unit {0}

pub anywhere : (places : List ℕ) → AllAre Anywhere places
anywhere [] = tt
anywhere (at ∷ places) = (tt, anywhere places)

pub whole : (net : Wiring) → IsClosed net Anywhere
whole net = record { target = λ at output far h e. tt; source = λ at input far h e. tt }

-- ---- settings

abbrev pub SameFixed : ℕ → Element → Element → Type 0
SameFixed at e f = fixed f ≡ fixed e

same_fixed : (e : Element) (s : State) → settings s ≡ settings e.state → fixed (in_state e s) ≡ fixed e
same_fixed e s h = ap (in_state e) h

pub fixed-relates : Relates Anywhere SameFixed
fixed-relates = record {
  same = λ at e. refl;
  on = λ at e f g h k. k ∙ h;
  pushed = λ at input e p h. same_fixed e _ (act-settings e.outputs input e.state p);
  pulled = λ at input e p h. same_fixed e _ (gives-settings e.inputs e.outputs input e.state p);
  held = λ at e s h is. same_fixed e s.state (stored-settings e.state s is);
  emitted = λ at e s h is. same_fixed e s.state (emission-settings e.state s is);
}

all_fixed : (es fs : List Element) → length fs ≡ length es → ((at : ℕ) → fixed (get_or fs at blank) ≡ fixed (get_or es at blank)) → map fixed fs ≡ map fixed es
all_fixed [] [] n h = refl
all_fixed [] (f ∷ fs) n h = absurd (omega (arith, n))
all_fixed (e ∷ es) [] n h = absurd (omega (arith, n))
all_fixed (e ∷ es) (f ∷ fs) n h =
    ap (λ x. x ∷ map fixed fs) (h zero) ∙ ap (λ xs. fixed e ∷ xs) (all_fixed es fs (omega (arith, n)) (λ at. h (suc at)))

settings_of : (v w : Plant) → PlantKept SameFixed v w → KeepsSettings v w
settings_of v w h = record { rest = h.rest; elements = all_fixed v.elements w.elements h.elements.count h.elements.each }

pub arrive-settings : (v : Plant) (device : List ℕ) (p : Packet) → KeepsSettings v (arrive v device p)
arrive-settings v device p = settings_of v _ (arrive-kept Anywhere SameFixed fixed-relates v (whole (wiring v)) device p (λ at e. tt))

pub transmit-settings : (v : Plant) (device : List ℕ) → KeepsSettings v (transmit v device)
transmit-settings v device = settings_of v _ (transmit-kept Anywhere SameFixed fixed-relates v (whole (wiring v)) device (λ at e. tt))

pub round-settings : (v : Plant) → KeepsSettings v (round v).plant
round-settings v = settings_of v _ (round-kept Anywhere SameFixed fixed-relates v (whole (wiring v)) (anywhere v.tasks))

-- ---- queues

-- a property that each element preserves holds of all of them
pub all_after : (Q : Element → Type 0) (es fs : List Element) → length fs ≡ length es → ((at : ℕ) → Q (get_or es at blank) → Q (get_or fs at blank)) → All Q es → All Q fs
all_after Q es fs count each h k d inside = subst Q (get_or_default fs k blank d inside) (each k (h k blank (omega (arith, inside, count))))

abbrev pub SoundAfter : ℕ → Element → Element → Type 0
SoundAfter at e f = IsSound e.state → IsSound f.state

pub sound-relates : Relates Anywhere SoundAfter
sound-relates = record {
  same = λ at e k. k;
  on = λ at e f g h k s. k (h s);
  pushed = λ at input e p h. act-sound e.outputs input e.state p;
  pulled = λ at input e p h. gives-sound e.inputs e.outputs input e.state p;
  held = λ at e s h is. stored-sound e.state s is;
  emitted = λ at e s h is. emission-sound e.state s is;
}

sound_of : (v w : Plant) → PlantKept SoundAfter v w → AreSound v → AreSound w
sound_of v w h = all_after (λ (e : Element). IsSound e.state) v.elements w.elements h.elements.count h.elements.each

pub arrive-sound : (v : Plant) (device : List ℕ) (p : Packet) → AreSound v → AreSound (arrive v device p)
arrive-sound v device p = sound_of v _ (arrive-kept Anywhere SoundAfter sound-relates v (whole (wiring v)) device p (λ at e. tt))

pub transmit-sound : (v : Plant) (device : List ℕ) → AreSound v → AreSound (transmit v device)
transmit-sound v device = sound_of v _ (transmit-kept Anywhere SoundAfter sound-relates v (whole (wiring v)) device (λ at e. tt))

pub round-sound : (v : Plant) → AreSound v → AreSound (round v).plant
round-sound v = sound_of v _ (round-kept Anywhere SoundAfter sound-relates v (whole (wiring v)) (anywhere v.tasks))

pub started-sound : (net : Net) (at : ℕ) (states : List State) → All IsSound states → All (λ (e : Element). IsSound e.state) (elements_from net at states)
started-sound net at [] h = All-nil (λ (e : Element). IsSound e.state)
started-sound net at (s ∷ ss) h =
    All-cons (λ (e : Element). IsSound e.state) (element_of net at s) (elements_from net (at + 1) ss) (h zero s (omega arith))
    (started-sound net (at + 1) ss (λ k d inside. h (suc k) d (omega (arith, inside))))

pub begins-sound : (net : Net) (states : List State) (v : Plant) → IsStarted net states v → All IsSound states → AreSound v
begins-sound net states v is h = subst (λ es. All (λ (e : Element). IsSound e.state) es) (sym is.elements_are) (started-sound net 0 states h)

-- ---- reachable elements

abbrev UnlessReached : (ℕ → Type 0) → ℕ → Element → Element → Type 0
UnlessReached P at e f = (P at → ⊥) → f ≡ e

reach-relates : (P : ℕ → Type 0) → Relates P (UnlessReached P)
reach-relates P = record {
  same = λ at e n. refl;
  on = λ at e f g h k n. k n ∙ h n;
  pushed = λ at input e p h n. absurd (n h);
  pulled = λ at input e p h n. absurd (n h);
  held = λ at e s h is n. absurd (n h);
  emitted = λ at e s h is n. absurd (n h);
}

outside_of : (P : ℕ → Type 0) (v w : Plant) → PlantKept (UnlessReached P) v w → KeepsOutside P v w
outside_of P v w h = record { rest = h.rest; count = h.elements.count; others = h.elements.each }

module _ (P : ℕ → Type 0) (v : Plant) (closed : IsClosed (wiring v) P) where
  pub arrive-outside : (device : List ℕ) (p : Packet) → ((at : ℕ) → source_of v device ≡ Some at → P at) → KeepsOutside P v (arrive v device p)
  arrive-outside device p h = outside_of P v _ (arrive-kept P (UnlessReached P) (reach-relates P) v closed device p h)

  pub transmit-outside : (device : List ℕ) → ((at : ℕ) → sink_of v device ≡ Some at → P at) → KeepsOutside P v (transmit v device)
  transmit-outside device h = outside_of P v _ (transmit-kept P (UnlessReached P) (reach-relates P) v closed device h)

  pub task-outside : (at : ℕ) → P at → KeepsOutside P v (task v at).plant
  task-outside at h = outside_of P v _ (task-within P (UnlessReached P) (reach-relates P) v closed at h)

  pub round-outside : AllAre P v.tasks → KeepsOutside P v (round v).plant
  round-outside h = outside_of P v _ (round-kept P (UnlessReached P) (reach-relates P) v closed h)
