-- After each packet the state of an element still fits its ports.
use Rattle.std.proofs.Common.{◌≡◌, ℕ, ◌<◌, ◌≤◌, Bool, true, false, Some, refl, sym, ap, ◌∙◌, subst, arith}
use Rattle.std.proofs.lemmas.Bool.Decides.{nat_tests}
use Rattle.click_packet.specs.Packet.{Packet}
use Rattle.click_classes.specs.Acts.{act, pass, gives, stored, emission, after, Stored}
use Rattle.click_classes.specs.Ports.{counts}
use Rattle.click_classes.specs.Fitting.{FitsPorts, HasTurn}
use Rattle.click_classes.specs.Settings.{settings}
use Rattle.click_classes.specs.declared.ports.Counts.{Counts}
use Rattle.click_classes.specs.declared.state.State.{State}
use Rattle.click_classes.specs.declared.state.State.TheVariants as state
use Rattle.click_classes.proofs.OfStates.StateSettings.{act-settings, gives-settings, stored-settings, emission-settings}

-- the classes whose states have a next port
abbrev takes_turns : State → Bool
takes_turns (state.RoundRobinSwitch n) = true
takes_turns (state.RoundRobinSched n) = true
takes_turns s = false

takes-settings : (s : State) → takes_turns (settings s) ≡ takes_turns s
takes-settings (state.Queue q drops highest) = refl
takes-settings _ = refl

counts-settings : (s : State) → counts (settings s) ≡ counts s
counts-settings (state.Queue q drops highest) = refl
counts-settings _ = refl

no-turn : (inputs outputs : ℕ) (s : State) → takes_turns s ≡ false → HasTurn inputs outputs s
no-turn inputs outputs (state.RoundRobinSwitch n) e = cc
no-turn inputs outputs (state.RoundRobinSched n) e = cc
no-turn inputs outputs _ e = tt

-- a state with the same settings as one without a next port has none either
other : (inputs outputs : ℕ) (s t : State) → settings t ≡ settings s → takes_turns s ≡ false → HasTurn inputs outputs t
other inputs outputs s t e f = no-turn inputs outputs t (sym (takes-settings t) ∙ ap takes_turns e ∙ takes-settings s ∙ f)

after-below : (ports port other : ℕ) → other < ports → after ports port < ports
after-below ports port other h = grind (arith, nat_tests)

act-turn : (inputs outputs input : ℕ) (s : State) (p : Packet) → HasTurn inputs outputs s → HasTurn inputs outputs (act outputs s input p).state
unfolding act pass
act-turn inputs outputs input (state.RoundRobinSwitch n) p h = after-below outputs n n h
act-turn inputs outputs input (state.RoundRobinSched n) p h = h
act-turn inputs outputs input s p h = other inputs outputs s (act outputs s input p).state (act-settings outputs input s p) refl

gives-turn : (inputs outputs input : ℕ) (s : State) (p : Packet) → HasTurn inputs outputs s → HasTurn inputs outputs (gives inputs outputs s input p).state
unfolding gives pass
gives-turn inputs outputs input (state.RoundRobinSched n) p h = after-below inputs input n h
gives-turn inputs outputs input (state.RoundRobinSwitch n) p h = h
gives-turn inputs outputs input s p h = other inputs outputs s (gives inputs outputs s input p).state (gives-settings inputs outputs input s p) refl

stored-turn : (inputs outputs : ℕ) (s : State) (e : Stored) → stored s ≡ Some e → HasTurn inputs outputs e.state
unfolding stored
stored-turn inputs outputs (state.RoundRobinSwitch n) e is = cc
stored-turn inputs outputs (state.RoundRobinSched n) e is = cc
stored-turn inputs outputs s e is = other inputs outputs s e.state (stored-settings s e is) refl

emission-turn : (inputs outputs : ℕ) (s : State) (e : Stored) → emission s ≡ Some e → HasTurn inputs outputs e.state
unfolding emission
emission-turn inputs outputs (state.RoundRobinSwitch n) e is = cc
emission-turn inputs outputs (state.RoundRobinSched n) e is = cc
emission-turn inputs outputs s e is = other inputs outputs s e.state (emission-settings s e is) refl

module _ (inputs outputs : ℕ) (s t : State) (same : settings t ≡ settings s) (turn : HasTurn inputs outputs t) (h : FitsPorts inputs outputs s) where
  as_many : counts s ≡ counts t
  as_many = sym (counts-settings s) ∙ ap counts (sym same) ∙ counts-settings t

  still : FitsPorts inputs outputs t
  still = record {
    inputs_from = subst (λ (k : Counts). k.inputs.0 ≤ inputs) as_many h.inputs_from;
    inputs_to = subst (λ (k : Counts). inputs ≤ k.inputs.1) as_many h.inputs_to;
    outputs_from = subst (λ (k : Counts). k.outputs.0 ≤ outputs) as_many h.outputs_from;
    outputs_to = subst (λ (k : Counts). outputs ≤ k.outputs.1) as_many h.outputs_to;
    equal = λ e. h.equal (ap (λ (k : Counts). k.equal) as_many ∙ e);
    turn = turn;
  }

pub act-fits : (inputs outputs input : ℕ) (s : State) (p : Packet) → FitsPorts inputs outputs s → FitsPorts inputs outputs (act outputs s input p).state
act-fits inputs outputs input s p h = still inputs outputs s (act outputs s input p).state (act-settings outputs input s p) (act-turn inputs outputs input s p h.turn) h

pub gives-fits : (inputs outputs input : ℕ) (s : State) (p : Packet) → FitsPorts inputs outputs s → FitsPorts inputs outputs (gives inputs outputs s input p).state
gives-fits inputs outputs input s p h = still inputs outputs s (gives inputs outputs s input p).state (gives-settings inputs outputs input s p) (gives-turn inputs outputs input s p h.turn) h

pub stored-fits : (inputs outputs : ℕ) (s : State) (e : Stored) → stored s ≡ Some e → FitsPorts inputs outputs s → FitsPorts inputs outputs e.state
stored-fits inputs outputs s e is h = still inputs outputs s e.state (stored-settings s e is) (stored-turn inputs outputs s e is) h

pub emission-fits : (inputs outputs : ℕ) (s : State) (e : Stored) → emission s ≡ Some e → FitsPorts inputs outputs s → FitsPorts inputs outputs e.state
emission-fits inputs outputs s e is h = still inputs outputs s e.state (emission-settings s e is) (emission-turn inputs outputs s e is) h

-- in a state that only arguments and handlers have set, the next port exists
pub first-turn : (inputs outputs : ℕ) (s : State) → settings s ≡ s → (counts s).inputs.0 ≤ inputs → (counts s).outputs.0 ≤ outputs → HasTurn inputs outputs s
first-turn inputs outputs (state.RoundRobinSwitch n) e i o = let first : 0 ≡ n = cc in omega (arith, first, o)
first-turn inputs outputs (state.RoundRobinSched n) e i o = let first : 0 ≡ n = cc in omega (arith, first, i)
first-turn inputs outputs _ e i o = tt
