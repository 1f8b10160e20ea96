-- Past the last element there is a blank one, whose state never changes.
use Rattle.std.proofs.Common.{◌≡◌, ℕ, zero, suc, inl, inr, List, [], ◌∷◌, set, ◌≤◌, min, length, refl, sym, ap, ◌∙◌, arith, Bool, false, None}
use Rattle.std.proofs.lemmas.Bool.{cases_lt}
use Rattle.std.proofs.lemmas.List.{get_or_past, set_past}
use Rattle.click_packet.specs.Packet.{Packet}
use Rattle.click_classes.specs.Acts.{pass, act, tries, stored, emission, gives, to_none, PushEffect, PullEffect}
use Rattle.click_classes.specs.declared.state.State.{State}
use Rattle.click_classes.specs.declared.state.State.TheVariants.{Idle}
use Rattle.click_classes.specs.declared.packet_effects.PortRange.{PortRange}
use Rattle.click_engine.specs.RunState.{GivesOut, RunState, element_at, given_at, with_state, blank}
use Rattle.click_engine.specs.declared.run_state.Element.{Element}

module _ (w : RunState) (at : ℕ) (past : length w.elements ≤ at) where
  pub element_past : element_at w at ≡ blank
  element_past = get_or_past w.elements at blank past

  pub state_past : (s : State) → with_state w at s ≡ w
  state_past s = ap (λ es. record w { elements = es }) (set_past w.elements at _ past)

-- an Idle passes nothing on
abbrev unanswered : State → Packet → PullEffect
unanswered s p = record { state = s; packet = p; copies = record { first = 0; count = 0 }; answers = false }

pub act-blank : (n i : ℕ) (p : Packet) → act n Idle i p ≡ to_none Idle p
unfolding act pass
act-blank n i p = refl

pub gives-blank : (n m i : ℕ) (p : Packet) → gives n m Idle i p ≡ unanswered Idle p
unfolding gives pass
gives-blank n m i p = refl

pub stored-blank : stored Idle ≡ None
unfolding stored
stored-blank = refl

pub emission-blank : emission Idle ≡ None
unfolding emission
emission-blank = refl

pub tries-blank : (n o : ℕ) → ◌≡◌ {A = PortRange} (record { first = 0; count = 0 }) (tries n Idle o)
unfolding tries
tries-blank n o = refl

module _ (w : RunState) (at : ℕ) (past : length w.elements ≤ at) where
  abbrev acted : ℕ → Packet → PushEffect
  acted i p = act (element_at w at).outputs (element_at w at).state i p

  act-past : (i : ℕ) (p : Packet) → acted i p ≡ to_none Idle p
  act-past i p = rw (element_past w at past) (act-blank 0 i p)

  pub acts_past : (i : ℕ) (p : Packet) → (w ≡ with_state w at (acted i p).state) × (p ≡ (acted i p).packet) × (◌≡◌ {A = PortRange} (record { first = 0; count = 0 }) (acted i p).outputs)
  acts_past i p = (sym (state_past w at past _), sym (ap (λ a. a.packet) (act-past i p)), sym (ap (λ a. a.outputs) (act-past i p)))

-- any index past the elements stands for the same Idle
pub gives_clamped : (w v : RunState) (m at i : ℕ) (p q : Packet) (copies : PortRange) (answers : Bool) → m ≡ min at (length w.elements) → GivesOut w v m i p q copies answers
    → GivesOut w v at i p q copies answers
gives_clamped w v m at i p q copies answers is g = elim (cases_lt at (length w.elements)) [
  | inl inside ↦ (let same : m ≡ at = omega (arith, is, inside) in rw same at g)
  | inr past ↦
      (let same : m ≡ length w.elements = omega (arith, is, past) in
      let from : given_at w m i p ≡ given_at w at i p = ap (λ (e : Element). gives e.inputs e.outputs e.state i p) (element_past w m (omega (arith, same)) ∙ sym (element_past w at past)) in
      record {
        run_state = g.run_state ∙ state_past w m (omega (arith, same)) _ ∙ sym (state_past w at past _);
        packet = g.packet ∙ ap (λ (a : PullEffect). a.packet) from;
        copies_are = g.copies_are ∙ ap (λ (a : PullEffect). a.copies) from;
        answers_is = g.answers_is ∙ ap (λ (a : PullEffect). a.answers) from;
      })
]

pub set-set : {X : Type 0} (xs : List X) (i : ℕ) (a b : X) → set (set xs i a) i b ≡ set xs i b
set-set [] i a b = refl
set-set (x ∷ xs) zero a b = refl
set-set (x ∷ xs) (suc i) a b = ap (λ ys. x ∷ ys) (set-set xs i a b)
