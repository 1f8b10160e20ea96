-- Lemmas about the Idle that follows the elements of a net.
use Rattle.std.proofs.Common.{◌≡◌, ◌≢◌, inl, inr, ℕ, zero, suc, ◌+◌, ◌-◌, ◌<◌, ◌≤◌, List, [], ◌∷◌, set, take, get_or, length, refl, sym, ap, ◌∙◌, arith, nat_lt, Bool, true, false, Option, None, Some, MatchOption, if◌then◌else◌}
use Rattle.std.proofs.lemmas.Bool.{cases_lt}
use Rattle.std.proofs.lemmas.List.{get_or_past, get_or-set_other, get_or-set_same, get_or-take, length-set, length-take-le, set-get_or}
use Rattle.click_packet.specs.Packet.{Packet}
use Rattle.click_classes.specs.Acts.{act, burst_of, emission, gives, stored, PushEffect, PullEffect, Stored}
use Rattle.click_classes.specs.declared.packet_effects.PortRange.{PortRange}
use Rattle.click_classes.specs.declared.state.State.{State}
use Rattle.click_classes.specs.declared.state.State.TheVariants.{Idle}
use Rattle.click_engine.specs.RunState.{Acts, EndsBlank, GivesOut, acted_at, blank, but_last, given_at, with_state}
use Rattle.click_engine.specs.kept.Transfers.{run_state_with}
use Rattle.click_engine.proofs.OfPlants.BlankElement.{act-blank, emission-blank, gives-blank, stored-blank}
use Rattle.click_engine.specs.declared.run_state.Element.{Element}

pub take_set : {X : Type 0} (n : ℕ) (xs : List X) (i : ℕ) (y : X) → take n (set xs i y) ≡ set (take n xs) i y
take_set zero xs i y = refl
take_set (suc n) [] i y = refl
take_set (suc n) (x ∷ xs) zero y = refl
take_set (suc n) (x ∷ xs) (suc i) y = ap (λ ys. x ∷ ys) (take_set n xs i y)

pub but_last_length : (es : List Element) → EndsBlank es → length (but_last es) ≡ length es - 1
but_last_length es ends = length-take-le (length es - 1) es (omega arith)

-- past the elements of the net there is nothing but the Idle
past_last : (es : List Element) (at : ℕ) → EndsBlank es → length es - 1 ≤ at → get_or es at blank ≡ blank
past_last es at ends past = elim (cases_lt at (length es)) [
  | inl inside ↦ (let last : at ≡ length es - 1 = omega (arith, inside, past, ends.0) in ap (λ n. get_or es n blank) last ∙ ends.1)
  | inr over ↦ get_or_past es at blank over
]

pub at_but_last : (es : List Element) (at : ℕ) → EndsBlank es → get_or (but_last es) at blank ≡ get_or es at blank
at_but_last es at ends = elim (cases_lt at (length es - 1)) [
  | inl inside ↦ get_or-take (length es - 1) es at blank inside
  | inr past ↦ get_or_past (but_last es) at blank (omega (arith, past, but_last_length es ends)) ∙ sym (past_last es at ends past)
]

-- one item changed, and the Idle did not
module _ (es : List Element) (at : ℕ) (e : Element) (ends : EndsBlank es) where
  pub set_but_last : but_last (set es at e) ≡ set (but_last es) at e
  set_but_last = ap (λ n. take (n - 1) (set es at e)) (length-set es at e) ∙ take_set (length es - 1) es at e

  other : at ≢ length es - 1 → get_or (set es at e) (length es - 1) blank ≡ blank
  other not = get_or-set_other es at (length es - 1) e blank (λ h. not (sym h)) ∙ ends.1

  last : at ≡ length es - 1 → e ≡ blank → get_or (set es at e) (length es - 1) blank ≡ blank
  last is same = ap (λ n. get_or (set es at e) n blank) (sym is) ∙ get_or-set_same es at e blank (omega (arith, is, ends.0)) ∙ same

  still : (get_or es at blank ≡ blank → e ≡ blank) → get_or (set es at e) (length es - 1) blank ≡ blank
  still same = elim (cases_lt at (length es - 1)) [
    | inl below ↦ other (λ h. omega (arith, h, below))
    | inr past ↦ elim (cases_lt (length es - 1) at) [
      | inl over ↦ other (λ h. omega (arith, h, over))
      | inr low ↦ (let is : at ≡ length es - 1 = omega (arith, past, low) in last is (same (past_last es at ends past)))
    ]
  ]

  pub set_ends : (get_or es at blank ≡ blank → e ≡ blank) → EndsBlank (set es at e)
  set_ends same = (
    omega (arith, length-set es at e, ends.0),
    ap (λ n. get_or (set es at e) (n - 1) blank) (length-set es at e) ∙ still same,
  )

-- ---- an element changes its state

module _ (es : List Element) (at : ℕ) (r : Element) (ends : EndsBlank es) (is : r ≡ get_or es at blank) where
  pub seen : get_or (but_last es) at blank ≡ r
  seen = at_but_last es at ends ∙ sym is

  pub with_changed : (s : State) → but_last (set es at (record r { state = s })) ≡ set (but_last es) at (record (get_or (but_last es) at blank) { state = s })
  with_changed s = set_but_last es at (record r { state = s }) ends ∙ ap (λ (e : Element). set (but_last es) at (record e { state = s })) (sym seen)

  pub with_same : (s : State) → s ≡ r.state → but_last (set es at (record r { state = s })) ≡ but_last es
  with_same s e = with_changed s ∙ ap (λ t. set (but_last es) at (record (get_or (but_last es) at blank) { state = t })) (e ∙ ap (λ (x : Element). x.state) (sym seen)) ∙ set-get_or (but_last es) at blank

  pub with_ends : (s : State) → (r.state ≡ Idle → s ≡ Idle) → EndsBlank (set es at (record r { state = s }))
  with_ends s keeps = set_ends es at (record r { state = s }) ends (λ h.
      ap (λ (e : Element). record e { state = s }) (is ∙ h) ∙ ap (λ t. record blank { state = t }) (keeps (ap (λ (e : Element). e.state) (is ∙ h))))

  module _ (s : State) (left lost : ℕ) where
    pub changed_is : run_state_with (set es at (record r { state = s })) left lost ≡ with_state (run_state_with es left lost) at s
    changed_is = ap (λ xs. record (run_state_with es left lost) { elements = xs }) (with_changed s)

    pub same_is : s ≡ r.state → run_state_with (set es at (record r { state = s })) left lost ≡ run_state_with es left lost
    same_is e = ap (λ xs. record (run_state_with es left lost) { elements = xs }) (with_same s e)

    pub acted : (i : ℕ) (p q : Packet) (to : PortRange) → act r.outputs r.state i p ≡ record { state = s; packet = q; outputs = to }
        → Acts (run_state_with es left lost) (run_state_with (set es at (record r { state = s })) left lost) at i p q to
    acted i p q to h =
        let made : acted_at (run_state_with es left lost) at i p ≡ record { state = s; packet = q; outputs = to } = ap (λ (e : Element). act e.outputs e.state i p) seen ∙ h in
        record {
          run_state = changed_is ∙ ap (λ t. with_state (run_state_with es left lost) at t) (sym (ap (λ (a : PushEffect). a.state) made));
          packet = sym (ap (λ (a : PushEffect). a.packet) made);
          outputs = sym (ap (λ (a : PushEffect). a.outputs) made);
        }

    pub gave : (i : ℕ) (p q : Packet) (copies : PortRange) (answers : Bool) → gives r.inputs r.outputs r.state i p ≡ record { state = s; packet = q; copies = copies; answers = answers }
        → GivesOut (run_state_with es left lost) (run_state_with (set es at (record r { state = s })) left lost) at i p q copies answers
    gave i p q copies answers h =
        let made : given_at (run_state_with es left lost) at i p ≡ record { state = s; packet = q; copies = copies; answers = answers } = ap (λ (e : Element). gives e.inputs e.outputs e.state i p) seen ∙ h in
        record {
          run_state = changed_is ∙ ap (λ t. with_state (run_state_with es left lost) at t) (sym (ap (λ (a : PullEffect). a.state) made));
          packet = sym (ap (λ (a : PullEffect). a.packet) made);
          copies_are = sym (ap (λ (a : PullEffect). a.copies) made);
          answers_is = sym (ap (λ (a : PullEffect). a.answers) made);
        }

    -- a packet was taken out of it, or there was none
    taken-from : (A B C : Type 0) (o : Option Stored) (p q : Packet) → (B → C) → MatchOption o (A × (s ≡ r.state) × (q ≡ p)) (λ e. B × (e ≡ record { packet = q; state = s }))
        → MatchOption o (A × (run_state_with (set es at (record r { state = s })) left lost ≡ run_state_with es left lost))
        (λ e. C × (e.packet ≡ q) × (run_state_with (set es at (record r { state = s })) left lost ≡ with_state (run_state_with es left lost) at e.state))
    taken-from A B C None p q f h = (h.0, same_is h.1)
    taken-from A B C (Some e) p q f h = (f h.0, ap (λ (x : Stored). x.packet) h.1, changed_is ∙ ap (λ t. with_state (run_state_with es left lost) at t) (sym (ap (λ (x : Stored). x.state) h.1)))

    pub taken_from : (A B C : Type 0) (o seen_at : Option Stored) (p q : Packet) → (B → C) → seen_at ≡ o → MatchOption o (A × (s ≡ r.state) × (q ≡ p)) (λ e. B × (e ≡ record { packet = q; state = s }))
        → MatchOption seen_at (A × (run_state_with (set es at (record r { state = s })) left lost ≡ run_state_with es left lost))
        (λ e. C × (e.packet ≡ q) × (run_state_with (set es at (record r { state = s })) left lost ≡ with_state (run_state_with es left lost) at e.state))
    taken_from A B C o seen_at p q f same h = rw same (taken-from A B C o p q f h)

    held-there : (A Y Z : Type 0) (o : Option Stored) (b : Bool) (p q : Packet) → Y → Z → b ≡ true → MatchOption o ((b ≡ false) × (s ≡ r.state) × (q ≡ p)) (λ e. (b ≡ true) × (e ≡ record { packet = q; state = s }))
        → MatchOption o A (λ e. Y × Z × (e.packet ≡ q) × (run_state_with (set es at (record r { state = s })) left lost ≡ with_state (run_state_with es left lost) at e.state))
    held-there A Y Z None b p q y z is_held h = (let no : false ≡ true = sym h.0 ∙ is_held in cc no)
    held-there A Y Z (Some e) b p q y z is_held h = (
      y,
      z,
      ap (λ (x : Stored). x.packet) h.1,
      changed_is ∙ ap (λ t. with_state (run_state_with es left lost) at t) (sym (ap (λ (x : Stored). x.state) h.1)),
    )

    pub held_there : (A Y Z : Type 0) (o seen_at : Option Stored) (b : Bool) (p q : Packet) → Y → Z → seen_at ≡ o → b ≡ true
        → MatchOption o ((b ≡ false) × (s ≡ r.state) × (q ≡ p)) (λ e. (b ≡ true) × (e ≡ record { packet = q; state = s }))
        → MatchOption seen_at A (λ e. Y × Z × (e.packet ≡ q) × (run_state_with (set es at (record r { state = s })) left lost ≡ with_state (run_state_with es left lost) at e.state))
    held_there A Y Z o seen_at b p q y z same is_held h = rw same (held-there A Y Z o b p q y z is_held h)

  -- only an element of the net passes a packet on
  pub passes_within : (i : ℕ) (p q : Packet) (to : PortRange) (s : State) → act r.outputs r.state i p ≡ record { state = s; packet = q; outputs = to }
      → 0 < to.count → at + 1 < length es
  passes_within i p q to s h some = elim (cases_lt (at + 1) (length es)) [
    | inl inside ↦ inside
    | inr past ↦
        (let idle : r ≡ blank = is ∙ past_last es at ends (omega (arith, past)) in
        let none : to.count ≡ 0 = ap (λ (a : PushEffect). a.outputs.count) (sym h ∙ ap (λ (e : Element). act e.outputs e.state i p) idle ∙ act-blank 0 i p) in
        absurd (omega (arith, some, none)))
  ]

-- an Idle stays an Idle
pub act_keeps : (n i : ℕ) (t s : State) (p q : Packet) (to : PortRange) → act n t i p ≡ record { state = s; packet = q; outputs = to } → t ≡ Idle → s ≡ Idle
act_keeps n i t s p q to h is = ap (λ (a : PushEffect). a.state) (sym h ∙ ap (λ u. act n u i p) is ∙ act-blank n i p)

pub gives_keeps : (m n i : ℕ) (t s : State) (p q : Packet) (copies : PortRange) (answers : Bool) → gives m n t i p ≡ record { state = s; packet = q; copies = copies; answers = answers } → t ≡ Idle → s ≡ Idle
gives_keeps m n i t s p q copies answers h is = ap (λ (a : PullEffect). a.state) (sym h ∙ ap (λ u. gives m n u i p) is ∙ gives-blank m n i p)

pub store_keeps : (b : Bool) (t s : State) (p : Packet) → (b ≡ true → (n i : ℕ) → act n t i p ≡ record { state = s; packet = p; outputs = record { first = 0; count = 0 } }) → (b ≡ false → s ≡ t) → t ≡ Idle → s ≡ Idle
store_keeps true t s p stored other is = act_keeps 0 0 t s p p (record { first = 0; count = 0 }) (stored refl 0 0) is
store_keeps false t s p stored other is = other refl ∙ is

-- an Idle has nothing to take out, so this leaves it an Idle
pub none_taken : (A B : Type 0) (o : Option Stored) (t s : State) (p q : Packet) → (t ≡ Idle → o ≡ None) → MatchOption o (A × (s ≡ t) × (q ≡ p)) (λ e. B × (e ≡ record { packet = q; state = s })) → t ≡ Idle → s ≡ Idle
none_taken A B o t s p q none h is = (rw (none is) at h).1 ∙ is

pub nothing_stored : (t : State) → t ≡ Idle → stored t ≡ None
nothing_stored t is = ap stored is ∙ stored-blank

pub nothing_emitted : (t : State) → t ≡ Idle → emission t ≡ None
nothing_emitted t is = ap emission is ∙ emission-blank

pub nothing_first : (t : State) → t ≡ Idle → (if nat_lt 0 (burst_of t) then emission t else None) ≡ None
nothing_first t is = ap (λ u. if nat_lt 0 (burst_of u) then emission u else None) is
