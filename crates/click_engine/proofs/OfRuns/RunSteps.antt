-- Lemmas about one step of a push or a pull.
use Rattle.std.proofs.Common.{◌≡◌, ℕ, zero, suc, ◌+◌, ◌<◌, ◌⊎◌, inl, inr, refl, sym, ap, ◌∙◌, Option, Some, None, ◌==◌, Bool, true, false, MatchOption, arith}
use Rattle.click_packet.specs.Packet.{Packet}
use Rattle.click_classes.specs.Acts.{after}
use Rattle.click_classes.specs.Acts.{stored, Stored}
use Rattle.click_classes.specs.declared.packet_effects.PortRange.{PortRange}
use Rattle.click_classes.specs.declared.packet_effects.PortRange.{PortRange}
use Rattle.click_engine.specs.declared.run_state.ConnectionEnd.{ConnectionEnd}
use Rattle.click_engine.specs.RunState.{Wiring, RunState, element_at, with_state, acted_at, tries_at, spent, overrun, Acts}
use Rattle.click_engine.specs.Run.{push, pull, spread, ask, Pulled, nothing, asked, given, sent, Answers}

nonzero : (n : ℕ) → 0 < n → (n == 0) ≡ false
nonzero n h = Prim.grind (arith)

module _ (net : Wiring) (w : RunState) (at port : ℕ) where
  pub push-none : (depth : ℕ) (p : Packet) → (depth ≡ 0) ⊎ (w.left ≡ 0) → push net depth w at port p ≡ overrun w
  unfolding push
  push-none zero p h = refl
  push-none (suc d) p (inl e) = absurd (omega arith)
  push-none (suc d) p (inr e) = rw e refl

  pub push-unconnected : (depth d : ℕ) (p : Packet) → depth ≡ suc d → 0 < w.left → net.target at port ≡ None → push net depth w at port p ≡ spent w
  unfolding push
  push-unconnected depth d p h l e = rw (h, nonzero w.left l, e) refl

  pub push-some : (depth d : ℕ) (p : Packet) (far : ConnectionEnd) → depth ≡ suc d → 0 < w.left → net.target at port ≡ Some far
      → push net depth w at port p
      ≡ (let a = acted_at (spent w) far.element far.port p in
      sent net d far.element a.packet a.outputs.count a.outputs.first (with_state (spent w) far.element a.state))
  unfolding push
  push-some depth d p far h l e = rw (h, nonzero w.left l, e) refl

  pub pull-none : (depth : ℕ) → (depth ≡ 0) ⊎ (w.left ≡ 0) → pull net depth w at port ≡ nothing (overrun w)
  unfolding pull
  pull-none zero h = refl
  pull-none (suc d) (inl e) = absurd (omega arith)
  pull-none (suc d) (inr e) = rw e refl

  pub pull-unconnected : (depth d : ℕ) → depth ≡ suc d → 0 < w.left → net.source at port ≡ None → pull net depth w at port ≡ nothing (spent w)
  unfolding pull
  pull-unconnected depth d h l e = rw (h, nonzero w.left l, e) refl

  pub pull-stored : (depth d : ℕ) (far : ConnectionEnd) (s : Stored) → depth ≡ suc d → 0 < w.left → net.source at port ≡ Some far
      → stored (element_at (spent w) far.element).state ≡ Some s
      → pull net depth w at port ≡ record { run_state = with_state (spent w) far.element s.state; packet = Some s.packet }
  unfolding pull
  pull-stored depth d far s h l e f = rw (h, nonzero w.left l, e, f) refl

  pub pull-asks : (depth d : ℕ) (far : ConnectionEnd) → depth ≡ suc d → 0 < w.left → net.source at port ≡ Some far
      → stored (element_at (spent w) far.element).state ≡ None
      → pull net depth w at port
      ≡ (let t = tries_at (spent w) far.element far.port in
      asked net d far.element (element_at (spent w) far.element).inputs t.count t.first (spent w))
  unfolding pull
  pull-asks depth d far h l e f = rw (h, nonzero w.left l, e, f) refl

pub spread-suc : (f : RunState → ℕ → RunState) (n m first : ℕ) (w : RunState) → n ≡ suc m → spread f n first w ≡ spread f m (first + 1) (f w first)
spread-suc f n m first w e = rw e refl

pub spread-zero : (f : RunState → ℕ → RunState) (n first : ℕ) (w : RunState) → n ≡ 0 → spread f n first w ≡ w
spread-zero f n first w e = rw e refl

module _ (net : Wiring) (w : RunState) (at port : ℕ) where
  -- a push that spent a crossing, did what the far element does, and went on at its outputs
  pub push-made : (depth d : ℕ) (p q : Packet) (far : ConnectionEnd) (w1 w2 w3 : RunState) (to : PortRange) → depth ≡ suc d → 0 < w.left → net.target at port ≡ Some far
      → w1 ≡ spent w → Acts w1 w2 far.element far.port p q to → w3 ≡ sent net d far.element q to.count to.first w2 → w3 ≡ push net depth w at port p
  push-made depth d p q far w1 w2 w3 to e l f s acts on =
      let run_state = rw s at acts.run_state in
      let packet = rw s at acts.packet in
      let outputs = rw s at acts.outputs in
      on ∙ (rw (run_state, packet, outputs) (sym (push-some net w at port depth d p far e l f)))

module _ (pull_at : RunState → ℕ → Pulled) (give_at : RunState → ℕ → Packet → Pulled) (inputs : ℕ) where
  pub ask-zero : (n input : ℕ) (w : RunState) → n ≡ 0 → ask pull_at give_at inputs n input w ≡ nothing w
  ask-zero n input w e = rw e refl

  pub ask-none : (n m input : ℕ) (w : RunState) → n ≡ suc m → (pull_at w input).packet ≡ None
      → ask pull_at give_at inputs n input w ≡ ask pull_at give_at inputs m (after inputs input) (pull_at w input).run_state
  ask-none n m input w e f = rw (e, ask, f) refl

  pub ask-some : (n m input : ℕ) (w : RunState) (p : Packet) → n ≡ suc m → (pull_at w input).packet ≡ Some p
      → ask pull_at give_at inputs n input w ≡ give_at (pull_at w input).run_state input p
  ask-some n m input w p e f = rw (e, ask, f) refl

module _ (net : Wiring) (depth at ins : ℕ) where
  -- an input had no packet, and the next one is asked in the run state that it left
  pub asked_next : (n m input : ℕ) (w v : RunState) (p : Packet) → n ≡ suc m → Answers (pull net depth w at input) v false p
      → asked net depth at ins n input w ≡ asked net depth at ins m (after ins input) v
  asked_next n m input w v p e a =
      ask-none (λ u i. pull net depth u at i) (λ u i q. given net depth at u i q) ins n m input w e a.answer
      ∙ ap (λ u. asked net depth at ins m (after ins input) u) (sym a.run_state)

  -- an input had a packet, and the result of passing it on is the answer
  pub asked_last : (n m input : ℕ) (w v u : RunState) (p q : Packet) (got : Bool) → n ≡ suc m → Answers (pull net depth w at input) v true p
      → Answers (given net depth at v input p) u got q → Answers (asked net depth at ins n input w) u got q
  asked_last n m input w v u p q got e a b =
      rw (ask-some (λ x i. pull net depth x at i) (λ x i r. given net depth at x i r) ins n m input w p e a.answer, ← a.run_state) b

-- the result of a pull from an element's own store, by whether it had a packet
pub stored-yes : (o : Option Stored) (at : ℕ) (w v : RunState) (p : Packet)
    → MatchOption o ((true ≡ false) × (v ≡ w)) (λ s. (true ≡ true) × (s.packet ≡ p) × (v ≡ with_state w at s.state))
    → (s : Stored) × (o ≡ Some s) × (s.packet ≡ p) × (v ≡ with_state w at s.state)
stored-yes None at w v p h = let e = h.0 in cc
stored-yes (Some s) at w v p h = (s, refl, h.1, h.2)

pub stored-no : (o : Option Stored) (at : ℕ) (w v : RunState) (p : Packet)
    → MatchOption o ((false ≡ false) × (v ≡ w)) (λ s. (false ≡ true) × (s.packet ≡ p) × (v ≡ with_state w at s.state))
    → (o ≡ None) × (v ≡ w)
stored-no None at w v p h = (refl, h.1)
stored-no (Some s) at w v p h = let e = h.0 in cc

module _ (net : Wiring) (w : RunState) (at port depth d : ℕ) (far : ConnectionEnd) (deep : depth ≡ suc d) (left : 0 < w.left) (linked : net.source at port ≡ Some far) where
  pub pull-held : (w1 v : RunState) (p : Packet) → w1 ≡ spent w
      → MatchOption (stored (element_at w1 far.element).state) ((true ≡ false) × (v ≡ w1)) (λ s. (true ≡ true) × (s.packet ≡ p) × (v ≡ with_state w1 far.element s.state))
      → Answers (pull net depth w at port) v true p
  pull-held w1 v p e h =
      let found = stored-yes _ far.element (spent w) v p (rw e at h) in
      let step = pull-stored net w at port depth d far found.0 deep left linked found.1 in
      rw step (record { run_state = found.3; answer = ap (λ q. Some q) found.2 })

  pub pull-asked : (w1 v u : RunState) (p q : Packet) (got : Bool) → w1 ≡ spent w
      → MatchOption (stored (element_at w1 far.element).state) ((false ≡ false) × (v ≡ w1)) (λ s. (false ≡ true) × (s.packet ≡ p) × (v ≡ with_state w1 far.element s.state))
      → Answers (asked net d far.element (element_at v far.element).inputs (tries_at v far.element far.port).count (tries_at v far.element far.port).first v) u got q
      → Answers (pull net depth w at port) u got q
  pull-asked w1 v u p q got e h a =
      let found = stored-no _ far.element (spent w) v p (rw e at h) in
      rw (pull-asks net w at port depth d far deep left linked found.0) (rw found.1 at a)

-- the inputs that the element names are asked, with the element taken from the run state
pub asked_from : (net : Wiring) (depth at output ins : ℕ) (t : PortRange) (w u : RunState) (r : Pulled) (got : Bool) (q : Packet) → ins ≡ (element_at w at).inputs → t ≡ tries_at w at output
    → r ≡ asked net depth at ins t.count t.first w → Answers r u got q
    → Answers (asked net depth at (element_at w at).inputs (tries_at w at output).count (tries_at w at output).first w) u got q
asked_from net depth at output ins t w u r got q e f g a = rw (← f, ← e, ← g) a
