-- A pull never adds crossings, and a depth of at least the crossings left changes nothing.
use Rattle.std.proofs.Common.{◌≡◌, ℕ, zero, suc, ◌<◌, ◌≤◌, inl, inr, refl, sym, ap, ◌∙◌, Option, Some, None, arith}
use Rattle.std.proofs.lemmas.Bool.{cases_lt}
use Rattle.click_packet.specs.Packet.{Packet}
use Rattle.click_classes.specs.Acts.{after}
use Rattle.click_classes.specs.Acts.{stored, Stored}
use Rattle.click_engine.specs.declared.run_state.ConnectionEnd.{ConnectionEnd}
use Rattle.click_engine.specs.RunState.{Wiring, RunState, element_at, with_state, given_at, tries_at, spent}
use Rattle.click_engine.specs.Run.{pull, asked, given, Pulled}
use Rattle.click_engine.proofs.OfRuns.RunSteps.{pull-none, pull-unconnected, pull-stored, pull-asks, ask-none, ask-some}
use Rattle.click_engine.proofs.OfRuns.PushDepth.{sent-left, sent-slack}

module _ (net : Wiring) where
  pub given-left : (d at : ℕ) (w : RunState) (input : ℕ) (p : Packet) → (given net d at w input p).run_state.left ≤ w.left
  given-left d at w input p =
      let g = given_at w at input p in
      sent-left net d at g.packet g.copies.count g.copies.first (with_state w at g.state)

  asked-left : (d at ins : ℕ) → ((v : RunState) (i : ℕ) → (pull net d v at i).run_state.left ≤ v.left)
      → (n input : ℕ) (w : RunState) → (asked net d at ins n input w).run_state.left ≤ w.left
  asked-left d at ins ih zero input w = omega arith
  asked-left d at ins ih (suc n) input w = go (pull net d w at input).packet refl (asked-left d at ins ih n (after ins input) (pull net d w at input).run_state)
    where
      go : (o : Option Packet) → (pull net d w at input).packet ≡ o
          → (asked net d at ins n (after ins input) (pull net d w at input).run_state).run_state.left ≤ (pull net d w at input).run_state.left
          → (asked net d at ins (suc n) input w).run_state.left ≤ w.left
      go None e rest =
          rw (ask-none (λ v i. pull net d v at i) (λ v i q. given net d at v i q) ins (suc n) n input w refl e) (omega (arith, ih w input))
      go (Some p) e rest =
          rw (ask-some (λ v i. pull net d v at i) (λ v i q. given net d at v i q) ins (suc n) n input w p refl e)
          (omega (arith, ih w input, given-left d at (pull net d w at input).run_state input p))

  pub pull-left : (d : ℕ) (w : RunState) (at i : ℕ) → (pull net d w at i).run_state.left ≤ w.left
  pull-left zero w at i = rw (pull-none net w at i zero (inl refl)) (omega arith)
  pull-left (suc d) w at i = elim (cases_lt 0 w.left) [
    | inr none ↦ rw (pull-none net w at i (suc d) (inr (omega arith))) (omega arith)
    | inl some ↦ go some (λ v e x. pull-left d v e x) (net.source at i) refl
  ]
    where
      far_case : 0 < w.left → ((v : RunState) (e x : ℕ) → (pull net d v e x).run_state.left ≤ v.left) → (far : ConnectionEnd) → net.source at i ≡ Some far
          → (o : Option Stored) → stored (element_at (spent w) far.element).state ≡ o → (pull net (suc d) w at i).run_state.left ≤ w.left
      far_case some ih far e (Some s) f = rw (pull-stored net w at i (suc d) d far s refl some e f) (omega arith)
      far_case some ih far e None f =
          let t = tries_at (spent w) far.element far.port in
          let fewer = asked-left d far.element (element_at (spent w) far.element).inputs (λ v x. ih v far.element x) t.count t.first (spent w) in
          rw (pull-asks net w at i (suc d) d far refl some e f) (omega (arith, fewer))

      go : 0 < w.left → ((v : RunState) (e x : ℕ) → (pull net d v e x).run_state.left ≤ v.left) → (o : Option ConnectionEnd) → net.source at i ≡ o → (pull net (suc d) w at i).run_state.left ≤ w.left
      go some ih None e = rw (pull-unconnected net w at i (suc d) d refl some e) (omega arith)
      go some ih (Some far) e = far_case some ih far e (stored (element_at (spent w) far.element).state) refl

  pub given-slack : (c d at : ℕ) (w : RunState) (input : ℕ) (p : Packet) → w.left ≤ c → w.left ≤ d → given net c at w input p ≡ given net d at w input p
  given-slack c d at w input p h k =
      let g = given_at w at input p in
      ap (λ v. let r : Pulled = record { run_state = v; packet = (given net c at w input p).packet } in r) (sent-slack net c d at g.packet g.copies.count g.copies.first (with_state w at g.state) h k)

  pub asked-slack : (c d at ins : ℕ) → ((v : RunState) (i : ℕ) → v.left ≤ c → v.left ≤ d → pull net c v at i ≡ pull net d v at i)
      → (n input : ℕ) (w : RunState) → w.left ≤ c → w.left ≤ d → asked net c at ins n input w ≡ asked net d at ins n input w
  asked-slack c d at ins ih zero input w h k = refl
  asked-slack c d at ins ih (suc n) input w h k =
      let fewer = pull-left c w at input in
      go (pull net c w at input).packet refl (asked-slack c d at ins ih n (after ins input) (pull net c w at input).run_state (omega arith) (omega arith))
    where
      same : pull net c w at input ≡ pull net d w at input
      same = ih w input h k

      go : (o : Option Packet) → (pull net c w at input).packet ≡ o
          → asked net c at ins n (after ins input) (pull net c w at input).run_state ≡ asked net d at ins n (after ins input) (pull net c w at input).run_state
          → asked net c at ins (suc n) input w ≡ asked net d at ins (suc n) input w
      go None e rest =
          ask-none (λ v i. pull net c v at i) (λ v i q. given net c at v i q) ins (suc n) n input w refl e
          ∙ rest
          ∙ ap (λ (r : Pulled). asked net d at ins n (after ins input) r.run_state) same
          ∙ sym (ask-none (λ v i. pull net d v at i) (λ v i q. given net d at v i q) ins (suc n) n input w refl (ap (λ (r : Pulled). r.packet) (sym same) ∙ e))
      go (Some p) e rest =
          let fewer = pull-left c w at input in
          ask-some (λ v i. pull net c v at i) (λ v i q. given net c at v i q) ins (suc n) n input w p refl e
          ∙ given-slack c d at (pull net c w at input).run_state input p (omega arith) (omega arith)
          ∙ ap (λ (r : Pulled). given net d at r.run_state input p) same
          ∙ sym (ask-some (λ v i. pull net d v at i) (λ v i q. given net d at v i q) ins (suc n) n input w p refl (ap (λ (r : Pulled). r.packet) (sym same) ∙ e))

  pub pull-slack : (c d : ℕ) (w : RunState) (at i : ℕ) → w.left ≤ c → w.left ≤ d → pull net c w at i ≡ pull net d w at i
  pull-slack zero d w at i h k = pull-none net w at i zero (inl refl) ∙ sym (pull-none net w at i d (inr (omega arith)))
  pull-slack (suc c) zero w at i h k = pull-none net w at i (suc c) (inr (omega arith)) ∙ sym (pull-none net w at i zero (inl refl))
  pull-slack (suc c) (suc d) w at i h k = elim (cases_lt 0 w.left) [
    | inr none ↦ pull-none net w at i (suc c) (inr (omega arith)) ∙ sym (pull-none net w at i (suc d) (inr (omega arith)))
    | inl some ↦ go some (λ v e x. pull-slack c d v e x) (net.source at i) refl
  ]
    where
      far_case : 0 < w.left → ((v : RunState) (e x : ℕ) → v.left ≤ c → v.left ≤ d → pull net c v e x ≡ pull net d v e x) → (far : ConnectionEnd) → net.source at i ≡ Some far
          → (o : Option Stored) → stored (element_at (spent w) far.element).state ≡ o → pull net (suc c) w at i ≡ pull net (suc d) w at i
      far_case some ih far e (Some s) f =
          pull-stored net w at i (suc c) c far s refl some e f ∙ sym (pull-stored net w at i (suc d) d far s refl some e f)
      far_case some ih far e None f =
          let t = tries_at (spent w) far.element far.port in
          pull-asks net w at i (suc c) c far refl some e f
          ∙ asked-slack c d far.element (element_at (spent w) far.element).inputs (λ v x. ih v far.element x) t.count t.first (spent w) (omega arith) (omega arith)
          ∙ sym (pull-asks net w at i (suc d) d far refl some e f)

      go : 0 < w.left → ((v : RunState) (e x : ℕ) → v.left ≤ c → v.left ≤ d → pull net c v e x ≡ pull net d v e x)
          → (o : Option ConnectionEnd) → net.source at i ≡ o → pull net (suc c) w at i ≡ pull net (suc d) w at i
      go some ih None e = pull-unconnected net w at i (suc c) c refl some e ∙ sym (pull-unconnected net w at i (suc d) d refl some e)
      go some ih (Some far) e = far_case some ih far e (stored (element_at (spent w) far.element).state) refl
