-- For a push, a depth of at least the crossings left changes nothing.
use Rattle.std.proofs.Common.{◌≡◌, ℕ, zero, suc, ◌+◌, ◌<◌, ◌≤◌, inl, inr, refl, sym, ap, ◌∙◌, Option, Some, None, arith}
use Rattle.std.proofs.lemmas.Bool.{cases_lt}
use Rattle.click_packet.specs.Packet.{Packet}
use Rattle.click_engine.specs.declared.run_state.ConnectionEnd.{ConnectionEnd}
use Rattle.click_engine.specs.RunState.{Wiring, RunState, with_state, acted_at, spent}
use Rattle.click_engine.specs.Run.{push, spread, sent}
use Rattle.click_engine.proofs.OfRuns.RunSteps.{push-none, push-unconnected, push-some}

-- pushes at several outputs never add crossings if none of them does
spread-left : (f : RunState → ℕ → RunState) → ((v : RunState) (o : ℕ) → (f v o).left ≤ v.left) → (count first : ℕ) (w : RunState) → (spread f count first w).left ≤ w.left
spread-left f h zero first w = omega arith
spread-left f h (suc n) first w = omega (arith, spread-left f h n (first + 1) (f w first), h w first)

module _ (net : Wiring) where
  pub push-left : (d : ℕ) (w : RunState) (at o : ℕ) (p : Packet) → (push net d w at o p).left ≤ w.left
  push-left zero w at o p = rw (push-none net w at o zero p (inl refl)) (omega arith)
  push-left (suc d) w at o p = elim (cases_lt 0 w.left) [
    | inr none ↦ rw (push-none net w at o (suc d) p (inr (omega arith))) (omega arith)
    | inl some ↦ go some (λ v e x q. push-left d v e x q) (net.target at o) refl
  ]
    where
      go : 0 < w.left → ((v : RunState) (e x : ℕ) (q : Packet) → (push net d v e x q).left ≤ v.left) → (t : Option ConnectionEnd) → net.target at o ≡ t → (push net (suc d) w at o p).left ≤ w.left
      go some ih None e = rw (push-unconnected net w at o (suc d) d p refl some e) (omega arith)
      go some ih (Some far) e =
          let a = acted_at (spent w) far.element far.port p in
          let to = with_state (spent w) far.element a.state in
          let fewer = spread-left (λ v x. push net d v far.element x a.packet) (λ v x. ih v far.element x a.packet) a.outputs.count a.outputs.first to in
          rw (push-some net w at o (suc d) d p far refl some e) (omega (arith, fewer))

  -- two depths of at least the crossings left agree on several outputs if they agree on each of
  -- them
  spread-slack : (c d at : ℕ) (p : Packet) → ((v : RunState) (o : ℕ) → v.left ≤ c → v.left ≤ d → push net c v at o p ≡ push net d v at o p)
      → (count first : ℕ) (w : RunState) → w.left ≤ c → w.left ≤ d → sent net c at p count first w ≡ sent net d at p count first w
  spread-slack c d at p ih zero first w h k = refl
  spread-slack c d at p ih (suc n) first w h k =
      let fewer = push-left c w at first p in
      let here = ih w first h k in
      spread-slack c d at p ih n (first + 1) (push net c w at first p) (omega arith) (omega arith)
      ∙ ap (λ v. sent net d at p n (first + 1) v) here

  pub push-slack : (c d : ℕ) (w : RunState) (at o : ℕ) (p : Packet) → w.left ≤ c → w.left ≤ d → push net c w at o p ≡ push net d w at o p
  push-slack zero d w at o p h k = push-none net w at o zero p (inl refl) ∙ sym (push-none net w at o d p (inr (omega arith)))
  push-slack (suc c) zero w at o p h k = push-none net w at o (suc c) p (inr (omega arith)) ∙ sym (push-none net w at o zero p (inl refl))
  push-slack (suc c) (suc d) w at o p h k = elim (cases_lt 0 w.left) [
    | inr none ↦ push-none net w at o (suc c) p (inr (omega arith)) ∙ sym (push-none net w at o (suc d) p (inr (omega arith)))
    | inl some ↦ go some (λ v e x q. push-slack c d v e x q) (net.target at o) refl
  ]
    where
      go : 0 < w.left → ((v : RunState) (e x : ℕ) (q : Packet) → v.left ≤ c → v.left ≤ d → push net c v e x q ≡ push net d v e x q)
          → (t : Option ConnectionEnd) → net.target at o ≡ t → push net (suc c) w at o p ≡ push net (suc d) w at o p
      go some ih None e = push-unconnected net w at o (suc c) c p refl some e ∙ sym (push-unconnected net w at o (suc d) d p refl some e)
      go some ih (Some far) e =
          let a = acted_at (spent w) far.element far.port p in
          push-some net w at o (suc c) c p far refl some e
          ∙ spread-slack c d far.element a.packet (λ v x. ih v far.element x a.packet) a.outputs.count a.outputs.first (with_state (spent w) far.element a.state) (omega arith) (omega arith)
          ∙ sym (push-some net w at o (suc d) d p far refl some e)

  pub sent-slack : (c d at : ℕ) (p : Packet) (count first : ℕ) (w : RunState) → w.left ≤ c → w.left ≤ d → sent net c at p count first w ≡ sent net d at p count first w
  sent-slack c d at p count first w h k = spread-slack c d at p (λ v o. push-slack c d v at o p) count first w h k

  pub sent-left : (d at : ℕ) (p : Packet) (count first : ℕ) (w : RunState) → (sent net d at p count first w).left ≤ w.left
  sent-left d at p count first w = spread-left (λ v o. push net d v at o p) (λ v o. push-left d v at o p) count first w
