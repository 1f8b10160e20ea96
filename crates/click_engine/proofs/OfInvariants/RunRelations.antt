-- A relation that each step of an element preserves holds between each element before and after a
-- push or a pull.
use Rattle.std.proofs.Common.{◌≡◌, ℕ, zero, suc, ◌+◌, ◌<◌, inl, inr, refl, sym, ◌∙◌, subst, List, length, set, get_or, Option, Some, None, arith}
use Rattle.std.proofs.lemmas.Bool.{cases_lt, cases_eq}
use Rattle.std.proofs.lemmas.List.{get_or-set_same, get_or-set_other, set_past, length-set}
use Rattle.click_packet.specs.Packet.{Packet}
use Rattle.click_classes.specs.Acts.{act, gives, stored, emission, after, Stored}
use Rattle.click_classes.specs.declared.state.State.{State}
use Rattle.click_engine.specs.declared.run_state.Element.{Element}
use Rattle.click_engine.specs.declared.run_state.ConnectionEnd.{ConnectionEnd}
use Rattle.click_engine.specs.Keeps.{IsClosed}
use Rattle.click_engine.specs.RunState.{Wiring, RunState, element_at, with_state, acted_at, given_at, tries_at, spent, blank}
use Rattle.click_engine.specs.Run.{push, pull, spread, given, asked}
use Rattle.click_engine.proofs.OfRuns.RunSteps.{push-none, push-unconnected, push-some, pull-none, pull-unconnected, pull-stored, pull-asks, ask-none, ask-some}

-- an element with another state
abbrev pub in_state : Element → State → Element
in_state e s = record e { state = s }

-- R is preserved by each step of the elements with an index in P
pub record Relates (P : ℕ → Type 0) (R : ℕ → Element → Element → Type 0) : Type 0 where
  pub same : (at : ℕ) (e : Element) → R at e e
  pub on : (at : ℕ) (e f g : Element) → R at e f → R at f g → R at e g
  pub pushed : (at input : ℕ) (e : Element) (p : Packet) → P at → R at e (in_state e (act e.outputs e.state input p).state)
  pub pulled : (at input : ℕ) (e : Element) (p : Packet) → P at → R at e (in_state e (gives e.inputs e.outputs e.state input p).state)
  pub held : (at : ℕ) (e : Element) (s : Stored) → P at → stored e.state ≡ Some s → R at e (in_state e s.state)
  pub emitted : (at : ℕ) (e : Element) (s : Stored) → P at → emission e.state ≡ Some s → R at e (in_state e s.state)

-- there are as many elements as before, and each is related to what it was
pub record Kept (R : ℕ → Element → Element → Type 0) (old new : List Element) : Type 0 where
  pub count : length new ≡ length old
  pub each : (at : ℕ) → R at (get_or old at blank) (get_or new at blank)

module _ (P : ℕ → Type 0) (R : ℕ → Element → Element → Type 0) (r : Relates P R) where
  pub kept-same : (es : List Element) → Kept R es es
  kept-same es = record { count = refl; each = λ at. r.same at (get_or es at blank) }

  pub kept-on : (es fs gs : List Element) → Kept R es fs → Kept R fs gs → Kept R es gs
  kept-on es fs gs h k = record {
    count = k.count ∙ h.count;
    each = λ at. r.on at (get_or es at blank) (get_or fs at blank) (get_or gs at blank) (h.each at) (k.each at);
  }

  set-at : (es : List Element) (at : ℕ) (e : Element) → R at (get_or es at blank) e → R at (get_or es at blank) (get_or (set es at e) at blank)
  set-at es at e h = elim (cases_lt at (length es)) [
    | inl within ↦ rw (get_or-set_same es at e blank within) h
    | inr past ↦ rw (set_past es at e past) (r.same at (get_or es at blank))
  ]

  -- one element has another state
  pub kept-set : (es : List Element) (at : ℕ) (s : State) → R at (get_or es at blank) (in_state (get_or es at blank) s)
      → Kept R es (set es at (in_state (get_or es at blank) s))
  kept-set es at s h = record { count = length-set es at (in_state (get_or es at blank) s); each = each }
    where
      each : (k : ℕ) → R k (get_or es k blank) (get_or (set es at (in_state (get_or es at blank) s)) k blank)
      each k = elim (cases_eq k at) [
        | inl is ↦ subst (λ j. R j (get_or es j blank) (get_or (set es at (in_state (get_or es at blank) s)) j blank)) (sym is)
            (set-at es at (in_state (get_or es at blank) s) h)
        | inr other ↦ rw (get_or-set_other es at k (in_state (get_or es at blank) s) blank other) (r.same k (get_or es k blank))
      ]

  pub spread-kept : (f : RunState → ℕ → RunState) → ((v : RunState) (o : ℕ) → Kept R v.elements (f v o).elements) → (count first : ℕ) (w : RunState)
      → Kept R w.elements (spread f count first w).elements
  spread-kept f h zero first w = kept-same w.elements
  spread-kept f h (suc n) first w = kept-on _ _ _ (h w first) (spread-kept f h n (first + 1) (f w first))

  module _ (net : Wiring) (closed : IsClosed net P) where
    pub push-kept : (d : ℕ) (w : RunState) (at o : ℕ) (p : Packet) → P at → Kept R w.elements (push net d w at o p).elements
    push-kept zero w at o p h = rw (push-none net w at o zero p (inl refl)) (kept-same w.elements)
    push-kept (suc d) w at o p h = elim (cases_lt 0 w.left) [
      | inr none ↦ rw (push-none net w at o (suc d) p (inr (omega arith))) (kept-same w.elements)
      | inl some ↦ go some (λ v e x q k. push-kept d v e x q k) (net.target at o) refl
    ]
      where
        go : 0 < w.left → ((v : RunState) (e x : ℕ) (q : Packet) → P e → Kept R v.elements (push net d v e x q).elements)
            → (t : Option ConnectionEnd) → net.target at o ≡ t → Kept R w.elements (push net (suc d) w at o p).elements
        go some ih None e = rw (push-unconnected net w at o (suc d) d p refl some e) (kept-same w.elements)
        go some ih (Some far) e =
            let a = acted_at (spent w) far.element far.port p in
            let there = closed.target at o far h e in
            let here = kept-set w.elements far.element a.state (r.pushed far.element far.port (element_at w far.element) p there) in
            let with_taken_over = spread-kept (λ v x. push net d v far.element x a.packet) (λ v x. ih v far.element x a.packet there) a.outputs.count a.outputs.first (with_state (spent w) far.element a.state) in
            rw (push-some net w at o (suc d) d p far refl some e) (kept-on _ _ _ here with_taken_over)

    given-kept : (d at : ℕ) (w : RunState) (input : ℕ) (p : Packet) → P at → Kept R w.elements (given net d at w input p).run_state.elements
    given-kept d at w input p h =
        let g = given_at w at input p in
        let here = kept-set w.elements at g.state (r.pulled at input (element_at w at) p h) in
        let with_taken_over = spread-kept (λ v x. push net d v at x g.packet) (λ v x. push-kept d v at x g.packet h) g.copies.count g.copies.first (with_state w at g.state) in
        kept-on _ _ _ here with_taken_over

    asked-kept : (d at ins : ℕ) → P at → ((v : RunState) (i : ℕ) → Kept R v.elements (pull net d v at i).run_state.elements)
        → (n input : ℕ) (w : RunState) → Kept R w.elements (asked net d at ins n input w).run_state.elements
    asked-kept d at ins h ih zero input w = kept-same w.elements
    asked-kept d at ins h ih (suc n) input w = go (pull net d w at input).packet refl (asked-kept d at ins h ih n (after ins input) (pull net d w at input).run_state)
      where
        go : (o : Option Packet) → (pull net d w at input).packet ≡ o
            → Kept R (pull net d w at input).run_state.elements (asked net d at ins n (after ins input) (pull net d w at input).run_state).run_state.elements
            → Kept R w.elements (asked net d at ins (suc n) input w).run_state.elements
        go None e rest =
            rw (ask-none (λ v i. pull net d v at i) (λ v i q. given net d at v i q) ins (suc n) n input w refl e) (kept-on _ _ _ (ih w input) rest)
        go (Some p) e rest =
            rw (ask-some (λ v i. pull net d v at i) (λ v i q. given net d at v i q) ins (suc n) n input w p refl e)
            (kept-on _ _ _ (ih w input) (given-kept d at (pull net d w at input).run_state input p h))

    pub pull-kept : (d : ℕ) (w : RunState) (at i : ℕ) → P at → Kept R w.elements (pull net d w at i).run_state.elements
    pull-kept zero w at i h = rw (pull-none net w at i zero (inl refl)) (kept-same w.elements)
    pull-kept (suc d) w at i h = elim (cases_lt 0 w.left) [
      | inr none ↦ rw (pull-none net w at i (suc d) (inr (omega arith))) (kept-same w.elements)
      | inl some ↦ go some (λ v e x k. pull-kept d v e x k) (net.source at i) refl
    ]
      where
        far_case : 0 < w.left → ((v : RunState) (e x : ℕ) → P e → Kept R v.elements (pull net d v e x).run_state.elements)
            → (far : ConnectionEnd) → net.source at i ≡ Some far → (o : Option Stored) → stored (element_at (spent w) far.element).state ≡ o
            → Kept R w.elements (pull net (suc d) w at i).run_state.elements
        far_case some ih far e (Some s) f =
            rw (pull-stored net w at i (suc d) d far s refl some e f)
            (kept-set w.elements far.element s.state (r.held far.element (element_at w far.element) s (closed.source at i far h e) f))
        far_case some ih far e None f =
            let t = tries_at (spent w) far.element far.port in
            let there = closed.source at i far h e in
            rw (pull-asks net w at i (suc d) d far refl some e f)
            (asked-kept d far.element (element_at (spent w) far.element).inputs there (λ v x. ih v far.element x there) t.count t.first (spent w))

        go : 0 < w.left → ((v : RunState) (e x : ℕ) → P e → Kept R v.elements (pull net d v e x).run_state.elements)
            → (o : Option ConnectionEnd) → net.source at i ≡ o → Kept R w.elements (pull net (suc d) w at i).run_state.elements
        go some ih None e = rw (pull-unconnected net w at i (suc d) d refl some e) (kept-same w.elements)
        go some ih (Some far) e = far_case some ih far e (stored (element_at (spent w) far.element).state) refl
