-- Lemmas about the result of a push or a pull over one connection.
use Rattle.std.proofs.Common.{◌≡◌, ◌≢◌, ◌⊎◌, ℕ, zero, suc, inl, ◌+◌, ◌-◌, ◌*◌, ◌<◌, ◌≤◌, inr, length, refl, sym, ap, ◌∙◌, Option, Some, None, Bool, true, false, if◌then◌else◌, MatchOption, arith}
use Rattle.click_packet.specs.Packet.{Packet}
use Rattle.click_classes.specs.Acts.{stored, Stored}
use Rattle.click_classes.specs.declared.packet_effects.PortRange.{PortRange}
use Rattle.click_classes.specs.declared.packet_effects.PortRange.{PortRange}
use Rattle.click_engine.specs.declared.run_state.ConnectionEnd.{ConnectionEnd}
use Rattle.click_engine.specs.RunState.{Wiring, RunState, element_at, with_state, tries_at, spent, overrun, Acts}
use Rattle.click_engine.specs.Run.{push, sent, Pulled, nothing, Answers}
use Rattle.click_engine.specs.kept.Transfers.{Along, Pushed, Reached, ReachesIn}
use Rattle.click_engine.specs.kept.Tables.{far_of}
use Rattle.click_engine.specs.declared.transfers.PullResult.{PullResult}
use Rattle.click_engine.proofs.OfRuns.RunSteps.{push-none, push-unconnected, push-made, pull-none, pull-unconnected, pull-asks, pull-held, stored-no, spread-zero}
use Rattle.click_engine.proofs.OfPlants.BlankElement.{acts_past, element_past, stored-blank, tries-blank}

pub answers_whole : (r : Pulled) (w : RunState) (got : Bool) (p : Packet) → Answers r w got p → ◌≡◌ {A = Pulled} (record { run_state = w; packet = if got then Some p else None }) r
answers_whole r w got p a = rw (a.run_state, ← a.answer) refl

module _ (net : Wiring) (w v : RunState) (at o : ℕ) where
  pub pushed_none : (p q : Packet) (far first count : ℕ) → w.left ≡ 0 → v ≡ overrun w → count ≡ 0 → Pushed net w v at o p far first count q
  pushed_none p q far first count h e c =
      let left = ap (λ (u : RunState). u.left) e in
      record {
        made = spread-zero (λ u x. push net v.left u far x q) count first v c ∙ e ∙ sym (push-none net w at o w.left p (inr h));
        fewer = omega arith;
        one = omega arith;
        spends = λ k. omega arith;
        few = omega arith;
      }

  pub pushed_unconnected : (p q : Packet) (far first count : ℕ) → 0 < w.left → net.target at o ≡ None → v ≡ spent w → count ≡ 0 → Pushed net w v at o p far first count q
  pushed_unconnected p q far first count h t e c =
      let left = ap (λ (u : RunState). u.left) e in
      record {
        made = spread-zero (λ u x. push net v.left u far x q) count first v c ∙ e ∙ sym (push-unconnected net w at o w.left (w.left - 1) p (omega arith) h t);
        fewer = omega arith;
        one = omega arith;
        spends = λ k. omega arith;
        few = omega arith;
      }

  pub pushed_far : (p q : Packet) (far : ConnectionEnd) (w1 : RunState) (to : PortRange) → 0 < w.left → net.target at o ≡ Some far → w1 ≡ spent w
      → Acts w1 v far.element far.port p q to → to.count < 65536 → Pushed net w v at o p far.element to.first to.count q
  pushed_far p q far w1 to h t e acts few =
      let one_less = ap (λ (u : RunState). u.left) e in
      let kept = ap (λ (u : RunState). u.left) acts.run_state in
      let left : v.left ≡ w.left - 1 = omega arith in
      record {
        made =
            ap (λ d. sent net d far.element q to.count to.first v) left
            ∙ push-made net w at o w.left (w.left - 1) p q far w1 v (sent net (w.left - 1) far.element q to.count to.first v) to (omega arith) h t e acts refl;
        fewer = omega arith;
        one = omega arith;
        spends = λ k. omega arith;
        few = omega arith;
      }

  -- an output without a connection leads past all elements, where nothing is done
  pub pushed_on : (p q : Packet) (far : ConnectionEnd) (w1 : RunState) (to : PortRange) (n : ℕ) → 0 < w.left → far ≡ far_of n (net.target at o) → length w.elements ≤ n
      → w1 ≡ spent w → Acts w1 v far.element far.port p q to → to.count < 65536 → Pushed net w v at o p far.element to.first to.count q
  pushed_on p q far w1 to n h is short e acts few = go (net.target at o) refl
    where
      go : (t : Option ConnectionEnd) → net.target at o ≡ t → Pushed net w v at o p far.element to.first to.count q
      go (Some f) t = pushed_far p q far w1 to h (t ∙ ap Some (sym (is ∙ ap (far_of n) t))) e acts few
      go None t =
          let nowhere_is : far.element ≡ n = ap (λ (f : ConnectionEnd). f.element) (is ∙ ap (far_of n) t) in
          let same : length w1.elements ≡ length w.elements = ap (λ (u : RunState). length u.elements) e in
          let none = acts_past w1 far.element (omega (arith, nowhere_is, same, short)) far.port p in
          pushed_unconnected p q far.element to.first to.count h t (acts.run_state ∙ sym none.0 ∙ e) (ap (λ (r : PortRange). r.count) (acts.outputs ∙ sym none.2))

  pub reached_none : (p : Packet) (r : PullResult) → w.left ≡ 0 → v ≡ overrun w → r.is_answered ≡ false → r.count ≡ 0 → Reached net w v at o p r
  reached_none p r h e held c =
      let left = ap (λ (u : RunState). u.left) e in
      record {
        made = rw (held, c) (ap nothing e ∙ sym (pull-none net w at o w.left (inr h)));
        fewer = omega arith;
        one = omega arith;
        spends = λ k. omega arith;
        few = omega arith;
        alone = λ k. held;
      }

  pub reached_unconnected : (p : Packet) (r : PullResult) → 0 < w.left → net.source at o ≡ None → v ≡ spent w → r.is_answered ≡ false → r.count ≡ 0 → Reached net w v at o p r
  reached_unconnected p r h t e held c =
      let left = ap (λ (u : RunState). u.left) e in
      record {
        made = rw (held, c) (ap nothing e ∙ sym (pull-unconnected net w at o w.left (w.left - 1) (omega arith) h t));
        fewer = omega arith;
        one = omega arith;
        spends = λ k. omega arith;
        few = omega arith;
        alone = λ k. held;
      }

  module _ (p : Packet) (r : PullResult) (far : ConnectionEnd) (w1 : RunState) (h : 0 < w.left) (t : net.source at o ≡ Some far) (e : w1 ≡ spent w) where
    pub reached_held : MatchOption (stored (element_at w1 far.element).state) ((true ≡ false) × (v ≡ w1)) (λ s. (true ≡ true) × (s.packet ≡ p) × (v ≡ with_state w1 far.element s.state))
        → (left : v.left ≡ w.left - 1) → r.is_answered ≡ true → r.count ≡ 0 → Reached net w v at o p r
    reached_held m left held c =
        record {
          made = rw held (answers_whole _ v true p (pull-held net w at o w.left (w.left - 1) far (omega arith) h t w1 v p e m));
          fewer = omega arith;
          one = omega arith;
          spends = λ k. omega arith;
          few = omega arith;
          alone = λ k. absurd (omega arith);
        }

    pub reached_asks : (t' : PortRange) → t'.count < 65536 → MatchOption (stored (element_at w1 far.element).state) ((false ≡ false) × (v ≡ w1)) (λ s. (false ≡ true) × (s.packet ≡ p) × (v ≡ with_state w1 far.element s.state))
        → r.is_answered ≡ false → r.at ≡ far.element → r.inputs ≡ (element_at v far.element).inputs → t' ≡ tries_at v far.element far.port → r.count ≡ t'.count → r.first ≡ t'.first → Reached net w v at o p r
    reached_asks t' few_are m held at_is inputs_are tries_are count_is first_is =
        let found = stored-no _ far.element (spent w) v p (rw e at m) in
        let less : v.left ≡ w.left - 1 = ap (λ (u : RunState). u.left) found.1 in
        record {
          made =
              rw (held, at_is, inputs_are, count_is, first_is, tries_are, found.1) (sym (pull-asks net w at o w.left (w.left - 1) far (omega arith) h t found.0));
          fewer = omega arith;
          one = omega arith;
          spends = λ k. omega arith;
          few = omega arith;
          alone = λ k. held;
        }

  -- the result of a pull at the output that the connection names
  pub reached_far : (p : Packet) (r : PullResult) (far : ConnectionEnd) (w1 : RunState) → 0 < w.left → net.source at o ≡ Some far → w1 ≡ spent w → ReachesIn w1 v far p r → r.count < 65536 → Reached net w v at o p r
  reached_far p r far w1 h t e reach few = go (stored (element_at w1 far.element).state) refl
    where
      go : (s : Option Stored) → stored (element_at w1 far.element).state ≡ s → Reached net w v at o p r
      go (Some s) is =
          let (held, none, packet, run_state) = rw is at reach.reached in
          let left : v.left ≡ w.left - 1 = ap (λ (u : RunState). u.left) run_state ∙ ap (λ (u : RunState). u.left) e in
          reached_held p r far w1 h t e (rw is (refl, packet, run_state)) left held none
      go None is =
          let (quiet, run_state, at_is, inputs_are, count_is, first_is) = rw is at reach.reached in
          reached_asks p r far w1 h t e (tries_at w1 far.element far.port) (omega (arith, count_is, few)) (rw is (refl, run_state)) quiet at_is
          (inputs_are ∙ ap (λ (u : RunState). (element_at u far.element).inputs) (sym run_state)) (ap (λ (u : RunState). tries_at u far.element far.port) (sym run_state)) count_is first_is

  -- an input without a connection leads past all elements, where nothing is stored
  pub reached_on : (p : Packet) (r : PullResult) (far : ConnectionEnd) (w1 : RunState) (n : ℕ) → 0 < w.left → far ≡ far_of n (net.source at o) → length w.elements ≤ n → w1 ≡ spent w → ReachesIn w1 v far p r → r.count < 65536
      → Reached net w v at o p r
  reached_on p r far w1 n h is short e reach few = go (net.source at o) refl
    where
      go : (t : Option ConnectionEnd) → net.source at o ≡ t → Reached net w v at o p r
      go (Some f) t = reached_far p r far w1 h (t ∙ ap Some (sym (is ∙ ap (far_of n) t))) e reach few
      go None t =
          let nowhere_is : far.element ≡ n = ap (λ (f : ConnectionEnd). f.element) (is ∙ ap (far_of n) t) in
          let same : length w1.elements ≡ length w.elements = ap (λ (u : RunState). length u.elements) e in
          let gone = element_past w1 far.element (omega (arith, nowhere_is, same, short)) in
          let (quiet, run_state, at_is, inputs_are, count_is, first_is) = rw (gone, stored-blank) at reach.reached in
          reached_unconnected p r h t (run_state ∙ e) quiet (count_is ∙ ap (λ (x : PortRange). x.count) (sym (tries-blank 0 far.port)))

-- taking a stored packet out of an element spends no crossing
pub stored-left : (o : Option Stored) (at : ℕ) (w v : RunState) (p : Packet) (held : Bool)
    → MatchOption o ((held ≡ false) × (v ≡ w)) (λ s. (held ≡ true) × (s.packet ≡ p) × (v ≡ with_state w at s.state)) → v.left ≡ w.left
stored-left None at w v p held h = ap (λ (u : RunState). u.left) h.1
stored-left (Some s) at w v p held h = ap (λ (u : RunState). u.left) h.2

-- a packet that was pushed on is pushed on by one more step
pub along_next : (net : Wiring) (w v u : RunState) (at first count : ℕ) (p : Packet) (far next : ℕ) (q : Packet) (to output still : ℕ) (r : Packet)
    → Along net w v at first count p far next 1 q → Pushed net v u far next q to output still r → Along net w u at first count p to output still r
along_next net w v u at first count p far next q to output zero r over step = record {
  made = step.made ∙ over.made;
  fewer = omega (arith, over.fewer, step.fewer);
  falls = omega (arith, over.falls, step.fewer);
  more = λ h e. absurd (omega arith);
}
along_next net w v u at first count p far next q to output (suc still) r over step =
    let spends : u.left < v.left = step.spends (omega arith) in
    record {
      made = step.made ∙ over.made;
      fewer = omega (arith, over.fewer, spends);
      falls = omega (arith, over.falls, spends, step.few);
      more = λ h e. omega (arith, over.falls, over.fewer, spends, step.few, e);
    }

pub along_one : (net : Wiring) (w v u : RunState) (at first count : ℕ) (p : Packet) (far next : ℕ) (q : Packet) (to output still : ℕ) (r : Packet)
    → Along net w v at first count p far next 1 q → Pushed net v u far next q to output still r → still ≡ 1 → Along net w u at first count p to output 1 r
along_one net w v u at first count p far next q to output still r over step one = rw one at (along_next net w v u at first count p far next q to output still r over step)

-- if no output is left, it does not matter which element had the packet last
pub along_over : (net : Wiring) (w v : RunState) (at first count : ℕ) (p : Packet) (far next still : ℕ) (q : Packet) (far' next' : ℕ) → Along net w v at first count p far next still q → still ≡ 0
    → Along net w v at first count p far' next' 0 q
along_over net w v at first count p far next still q far' next' over none = record {
  made = sym (spread-zero (λ u o. push net v.left u far o q) still next v none) ∙ over.made;
  fewer = over.fewer;
  falls = omega (arith, over.falls, none);
  more = λ h e. absurd (omega arith);
}

-- the first step
pub pushed_along : (net : Wiring) (w v : RunState) (at o : ℕ) (p : Packet) (far first still : ℕ) (q : Packet) → Pushed net w v at o p far first still q → Along net w v at o 1 p far first still q
pushed_along net w v at o p far first still q step =
    along_next net w w v at o 1 p at o p far first still q (record { made = refl; fewer = omega arith; falls = omega arith; more = λ h e. absurd (omega arith) }) step

-- two sequences of steps, one after the other, are a sequence of steps
pub along_on : (net : Wiring) (w v u : RunState) (at first : ℕ) (p : Packet) (far next still : ℕ) (q : Packet) (to output more : ℕ) (r : Packet)
    → Along net w v at first 1 p far next still q → Along net v u far next still q to output more r → (still ≡ 0 → more ≡ 0) → Along net w u at first 1 p to output more r
along_on net w v u at first p far next still q to output more r over later none = record {
  made = later.made ∙ over.made;
  fewer = omega (arith, over.fewer, later.fewer);
  falls = omega (arith, over.falls, later.falls);
  more = λ h e. go still refl h;
}
  where
    go : (n : ℕ) → still ≡ n → 1 < more → more + 131072 * u.left < 131072 * w.left
    go zero e h = absurd (omega (arith, none e, h))
    go (suc zero) e h = omega (arith, later.more h e, over.fewer)
    go (suc (suc n)) e h = omega (arith, later.falls, over.more (omega (arith, e)) refl)

-- a packet that was pushed on is dropped because no crossing is left
pub along_lost : (net : Wiring) (w v u : RunState) (at first count : ℕ) (p : Packet) (far next : ℕ) (q : Packet) (to output : ℕ) → Along net w v at first count p far next 1 q
    → v.left ≡ 0 → u ≡ overrun v → Along net w u at first count p to output 0 q
along_lost net w v u at first count p far next q to output over none lost =
    let left = ap (λ (x : RunState). x.left) lost in
    record {
      made = lost ∙ sym (push-none net v far next v.left q (inr none)) ∙ over.made;
      fewer = omega (arith, over.fewer, left);
      falls = omega (arith, over.falls, left);
      more = λ h e. absurd (omega arith);
    }

pub not_one : (n : ℕ) → n ≢ 1 → (n ≡ 0) ⊎ (1 < n)
not_one zero h = inl refl
not_one (suc zero) h = absurd (h refl)
not_one (suc (suc n)) h = inr (omega arith)
