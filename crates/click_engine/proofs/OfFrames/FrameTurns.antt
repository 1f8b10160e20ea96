-- Lemmas about one engine turn, by the topmost frame.
use Rattle.std.proofs.Common.{◌≡◌, ℕ, suc, ◌+◌, ◌-◌, ◌<◌, ◌≤◌, refl, sym, ap, ◌∙◌, Option, Some, None, List, [], ◌∷◌, length, Bool, true, false, if◌then◌else◌, arith}
use Rattle.click_packet.specs.Packet.{Packet}
use Rattle.click_classes.specs.Acts.{after}
use Rattle.click_classes.specs.declared.packet_effects.PortRange.{PortRange}
use Rattle.click_engine.specs.RunState.{Wiring, RunState, GivesOut}
use Rattle.click_engine.specs.Run.{push, pull, sent, asked, given, Pulled, nothing}
use Rattle.click_engine.specs.Frames.{Frame, Sends, Pulls, Asks, TransferStack, resume, finish, moved_on, ended, handed_on, moved, begun, to_do, IsTurn}
use Rattle.click_engine.specs.kept.Transfers.{Pushed, Reached}
use Rattle.click_engine.specs.kept.Slots.{sends_of}
use Rattle.click_engine.specs.declared.transfer_stack.PushFrame.{PushFrame}
use Rattle.click_engine.specs.declared.transfers.PullResult.{PullResult}
use Rattle.click_engine.proofs.OfRuns.RunSteps.{spread-suc, spread-zero, ask-zero, ask-none, ask-some}
use Rattle.click_engine.proofs.OfRuns.PushDepth.{sent-slack, push-left}
use Rattle.click_engine.proofs.OfRuns.PullDepth.{pull-left, pull-slack, asked-slack, given-slack}

abbrev pub transfer_stack : List Frame → Option Packet → ℕ → TransferStack
transfer_stack fs a r = record { frames = fs; last = a; room = r }

abbrev pub left_with : RunState → Option Packet → Pulled
left_with w a = record { run_state = w; packet = a }

to_do-le : (a b : ℕ) (fs : List Frame) → a ≤ b → to_do a fs ≤ to_do b fs
to_do-le a b [] h = omega arith
to_do-le a b (f ∷ fs) h = omega (arith, to_do-le a b fs h)

to_do-less : (a b : ℕ) (fs : List Frame) → a < b → to_do a fs + 131072 ≤ to_do b fs
to_do-less a b [] h = omega arith
to_do-less a b (f ∷ fs) h = omega (arith, to_do-less a b fs h)

module _ (net : Wiring) where
  -- a push at several outputs is a push at the first one, and then at the others
  pub sends-next : (w : RunState) (a : Option Packet) (at first count n : ℕ) (p : Packet) → count ≡ suc n
      → resume net (Sends at first count p) (left_with w a) ≡ resume net (Sends at (first + 1) n p) (left_with (push net w.left w at first p) a)
  sends-next w a at first count n p e =
      let v = push net w.left w at first p in
      ap (λ u. left_with u a) (
      spread-suc (λ u o. push net w.left u at o p) count n first w e
      ∙ sent-slack net w.left v.left at p n (first + 1) v (push-left net w.left w at first p) (omega arith))

  -- asking several inputs is asking the first one, and then the others
  pub asks-next : (w : RunState) (at ins count n input back : ℕ) → count ≡ suc n
      → resume net (Asks at ins count input back) (left_with w None) ≡ resume net (Asks at ins n (after ins input) input) (pull net w.left w at input)
  asks-next w at ins count n input back e = go (pull net w.left w at input) refl (pull net w.left w at input).packet refl
    where
      go : (r : Pulled) → pull net w.left w at input ≡ r → (o : Option Packet) → r.packet ≡ o
          → asked net w.left at ins count input w ≡ resume net (Asks at ins n (after ins input) input) r
      go r same None f =
          let fewer = pull-left net w.left w at input in
          let less : r.run_state.left ≤ w.left = rw (sym same) fewer in
          rw f (
          ask-none (λ u i. pull net w.left u at i) (λ u i q. given net w.left at u i q) ins count n input w e (ap (λ (s : Pulled). s.packet) same ∙ f)
          ∙ ap (λ (s : Pulled). asked net w.left at ins n (after ins input) s.run_state) same
          ∙ asked-slack net w.left r.run_state.left at ins (λ u i. pull-slack net w.left r.run_state.left u at i) n (after ins input) r.run_state less (omega arith))
      go r same (Some p) f =
          let fewer = pull-left net w.left w at input in
          let less : r.run_state.left ≤ w.left = rw (sym same) fewer in
          rw f (
          ask-some (λ u i. pull net w.left u at i) (λ u i q. given net w.left at u i q) ins count n input w p e (ap (λ (s : Pulled). s.packet) same ∙ f)
          ∙ ap (λ (s : Pulled). given net w.left at s.run_state input p) same
          ∙ given-slack net w.left r.run_state.left at r.run_state input p less (omega arith))

  -- a turn between the known stacks is a turn between the stacks that are equal to them
  pub turn_at : (w v : RunState) (old new : TransferStack) (fs gs : List Frame) (a b : Option Packet) (r : ℕ) → old ≡ transfer_stack fs a r → new ≡ transfer_stack gs b r
      → (length fs + w.left ≤ r → IsTurn net w (transfer_stack fs a r) v (transfer_stack gs b r)) → length old.frames + w.left ≤ old.room → IsTurn net w old v new
  turn_at w v old new fs gs a b r e f t h =
      let fits : length fs + w.left ≤ r = rw e at h in
      rw (e, f) (t fits)

  module _ (w : RunState) (below : List Frame) (a : Option Packet) (r : ℕ) where
    pub sends_ended : (s : PushFrame) → s.count ≡ 0 → length (sends_of s ∷ below) + w.left ≤ r
        → IsTurn net w (transfer_stack (sends_of s ∷ below) a r) w (transfer_stack below a r)
    sends_ended s c h = record {
      keeps = ap (λ u. finish net below (left_with u a)) (sym (spread-zero (λ u o. push net w.left u s.at o s.packet) s.count s.first w c));
      step = ended (sends_of s) below refl (omega arith) refl;
      fewer = omega arith;
      one = omega arith;
      room = refl;
      fits = omega arith;
      falls = omega arith;
    }

    module _ (v : RunState) (s t : PushFrame) (over : Pushed net w v s.at s.first s.packet t.at t.first t.count t.packet) where
      sends-over : (n : ℕ) → s.count ≡ suc n
          → resume net (Sends s.at (s.first + 1) n s.packet) (resume net (sends_of t) (left_with v a)) ≡ resume net (sends_of s) (left_with w a)
      sends-over n c =
          ap (λ u. resume net (Sends s.at (s.first + 1) n s.packet) (left_with u a)) over.made ∙ sym (sends-next w a s.at s.first s.count n s.packet c)

      pub sends_taken : s.count ≡ 1 → 0 < t.count → length (sends_of s ∷ below) + w.left ≤ r
          → IsTurn net w (transfer_stack (sends_of s ∷ below) a r) v (transfer_stack (sends_of t ∷ below) a r)
      sends_taken c more h = record {
        keeps = ap (λ u. finish net below u) (sends-over 0 c);
        step = handed_on (sends_of s) (sends_of t) below refl (omega arith) refl;
        fewer = over.fewer;
        one = over.one;
        room = refl;
        fits = omega (arith, over.fewer);
        falls = omega (arith, to_do-less v.left w.left below (over.spends more), over.few);
      }

      pub sends_last : s.count ≡ 1 → t.count ≡ 0 → length (sends_of s ∷ below) + w.left ≤ r
          → IsTurn net w (transfer_stack (sends_of s ∷ below) a r) v (transfer_stack below a r)
      sends_last c none h = record {
        keeps =
            ap (λ u. finish net below (left_with u a)) (sym (spread-zero (λ u o. push net v.left u t.at o t.packet) t.count t.first v none))
            ∙ ap (λ u. finish net below u) (sends-over 0 c);
        step = ended (sends_of s) below refl (omega arith) refl;
        fewer = over.fewer;
        one = over.one;
        room = refl;
        fits = omega (arith, over.fewer);
        falls = omega (arith, to_do-le v.left w.left below over.fewer);
      }

      module _ (m : PushFrame) (at_is : m.at ≡ s.at) (first_is : m.first ≡ s.first + 1) (count_is : m.count ≡ s.count - 1) (packet_is : m.packet ≡ s.packet) (some : 0 < s.count) where
        on : sends_of m ≡ moved_on (sends_of s)
        on = rw (at_is, first_is, count_is, packet_is) refl

        pub sends_moved : t.count ≡ 0 → length (sends_of s ∷ below) + w.left ≤ r
            → IsTurn net w (transfer_stack (sends_of s ∷ below) a r) v (transfer_stack (sends_of m ∷ below) a r)
        sends_moved none h = record {
          keeps =
              ap (λ f. finish net below (resume net f (left_with v a))) on
              ∙ ap (λ u. finish net below (resume net (moved_on (sends_of s)) (left_with u a))) (sym (spread-zero (λ u o. push net v.left u t.at o t.packet) t.count t.first v none))
              ∙ ap (λ u. finish net below u) (sends-over (s.count - 1) (omega arith));
          step = moved (sends_of s) below refl (ap (λ f. f ∷ below) on);
          fewer = over.fewer;
          one = over.one;
          room = refl;
          fits = omega (arith, over.fewer);
          falls = omega (arith, to_do-le v.left w.left below over.fewer);
        }

        pub sends_begun : 0 < t.count → length (sends_of s ∷ below) + w.left ≤ r
            → IsTurn net w (transfer_stack (sends_of s ∷ below) a r) v (transfer_stack (sends_of t ∷ sends_of m ∷ below) a r)
        sends_begun more h = record {
          keeps =
              ap (λ f. finish net below (resume net f (resume net (sends_of t) (left_with v a)))) on
              ∙ ap (λ u. finish net below u) (sends-over (s.count - 1) (omega arith));
          step = begun (sends_of s) (sends_of t) below refl (ap (λ f. sends_of t ∷ f ∷ below) on);
          fewer = over.fewer;
          one = over.one;
          room = refl;
          fits = omega (arith, over.spends more);
          falls = omega (arith, to_do-less v.left w.left below (over.spends more), over.few);
        }

  -- a pull that asks nothing more is answered or not
  replied : (held : Bool) (v : RunState) (q : Packet) (asks : Pulled) → asks ≡ nothing v
      → left_with v (if held then Some q else None) ≡ (if held then left_with v (Some q) else asks)
  replied true v q asks e = refl
  replied false v q asks e = sym e

  module _ (w v : RunState) (below : List Frame) (r : ℕ) (q : Packet) (rep : PullResult) where
    reached-none : (at input : ℕ) → Reached net w v at input q rep → rep.count ≡ 0
        → left_with v (if rep.is_answered then Some q else None) ≡ pull net w.left w at input
    reached-none at input over none =
        replied rep.is_answered v q _ (ask-zero (λ u i. pull net v.left u rep.at i) (λ u i p. given net v.left rep.at u i p) rep.inputs rep.count rep.first v none) ∙ over.made

    reached-more : (at input : ℕ) → Reached net w v at input q rep → 0 < rep.count
        → asked net v.left rep.at rep.inputs rep.count rep.first v ≡ pull net w.left w at input
    reached-more at input over more = let alone = over.alone more in rw alone at over.made

    pub pulls_ended : (a : Option Packet) (at input : ℕ) → Reached net w v at input q rep → rep.count ≡ 0 → length (Pulls at input ∷ below) + w.left ≤ r
        → IsTurn net w (transfer_stack (Pulls at input ∷ below) a r) v (transfer_stack below (if rep.is_answered then Some q else None) r)
    pulls_ended a at input over none h = record {
      keeps = ap (λ u. finish net below u) (reached-none at input over none);
      step = ended (Pulls at input) below refl tt refl;
      fewer = over.fewer;
      one = over.one;
      room = refl;
      fits = omega (arith, over.fewer);
      falls = omega (arith, to_do-le v.left w.left below over.fewer);
    }

    pub pulls_asks : (a : Option Packet) (at input back : ℕ) → Reached net w v at input q rep → 0 < rep.count → length (Pulls at input ∷ below) + w.left ≤ r
        → IsTurn net w (transfer_stack (Pulls at input ∷ below) a r) v (transfer_stack (Asks rep.at rep.inputs rep.count rep.first back ∷ below) None r)
    pulls_asks a at input back over more h = record {
      keeps = ap (λ u. finish net below u) (reached-more at input over more);
      step = handed_on (Pulls at input) (Asks rep.at rep.inputs rep.count rep.first back) below refl tt refl;
      fewer = over.fewer;
      one = over.one;
      room = refl;
      fits = omega (arith, over.fewer);
      falls = omega (arith, to_do-less v.left w.left below (over.spends more), over.few);
    }

    module _ (at ins count input back : ℕ) (some : 0 < count) (over : Reached net w v at input q rep) where
      abbrev first_asks : Frame
      first_asks = Asks at ins count input back

      abbrev next_asks : Frame
      next_asks = Asks at ins (count - 1) (after ins input) input

      asks-over : resume net next_asks (pull net w.left w at input) ≡ resume net first_asks (left_with w None)
      asks-over = sym (asks-next w at ins count (count - 1) input back (omega arith))

      pub asks_moved : rep.count ≡ 0 → length (first_asks ∷ below) + w.left ≤ r
          → IsTurn net w (transfer_stack (first_asks ∷ below) None r) v (transfer_stack (next_asks ∷ below) (if rep.is_answered then Some q else None) r)
      asks_moved none h = record {
        keeps = ap (λ u. finish net below (resume net next_asks u)) (reached-none at input over none) ∙ ap (λ u. finish net below u) asks-over;
        step = moved first_asks below refl refl;
        fewer = over.fewer;
        one = over.one;
        room = refl;
        fits = omega (arith, over.fewer);
        falls = omega (arith, to_do-le v.left w.left below over.fewer);
      }

      pub asks_begun : (b : ℕ) → 0 < rep.count → length (first_asks ∷ below) + w.left ≤ r
          → IsTurn net w (transfer_stack (first_asks ∷ below) None r) v (transfer_stack (Asks rep.at rep.inputs rep.count rep.first b ∷ next_asks ∷ below) None r)
      asks_begun b more h = record {
        keeps = ap (λ u. finish net below (resume net next_asks u)) (reached-more at input over more) ∙ ap (λ u. finish net below u) asks-over;
        step = begun first_asks (Asks rep.at rep.inputs rep.count rep.first b) below refl refl;
        fewer = over.fewer;
        one = over.one;
        room = refl;
        fits = omega (arith, over.spends more);
        falls = omega (arith, to_do-less v.left w.left below (over.spends more), over.few);
      }

  module _ (w : RunState) (below : List Frame) (r : ℕ) (at ins count input back : ℕ) where
    abbrev this_asks : Frame
    this_asks = Asks at ins count input back

    pub asks_ended : count ≡ 0 → length (this_asks ∷ below) + w.left ≤ r
        → IsTurn net w (transfer_stack (this_asks ∷ below) None r) w (transfer_stack below None r)
    asks_ended none h = record {
      keeps = ap (λ u. finish net below u) (sym (ask-zero (λ u i. pull net w.left u at i) (λ u i p. given net w.left at u i p) ins count input w none));
      step = ended this_asks below refl (omega arith) refl;
      fewer = omega arith;
      one = omega arith;
      room = refl;
      fits = omega arith;
      falls = omega arith;
    }

    module _ (v : RunState) (p q : Packet) (copies : PortRange) (answers : Bool) (out : GivesOut w v at back p q copies answers) where
      same_left : v.left ≡ w.left
      same_left = ap (λ (u : RunState). u.left) out.run_state

      gives-on : left_with (sent net v.left at q copies.count copies.first v) (if answers then Some q else None) ≡ given net w.left at w back p
      gives-on = rw (same_left, out.packet, out.copies_are, out.answers_is, out.run_state) refl

      pub asks_given : copies.count ≡ 0 → length (this_asks ∷ below) + w.left ≤ r
          → IsTurn net w (transfer_stack (this_asks ∷ below) (Some p) r) v (transfer_stack below (if answers then Some q else None) r)
      asks_given none h =
          let same = same_left in
          record {
            keeps =
                ap (λ u. finish net below (left_with u (if answers then Some q else None))) (sym (spread-zero (λ u o. push net v.left u at o q) copies.count copies.first v none))
                ∙ ap (λ u. finish net below u) gives-on;
            step = ended this_asks below refl tt refl;
            fewer = omega arith;
            one = omega arith;
            room = refl;
            fits = omega arith;
            falls = omega (arith, to_do-le v.left w.left below (omega arith));
          }

      pub asks_sends : copies.count < 65536 → length (this_asks ∷ below) + w.left ≤ r
          → IsTurn net w (transfer_stack (this_asks ∷ below) (Some p) r) v (transfer_stack (Sends at copies.first copies.count q ∷ below) (if answers then Some q else None) r)
      asks_sends few h =
          let same = same_left in
          record {
            keeps = ap (λ u. finish net below u) gives-on;
            step = handed_on this_asks (Sends at copies.first copies.count q) below refl tt refl;
            fewer = omega arith;
            one = omega arith;
            room = refl;
            fits = omega arith;
            falls = omega (arith, to_do-le v.left w.left below (omega arith));
          }
