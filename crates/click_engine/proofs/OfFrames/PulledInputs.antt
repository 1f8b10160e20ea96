-- Lemmas about inputs that are asked one after another.
use Rattle.std.proofs.Common.{◌≡◌, ℕ, zero, suc, ◌+◌, ◌-◌, ◌<◌, ◌≤◌, refl, sym, ◌∙◌, Bool, true, false, nat_lt, Some, None, if◌then◌else◌, List, [], ◌∷◌, ◌++◌, length, take, set, arith}
use Rattle.std.proofs.lemmas.Bool.{false≢true}
use Rattle.std.proofs.lemmas.Bool.Decides.{nat_tests}
use Rattle.click_packet.specs.Packet.{Packet}
use Rattle.click_classes.specs.Acts.{after}
use Rattle.click_classes.specs.declared.packet_effects.PortRange.{PortRange}
use Rattle.click_engine.specs.RunState.{Wiring, RunState, GivesOut}
use Rattle.click_engine.specs.Frames.{Sends, Asks, TransferStack, Follows}
use Rattle.click_engine.specs.kept.Asked.{Asked, asks_now}
use Rattle.click_engine.specs.kept.Transfers.{Reached}
use Rattle.click_engine.specs.kept.Slots.{frames_of, last_of}
use Rattle.click_engine.specs.declared.input_scan.InputScan.{InputScan}
use Rattle.click_engine.specs.declared.transfers.PullResult.{PullResult}
use Rattle.click_engine.specs.declared.transfer_stack.PushFrame.{PushFrame}
use Rattle.click_engine.specs.declared.transfer_stack.PullFrame.{PullFrame}
use Rattle.click_engine.specs.declared.transfer_stack.PullFrame.TheVariants.{Tries}
use Rattle.click_engine.proofs.OfFrames.OutputFrames.{follows_on}
use Rattle.click_engine.proofs.OfFrames.SlotFrames.{no_asks, no_push_frames, one_send, last-none}
use Rattle.click_engine.proofs.OfFrames.FirstFrames.{of_turn, last_set, empty, same_room, held}
use Rattle.click_engine.proofs.OfFrames.FrameTurns.{transfer_stack, asks_moved, asks_begun, asks_given, asks_sends, asks_ended}

not_both : (n : ℕ) (b : Bool) → (0 < n → b ≡ false) → b ≡ true → n ≡ 0
not_both zero b f e = refl
not_both (suc n) b f e = absurd (false≢true (sym (f (omega arith)) ∙ e))

positive : (n : ℕ) → 0 < n → nat_lt 0 n ≡ true
positive n h = grind (arith, nat_tests)

-- one more input was asked
module _ (net : Wiring) (w u v : RunState) (s t m : InputScan) (q : Packet) (rep : PullResult)
    (old : (room : ℕ) → w.left < room → Follows net w (transfer_stack (asks_now s ∷ []) None room) u (transfer_stack (asks_now t ∷ []) None room))
    (some : 0 < t.count) (over : Reached net u v t.at t.input q rep) (on : asks_now m ≡ Asks t.at t.inputs (t.count - 1) (after t.inputs t.input) t.input) where
  moved_to : rep.count ≡ 0 → (room : ℕ) → w.left < room → Follows net w (transfer_stack (asks_now s ∷ []) None room) v (transfer_stack (asks_now m ∷ []) (if rep.is_answered then Some q else None) room)
  moved_to none room h =
      let before = old room h in
      rw on (
      follows_on net w u v _ _ _ before
      (of_turn net u v _ _ (asks_moved net u v [] room q rep t.at t.inputs t.count t.input t.back some over none before.fits)))

  pub asked_none : rep.is_answered ≡ false → rep.count ≡ 0 → (room : ℕ) → w.left < room → Follows net w (transfer_stack (asks_now s ∷ []) None room) v (transfer_stack (asks_now m ∷ []) None room)
  asked_none quiet none room h = rw quiet at (moved_to none room h)

  pub asked_held : rep.is_answered ≡ true → Asked net w v s m q rep
  asked_held answered =
      let none = not_both rep.count rep.is_answered over.alone answered in
      record {
        follows = λ room h. rw none (moved_to none room h);
        alone = over.alone;
        over = λ quiet. absurd (false≢true (sym quiet ∙ answered));
      }

  pub asked_more : 0 < rep.count → Asked net w v s m q rep
  asked_more more = record {
    follows =
        λ room h. let before = old room h in
        rw (positive rep.count more, over.alone more, on) (
        follows_on net w u v _ _ _ before
        (of_turn net u v _ _ (asks_begun net u v [] room q rep t.at t.inputs t.count t.input t.back some over 0 more before.fits)));
    alone = over.alone;
    over = λ quiet none. absurd (omega (arith, more, none));
  }

  -- this input was the last one to ask
  pub asked_all : rep.is_answered ≡ false → rep.count ≡ 0 → m.count ≡ 0 → Asked net w v s m q rep
  asked_all quiet none over_all = record {
    follows = λ room h. rw none (moved_to none room h);
    alone = over.alone;
    over = λ _ _. over_all;
  }

-- there is room for the frame of an element that is asked further
pub two_fit : (net : Wiring) (w v : RunState) (s t : InputScan) (p : Packet) (rep : PullResult) → Asked net w v s t p rep → (room : ℕ) → w.left < room → 0 < rep.count → 1 < room
two_fit net w v s t p rep over room h more =
    let fits = (over.follows room h).fits in
    let two : 2 + v.left ≤ room = rw (positive rep.count more) at fits in
    omega (arith, two)

-- the slots after these inputs were asked
module _ (old : TransferStack) (d : ℕ) (xs : List PushFrame) (ys : List PullFrame) (got : Bool) (r : ℕ)
    (view : transfer_stack (frames_of (take d xs) ys) (last_of got xs) r ≡ old) (done : old.frames ≡ []) (inside : d ≤ length xs) (first : 0 < length xs)
    (net : Wiring) (w v : RunState) (a t : InputScan) (p : Packet) (rep : PullResult) (over : Asked net w v a t p rep) (fits : w.left < old.room) (s : PushFrame) where
  abbrev begun : TransferStack
  begun = transfer_stack (asks_now a ∷ []) None old.room

  module _ (answered : rep.is_answered ≡ true) (u : RunState) (copies : PortRange) (answers : Bool) (out : GivesOut v u t.at t.back p s.packet copies answers) where
    answer : Follows net w begun v (transfer_stack (asks_now t ∷ []) (Some p) old.room)
    answer =
        let before = over.follows old.room fits in
        let none = not_both rep.count rep.is_answered over.alone answered in
        rw (none, answered) at before

    pub asked_gives : copies.count ≡ 0 → Follows net w begun u (transfer_stack (frames_of (take d (set xs 0 s)) ys) (last_of answers (set xs 0 s)) r)
    asked_gives none =
        rw (held old d xs ys got r view done inside first s answers) (
        follows_on net w v u _ _ _ answer
        (of_turn net v u _ _ (asks_given net v [] old.room t.at t.inputs t.count t.input t.back u p s.packet copies answers out none answer.fits)))

    pub asked_sends : copies.count < 65536 → s.at ≡ t.at → s.first ≡ copies.first → s.count ≡ copies.count
        → Follows net w begun u (transfer_stack (frames_of (take 1 (set xs 0 s)) ys) (last_of answers (set xs 0 s)) r)
    asked_sends few at_is first_is many_are =
        let frames : frames_of (take 1 (set xs 0 s)) ys ≡ Sends t.at copies.first copies.count s.packet ∷ [] =
        one_send xs s ys first ∙ rw (at_is, first_is, many_are, no_asks (take d xs) ys (empty old d xs ys got r view done)) refl in
        rw (frames, last_set xs s answers first, same_room old d xs ys got r view done) (
        follows_on net w v u _ _ _ answer
        (of_turn net v u _ _ (asks_sends net v [] old.room t.at t.inputs t.count t.input t.back u p s.packet copies answers out few answer.fits)))

  pub asked_waits : 0 < rep.count → (zs : List PullFrame) (x y : PullFrame) → zs ≡ (ys ++ x ∷ []) ++ y ∷ [] → x ≡ Tries t.at t.inputs t.count t.input t.back → y ≡ Tries rep.at rep.inputs rep.count rep.first 0
      → Follows net w begun v (transfer_stack (frames_of (take d (set xs 0 s)) zs) (last_of false (set xs 0 s)) r)
  asked_waits more zs x y e x_is y_is =
      let none = empty old d xs ys got r view done in
      let before = over.follows old.room fits in
      let frames : frames_of (take d (set xs 0 s)) zs ≡ Asks rep.at rep.inputs rep.count rep.first 0 ∷ asks_now t ∷ [] =
      rw (e, no_asks (take d xs) ys none, no_push_frames d xs ys inside none, x_is, y_is) refl in
      rw (frames, last-none (set xs 0 s), same_room old d xs ys got r view done) (rw (positive rep.count more, over.alone more) at before)

  pub asked_nothing : rep.is_answered ≡ false → rep.count ≡ 0 → Follows net w begun v (transfer_stack (frames_of (take d (set xs 0 s)) ys) (last_of false (set xs 0 s)) r)
  asked_nothing quiet none =
      let over_all = over.over quiet none in
      let before = over.follows old.room fits in
      let waiting : Follows net w begun v (transfer_stack (asks_now t ∷ []) None old.room) = rw (none, quiet) at before in
      rw (held old d xs ys got r view done inside first s false) (
      follows_on net w v v _ _ _ waiting (of_turn net v v _ _ (asks_ended net v [] old.room t.at t.inputs t.count t.input t.back over_all waiting.fits)))
