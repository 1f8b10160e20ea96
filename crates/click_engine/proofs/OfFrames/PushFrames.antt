-- Lemmas about a packet in the topmost slot that is pushed on, step by step.
use Rattle.std.proofs.Common.{◌≡◌, ℕ, ◌+◌, ◌*◌, ◌-◌, ◌<◌, ◌≤◌, ◌⊎◌, refl, sym, ap, ◌∙◌, Bool, false, Option, List, [], ◌∷◌, length, take, set, get_or, arith}
use Rattle.std.proofs.lemmas.List.{take-set}
use Rattle.click_packet.specs.Packet.{Packet}
use Rattle.click_engine.specs.RunState.{Wiring, RunState}
use Rattle.click_engine.specs.Run.{push}
use Rattle.click_engine.specs.Frames.{Frame, Sends, TransferStack, Follows, finish, to_do}
use Rattle.click_engine.specs.kept.Transfers.{Along}
use Rattle.click_engine.specs.kept.Slots.{sends_of, frames_of, last_of}
use Rattle.click_engine.specs.declared.transfer_stack.PushFrame.{PushFrame}
use Rattle.click_engine.specs.declared.transfer_stack.PullFrame.{PullFrame}
use Rattle.click_engine.proofs.OfRuns.RunSteps.{spread-zero}
use Rattle.click_engine.proofs.OfFrames.FrameTurns.{transfer_stack, left_with}
use Rattle.click_engine.proofs.OfFrames.SlotFrames.{transfer_stack_is, frames-more, frames-set, last-free}

pub to_do-moved : (a b : ℕ) (fs : List Frame) → to_do a fs + 131072 * b ≡ to_do b fs + 131072 * a
to_do-moved a b [] = omega arith
to_do-moved a b (f ∷ fs) = omega (arith, to_do-moved a b fs)

module _ (net : Wiring) (w v : RunState) (at first count : ℕ) (p : Packet) (t : PushFrame) where
  module _ (below : List Frame) (a : Option Packet) (r : ℕ) (over : Along net w v at first count p t.at t.first t.count t.packet) (fits : length (Sends at first count p ∷ below) + w.left ≤ r) where
    pub sends_along : Follows net w (transfer_stack (Sends at first count p ∷ below) a r) v (transfer_stack (sends_of t ∷ below) a r)
    sends_along = record {
      keeps = ap (λ u. finish net below (left_with u a)) over.made;
      fewer = over.fewer;
      room = refl;
      fits = omega (arith, over.fewer, fits);
      falls = omega (arith, over.falls, to_do-moved v.left w.left below);
    }

    pub sends_done : t.count ≡ 0 → Follows net w (transfer_stack (Sends at first count p ∷ below) a r) v (transfer_stack below a r)
    sends_done none = record {
      keeps =
          ap (λ u. finish net below (left_with u a)) (sym (spread-zero (λ u o. push net v.left u t.at o t.packet) t.count t.first v none))
          ∙ ap (λ u. finish net below (left_with u a)) over.made;
      fewer = over.fewer;
      room = refl;
      fits = omega (arith, over.fewer, fits);
      falls = omega (arith, over.falls, to_do-moved v.left w.left below);
    }

module _ (net : Wiring) (w v : RunState) (old : TransferStack) (d : ℕ) (xs : List PushFrame) (ys : List PullFrame) (got : Bool) (r : ℕ)
    (view : transfer_stack (frames_of (take d xs) ys) (last_of got xs) r ≡ old) (some : 0 < d) (inside : d ≤ length xs)
    (fits : length old.frames + w.left ≤ old.room) (s : PushFrame) (read : s ≡ get_or xs (d - 1) s)
    (t : PushFrame) (over : Along net w v s.at s.first s.count s.packet t.at t.first t.count t.packet) (free : (0 < d - 1) ⊎ (got ≡ false)) where
  abbrev below : List Frame
  below = frames_of (take (d - 1) xs) ys

  up : d ≡ d - 1 + 1
  up = omega (arith, some)

  before : old ≡ transfer_stack (sends_of s ∷ below) (last_of got xs) r
  before = sym view ∙ transfer_stack_is _ _ _ _ r (ap (λ n. frames_of (take n xs) ys) up ∙ frames-more (d - 1) xs ys s (omega (arith, some, inside)) read) refl

  fits_before : length (sends_of s ∷ below) + w.left ≤ r
  fits_before = rw before at fits

  pub follow_kept : Follows net w old v (transfer_stack (frames_of (take d (set xs (d - 1) t)) ys) (last_of got (set xs (d - 1) t)) r)
  follow_kept =
      let after =
      transfer_stack_is (frames_of (take d (set xs (d - 1) t)) ys) (sends_of t ∷ below) (last_of got (set xs (d - 1) t)) (last_of got xs) r
      (ap (λ n. frames_of (take n (set xs (d - 1) t)) ys) up ∙ frames-set (d - 1) xs ys t (omega (arith, some, inside))) (last-free got xs (d - 1) t free) in
      rw (before, after) (sends_along net w v s.at s.first s.count s.packet t below (last_of got xs) r over fits_before)

  pub follow_ended : t.count ≡ 0 → Follows net w old v (transfer_stack (frames_of (take (d - 1) (set xs (d - 1) t)) ys) (last_of got (set xs (d - 1) t)) r)
  follow_ended none =
      let after =
      transfer_stack_is (frames_of (take (d - 1) (set xs (d - 1) t)) ys) below (last_of got (set xs (d - 1) t)) (last_of got xs) r
      (ap (λ zs. frames_of zs ys) (take-set xs (d - 1) t)) (last-free got xs (d - 1) t free) in
      rw (before, after) (sends_done net w v s.at s.first s.count s.packet t below (last_of got xs) r over fits_before none)
