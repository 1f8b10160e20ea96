-- Lemmas about an engine turn if a push is on top, by what it read and wrote in the slots.
use Rattle.std.proofs.Common.{◌≡◌, ℕ, ◌+◌, ◌-◌, ◌<◌, ◌≤◌, ◌⊎◌, refl, sym, ap, ◌∙◌, Bool, true, false, List, ◌∷◌, length, take, set, get_or, arith}
use Rattle.std.proofs.lemmas.List.{take-set, get_or-set_same, get_or_default, length-take-le}
use Rattle.click_engine.specs.RunState.{Wiring, RunState}
use Rattle.click_engine.specs.Frames.{Frame, TransferStack, IsTurn, sends_first}
use Rattle.click_engine.specs.kept.Transfers.{Pushed}
use Rattle.click_engine.specs.kept.Slots.{sends_of, frames_of, last_of, CopiedUp}
use Rattle.click_engine.specs.declared.transfer_stack.PushFrame.{PushFrame}
use Rattle.click_engine.specs.declared.transfer_stack.PullFrame.{PullFrame}
use Rattle.click_engine.proofs.OfFrames.FrameTurns.{transfer_stack, turn_at, sends_ended, sends_taken, sends_last, sends_moved, sends_begun}
use Rattle.click_engine.proofs.OfFrames.SlotFrames.{transfer_stack_is, frames-more, frames-set, last-kept, last-take, last-above, last-free, sends_some, frames-length}

pub some_sending : (old : TransferStack) (d : ℕ) (xs : List PushFrame) (ys : List PullFrame) (got : Bool) (r : ℕ) → transfer_stack (frames_of (take d xs) ys) (last_of got xs) r ≡ old
    → sends_first old.frames ≡ true → 0 < d
some_sending old d xs ys got r view top = sends_some d xs ys (ap (λ (m : TransferStack). sends_first m.frames) view ∙ top)

module _ (net : Wiring) (w v : RunState) (old : TransferStack) (d : ℕ) (xs : List PushFrame) (ys : List PullFrame) (got : Bool) (r : ℕ)
    (view : transfer_stack (frames_of (take d xs) ys) (last_of got xs) r ≡ old) (top : sends_first old.frames ≡ true) (inside : d ≤ length xs)
    (fits : length old.frames + w.left ≤ old.room) (s : PushFrame) (read : s ≡ get_or xs (d - 1) s) where
  some : 0 < d
  some = some_sending old d xs ys got r view top

  abbrev below : List Frame
  below = frames_of (take (d - 1) xs) ys

  before : old ≡ transfer_stack (sends_of s ∷ below) (last_of got xs) r
  before =
      let k = some in
      let up : d ≡ d - 1 + 1 = omega arith in
      sym view ∙ transfer_stack_is _ _ _ _ r (ap (λ n. frames_of (take n xs) ys) up ∙ frames-more (d - 1) xs ys s (omega arith) read) refl

  pub push_ended : s.count ≡ 0 → IsTurn net w old w (transfer_stack (frames_of (take (d - 1) (set xs (d - 1) s)) ys) (last_of got (set xs (d - 1) s)) r)
  push_ended c =
      turn_at net w w old _ (sends_of s ∷ below) below (last_of got xs) (last_of got xs) r before
      (transfer_stack_is _ _ _ _ r (ap (λ zs. frames_of zs ys) (take-set xs (d - 1) s)) (last-kept got xs (d - 1) s (ap (λ (x : PushFrame). x.packet) read)))
      (λ h. sends_ended net w below (last_of got xs) r s c h) fits

  module _ (t : PushFrame) (over : Pushed net w v s.at s.first s.packet t.at t.first t.count t.packet) (one : s.count ≡ 1) (free : (0 < d - 1) ⊎ (got ≡ false)) where
    pub push_taken : 0 < t.count → IsTurn net w old v (transfer_stack (frames_of (take d (set xs (d - 1) t)) ys) (last_of got (set xs (d - 1) t)) r)
    push_taken c =
        let k = some in
        let up : d ≡ d - 1 + 1 = omega arith in
        turn_at net w v old _ (sends_of s ∷ below) (sends_of t ∷ below) (last_of got xs) (last_of got xs) r before
        (transfer_stack_is _ _ _ _ r (ap (λ n. frames_of (take n (set xs (d - 1) t)) ys) up ∙ frames-set (d - 1) xs ys t (omega arith)) (last-free got xs (d - 1) t free))
        (λ h. sends_taken net w below (last_of got xs) r v s t over one c h) fits

    pub push_last : t.count ≡ 0 → IsTurn net w old v (transfer_stack (frames_of (take (d - 1) (set xs (d - 1) t)) ys) (last_of got (set xs (d - 1) t)) r)
    push_last c =
        turn_at net w v old _ (sends_of s ∷ below) below (last_of got xs) (last_of got xs) r before
        (transfer_stack_is _ _ _ _ r (ap (λ zs. frames_of zs ys) (take-set xs (d - 1) t)) (last-free got xs (d - 1) t free))
        (λ h. sends_last net w below (last_of got xs) r v s t over one c h) fits

  module _ (m : PushFrame) (at_is : m.at ≡ s.at) (first_is : m.first ≡ s.first + 1) (count_is : m.count ≡ s.count - 1) (packet_is : m.packet ≡ s.packet) (more : 0 < s.count)
      (zs : List PushFrame) (copied : CopiedUp (set xs (d - 1) m) zs (d - 1)) (u : PushFrame) (above : u ≡ get_or zs (d - 1 + 1) u) (t : PushFrame) (over : Pushed net w v s.at s.first u.packet t.at t.first t.count t.packet) where
    moved_in : m.packet ≡ (get_or (set xs (d - 1) m) (d - 1) u).packet
    moved_in = let k = some in ap (λ (x : PushFrame). x.packet) (sym (get_or-set_same xs (d - 1) m u (omega arith)))

    same_packet : u.packet ≡ s.packet
    same_packet = ap (λ (x : PushFrame). x.packet) above ∙ copied.packet u ∙ sym moved_in ∙ packet_is

    over_s : Pushed net w v s.at s.first s.packet t.at t.first t.count t.packet
    over_s = rw (← same_packet) over

    last_same : last_of got (set zs (d - 1 + 1) t) ≡ last_of got xs
    last_same =
        last-above got zs (d - 1 + 1) t (omega arith)
        ∙ last-take got (set xs (d - 1) m) zs (d - 1 + 1) (omega arith) copied.below
        ∙ last-kept got xs (d - 1) m (let k = some in packet_is ∙ ap (λ (x : PushFrame). x.packet) (read ∙ get_or_default xs (d - 1) s m (omega arith)))

    lower : frames_of (take (d - 1 + 1) zs) ys ≡ sends_of m ∷ below
    lower = let k = some in ap (λ ts. frames_of ts ys) copied.below ∙ frames-set (d - 1) xs ys m (omega arith)

    pub push_moved : t.count ≡ 0 → IsTurn net w old v (transfer_stack (frames_of (take d (set zs (d - 1 + 1) t)) ys) (last_of got (set zs (d - 1 + 1) t)) r)
    push_moved c =
        let k = some in
        let up : d ≡ d - 1 + 1 = omega arith in
        turn_at net w v old _ (sends_of s ∷ below) (sends_of m ∷ below) (last_of got xs) (last_of got xs) r before
        (transfer_stack_is _ _ _ _ r (ap (λ n. frames_of (take n (set zs (d - 1 + 1) t)) ys) up ∙ ap (λ ts. frames_of ts ys) (take-set zs (d - 1 + 1) t) ∙ lower) last_same)
        (λ h. sends_moved net w below (last_of got xs) r v s t over_s m at_is first_is count_is packet_is more c h) fits

    pub push_begun : 0 < t.count → IsTurn net w old v (transfer_stack (frames_of (take (d - 1 + 2) (set zs (d - 1 + 1) t)) ys) (last_of got (set zs (d - 1 + 1) t)) r)
    push_begun c =
        let long = copied.long in
        let up : d - 1 + 2 ≡ d - 1 + 1 + 1 = omega arith in
        turn_at net w v old _ (sends_of s ∷ below) (sends_of t ∷ sends_of m ∷ below) (last_of got xs) (last_of got xs) r before
        (transfer_stack_is _ _ _ _ r (ap (λ n. frames_of (take n (set zs (d - 1 + 1) t)) ys) up ∙ frames-set (d - 1 + 1) zs ys t long ∙ ap (λ fs. sends_of t ∷ fs) lower) last_same)
        (λ h. sends_begun net w below (last_of got xs) r v s t over_s m at_is first_is count_is packet_is more c h) fits

pub sending_fits : (old : TransferStack) (d : ℕ) (xs : List PushFrame) (ys : List PullFrame) (got : Bool) (r n : ℕ) → transfer_stack (frames_of (take d xs) ys) (last_of got xs) r ≡ old
    → d ≤ length xs → length old.frames + n ≤ old.room → d ≤ r
sending_fits old d xs ys got r n view inside fits =
    let fits_here : length (frames_of (take d xs) ys) + n ≤ r = rw (← view) at fits in
    omega (arith, fits_here, frames-length (take d xs) ys, length-take-le d xs inside)
