-- Lemmas about the first frame of a packet run, and about the result of the whole run.
use Rattle.std.proofs.Common.{◌≡◌, ℕ, ◌<◌, IsSome, IsTrue, ◌≤◌, nat_lt, refl, sym, ap, ◌∙◌, Bool, true, false, if◌then◌else◌, Option, MatchOption, Some, None, IfSome, List, [], ◌∷◌, length, take, set, get_or, arith}
use Rattle.std.proofs.lemmas.Bool.{false≢true}
use Rattle.std.proofs.lemmas.Bool.Decides.{nat_tests}
use Rattle.click_packet.specs.Packet.{Packet}
use Rattle.click_classes.specs.Acts.{Stored}
use Rattle.click_engine.specs.RunState.{Wiring, RunState}
use Rattle.click_engine.specs.Run.{push, pull, Pulled}
use Rattle.click_engine.specs.Frames.{Sends, Pulls, Asks, TransferStack, IsTurn, Follows, complete}
use Rattle.click_engine.specs.kept.Slots.{sends_of, frames_of, last_of}
use Rattle.click_engine.specs.declared.transfer_stack.PushFrame.{PushFrame}
use Rattle.click_engine.specs.declared.transfer_stack.PullFrame.{PullFrame}
use Rattle.click_engine.specs.declared.transfers.PullResult.{PullResult}
use Rattle.click_engine.specs.kept.Transfers.{Along, Reached}
use Rattle.click_engine.proofs.OfFrames.PushFrames.{sends_along, sends_done}
use Rattle.click_engine.proofs.OfFrames.OutputFrames.{follows_on}
use Rattle.click_engine.proofs.OfFrames.FrameTurns.{transfer_stack, left_with, pulls_ended, pulls_asks}
use Rattle.click_engine.proofs.OfRuns.PushDepth.{push-slack}
use Rattle.click_engine.proofs.OfFrames.SlotFrames.{no_asks, no_push_frames, one_send, some_packet, last-none}

pub last_set : (xs : List PushFrame) (s : PushFrame) (b : Bool) → 0 < length xs → last_of b (set xs 0 s) ≡ (if b then Some s.packet else None)
last_set [] s b l = absurd (omega (arith, l))
last_set (x ∷ xs) s b l = refl

-- the count is positive if the flag says so
pub some_left : (b : Bool) (n : ℕ) → b ≡ nat_lt 0 n → b ≡ true → 0 < n
some_left b n e h = grind (arith, nat_tests)

pub none_left : (b : Bool) (n : ℕ) → b ≡ nat_lt 0 n → b ≡ false → n ≡ 0
none_left b n e h = grind (arith, nat_tests)

-- there is an answer if and only if the flag is set
pub answered_so : (xs : List PushFrame) (s : PushFrame) (b : Bool) → 0 < length xs → (IsTrue b → IsSome (last_of b (set xs 0 s))) × (IsSome (last_of b (set xs 0 s)) → IsTrue b)
answered_so xs s b l = rw (last_set xs s b l) (go b)
  where
    go : (b : Bool) → (IsTrue b → IsSome (if b then Some s.packet else None)) × (IsSome (if b then Some s.packet else None) → IsTrue b)
    go true = (λ _. refl, λ _. refl)
    go false = (λ h. absurd (false≢true h), λ h. absurd (false≢true h))

pub of_turn : (net : Wiring) (w v : RunState) (a b : TransferStack) → IsTurn net w a v b → Follows net w a v b
of_turn net w v a b t = record { keeps = t.keeps; fewer = t.fewer; room = t.room; fits = t.fits; falls = omega (arith, t.falls) }

module _ (old : TransferStack) (d : ℕ) (xs : List PushFrame) (ys : List PullFrame) (got : Bool) (r : ℕ)
    (view : transfer_stack (frames_of (take d xs) ys) (last_of got xs) r ≡ old) (done : old.frames ≡ []) where
  pub empty : frames_of (take d xs) ys ≡ []
  empty = ap (λ (m : TransferStack). m.frames) view ∙ done

  pub same_room : r ≡ old.room
  same_room = ap (λ (m : TransferStack). m.room) view

  -- without frames, the stack holds only the answer in slot 0, if there is one
  pub held : d ≤ length xs → 0 < length xs → (s : PushFrame) (b : Bool)
      → transfer_stack (frames_of (take d (set xs 0 s)) ys) (last_of b (set xs 0 s)) r ≡ transfer_stack [] (if b then Some s.packet else None) old.room
  held inside first s b =
      let none = no_asks (take d xs) ys empty in
      let zero = no_push_frames d xs ys inside empty in
      rw (zero, none, same_room, last_set xs s b first) refl

  -- the answer began as a push, and was pushed on while exactly one output got it
  module _ (net : Wiring) (w v : RunState) (at : ℕ) (u t : PushFrame) (there : u ≡ get_or xs 0 u) (over : Along net w v at 0 1 u.packet t.at t.first t.count t.packet) (fits : w.left < old.room) (inside : d ≤ length xs) (first : 0 < length xs) where
    abbrev Pushed_on : TransferStack → Option Packet → Type 0
    Pushed_on new o = IfSome o (λ p. Follows net w (transfer_stack (Sends at 0 1 p ∷ []) None old.room) v new)

    of_packet : (new : TransferStack) → Follows net w (transfer_stack (Sends at 0 1 u.packet ∷ []) None old.room) v new → (o : Option Packet) → last_of got xs ≡ o → Pushed_on new o
    of_packet new f None e = tt
    of_packet new f (Some p) e = rw (some_packet got xs u p first there e) at f

    pub answer_pushed : 0 < t.count → Pushed_on (transfer_stack (frames_of (take 1 (set xs 0 t)) ys) (last_of false (set xs 0 t)) r) old.last
    answer_pushed more =
        let frames : frames_of (take 1 (set xs 0 t)) ys ≡ sends_of t ∷ [] = one_send xs t ys first ∙ rw (no_asks (take d xs) ys empty) refl in
        of_packet _ (rw (frames, last-none (set xs 0 t), same_room) (sends_along net w v at 0 1 u.packet t [] None old.room over (omega (arith, fits)))) old.last (ap (λ (m : TransferStack). m.last) view)

    pub answer_ended : t.count ≡ 0 → Pushed_on (transfer_stack (frames_of (take d (set xs 0 t)) ys) (last_of false (set xs 0 t)) r) old.last
    answer_ended none =
        of_packet _ (rw (held inside first t false) (sends_done net w v at 0 1 u.packet t [] None old.room over (omega (arith, fits)) none)) old.last (ap (λ (m : TransferStack). m.last) view)

  -- a pull began, and its first engine turn was made
  module _ (net : Wiring) (w v : RunState) (at : ℕ) (s : PushFrame) (rep : PullResult) (over : Reached net w v at 0 s.packet rep) (fits : w.left < old.room) (inside : d ≤ length xs) (first : 0 < length xs) where
    pub pulled_ended : rep.count ≡ 0
        → Follows net w (transfer_stack (Pulls at 0 ∷ []) None old.room) v (transfer_stack (frames_of (take d (set xs 0 s)) ys) (last_of rep.is_answered (set xs 0 s)) r)
    pulled_ended none = rw (held inside first s rep.is_answered) (of_turn net w v _ _ (pulls_ended net w v [] old.room s.packet rep None at 0 over none (omega (arith, fits))))

    -- the inputs of the element that the pull led to are asked at once
    pub pulled_further : (u : RunState) (new : TransferStack) → 0 < rep.count → Follows net v (transfer_stack (Asks rep.at rep.inputs rep.count rep.first 0 ∷ []) None r) u new
        → Follows net w (transfer_stack (Pulls at 0 ∷ []) None old.room) u new
    pulled_further u new more later =
        follows_on net w v u _ _ _ (of_turn net w v _ _ (pulls_asks net w v [] old.room s.packet rep None at 0 0 over more (omega (arith, fits)))) (rw same_room at later)

  pub still_done : d ≤ length xs → (s : PushFrame) → frames_of (take d (set xs 0 s)) ys ≡ []
  still_done inside s = rw (no_asks (take d xs) ys empty, no_push_frames d xs ys inside empty) refl

-- the packet that a source emitted is the answer
pub taken : (b : Bool) (q : Packet) (m : TransferStack) (room : ℕ) → m ≡ transfer_stack [] (if b then Some q else None) room → (w v : RunState) (X : Stored → Type 0) (o : Option Stored)
    → MatchOption o ((b ≡ false) × (v ≡ w)) (λ s. (b ≡ true) × (s.packet ≡ q) × X s)
    → MatchOption o ((b ≡ false) × (v ≡ w) × (m ≡ transfer_stack [] None room)) (λ s. (b ≡ true) × X s × (m ≡ transfer_stack [] (Some s.packet) room))
taken b q m room h w v X None f = (f.0, f.1, h ∙ rw f.0 refl)
taken b q m room h w v X (Some s) f = (f.0, f.2, h ∙ rw (f.0, f.1) refl)

-- the first packet of a source's task is the answer
pub taken_first : (most burst : ℕ) (some : Bool) → nat_lt 0 burst ≡ some → (q : Packet) (m : TransferStack) (room : ℕ) → m ≡ transfer_stack [] (if nat_lt 0 most then Some q else None) room
    → (w v : RunState) (X : Stored → Type 0) (o : Option Stored)
    → MatchOption (if some then o else None) ((most ≡ 0) × (v ≡ w)) (λ s. (most ≡ burst) × (s.packet ≡ q) × X s)
    → MatchOption (if some then o else None) ((most ≡ 0) × (v ≡ w) × (m ≡ transfer_stack [] None room)) (λ s. (most ≡ burst) × X s × (m ≡ transfer_stack [] (Some s.packet) room))
taken_first most burst false is q m room h w v X o f = (f.0, f.1, h ∙ rw f.0 refl)
taken_first most burst true is q m room h w v X None f = (f.0, f.1, h ∙ rw f.0 refl)
taken_first most burst true is q m room h w v X (Some s) f = (f.0, f.2, h ∙ rw (f.0, is, f.1) refl)

module _ (net : Wiring) (w v : RunState) (m : TransferStack) (a : Option Packet) (r at : ℕ) where
  pub ran_push : (p : Packet) → m ≡ transfer_stack (Sends at 0 1 p ∷ []) None r → complete net w m ≡ left_with v a → v ≡ push net w.left w at 0 p
  ran_push p e f = let g : left_with (push net w.left w at 0 p) None ≡ left_with v a = rw e at f in sym (ap (λ (u : Pulled). u.run_state) g)

  pub ran_pull : m ≡ transfer_stack (Pulls at 0 ∷ []) None r → complete net w m ≡ left_with v a → pull net w.left w at 0 ≡ left_with v a
  ran_pull e f = rw e at f

-- if no frame is left, the packet run is complete
pub ran_done : (net : Wiring) (v : RunState) (m : TransferStack) → m.frames ≡ [] → complete net v m ≡ left_with v m.last
ran_done net v m none = rw none refl

pub ran_answer : (net : Wiring) (w u v : RunState) (new : TransferStack) (a : Option Packet) (r at : ℕ) (o : Option Packet) → IfSome o (λ p. Follows net w (transfer_stack (Sends at 0 1 p ∷ []) None r) u new)
    → complete net u new ≡ left_with v a → (d : ℕ) → w.left ≤ d → IfSome o (λ p. v ≡ push net d w at 0 p)
ran_answer net w u v new a r at None h f d k = tt
ran_answer net w u v new a r at (Some p) h f d k =
    ran_push net w v (transfer_stack (Sends at 0 1 p ∷ []) None r) a r at p refl (sym h.keeps ∙ f) ∙ push-slack net w.left d w at 0 p (omega arith) k
