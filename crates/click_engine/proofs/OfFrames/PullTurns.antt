-- Lemmas about an engine turn if a pull is on top, by what it read and wrote in the slots.
use Rattle.std.proofs.Common.{◌≡◌, ℕ, ◌+◌, ◌-◌, ◌<◌, ◌≤◌, refl, sym, ap, ◌∙◌, Bool, true, false, if◌then◌else◌, Option, Some, None, IsSome, List, [], ◌∷◌, ◌++◌, length, take, set, get_or, arith}
use Rattle.std.proofs.lemmas.Bool.{false≢true}
use Rattle.click_packet.specs.Packet.{Packet}
use Rattle.click_classes.specs.Acts.{after}
use Rattle.click_classes.specs.declared.packet_effects.PortRange.{PortRange}
use Rattle.click_engine.specs.RunState.{Wiring, RunState, GivesOut}
use Rattle.click_engine.specs.Frames.{Frame, Sends, Pulls, Asks, TransferStack, IsTurn, sends_first}
use Rattle.click_engine.specs.kept.Transfers.{Reached}
use Rattle.click_engine.specs.kept.Slots.{asks_of, frames_of, last_of}
use Rattle.click_engine.specs.declared.transfer_stack.PushFrame.{PushFrame}
use Rattle.click_engine.specs.declared.transfer_stack.PullFrame.{PullFrame}
use Rattle.click_engine.specs.declared.transfer_stack.PullFrame.TheVariants.{Pull, Tries}
use Rattle.click_engine.specs.declared.transfers.PullResult.{PullResult}
use Rattle.click_engine.proofs.OfFrames.FrameTurns.{transfer_stack, turn_at, pulls_ended, pulls_asks, asks_moved, asks_begun, asks_ended, asks_given, asks_sends}
use Rattle.click_engine.proofs.OfFrames.SlotFrames.{transfer_stack_is, asks-read, asks-top, asks-set, asks-more, asks-length, sends_none, last-none, last-first, last-read, one_send}

module _ (old : TransferStack) (d : ℕ) (xs : List PushFrame) (ys : List PullFrame) (got : Bool) (r : ℕ)
    (view : transfer_stack (frames_of (take d xs) ys) (last_of got xs) r ≡ old) (none : sends_first old.frames ≡ false) (inside : d ≤ length xs) where
  pub no_sends : d ≡ 0
  no_sends = sends_none d xs ys inside (ap (λ (m : TransferStack). sends_first m.frames) view ∙ none)

  pub some_asks : 0 < length old.frames → 0 < length ys
  some_asks h =
      let here : 0 < length (frames_of (take d xs) ys) = rw (← view) at h in
      let there : 0 < length (frames_of [] ys) = rw no_sends at here in
      omega (arith, there, asks-length ys)

  pub asks_fit : (n : ℕ) → length old.frames + n ≤ old.room → length ys + n ≤ r
  asks_fit n h =
      let here : length (frames_of (take d xs) ys) + n ≤ r = rw (← view) at h in
      let there : length (frames_of [] ys) + n ≤ r = rw no_sends at here in
      omega (arith, there, asks-length ys)

  pub read_top : (n : ℕ) (y : PullFrame) → n ≡ length ys → y ≡ get_or ys (n - 1) y → 0 < length old.frames → take 1 old.frames ≡ asks_of y ∷ []
  read_top n y long read h =
      let k = some_asks h in
      let here : frames_of [] ys ≡ asks_of y ∷ frames_of [] (take (n - 1) ys) = asks-top (n - 1) ys y (omega arith) read in
      let there : frames_of [] ys ≡ old.frames = ap (λ k. frames_of (take k xs) ys) (sym no_sends) ∙ ap (λ (m : TransferStack). m.frames) view in
      ap (take 1) (sym there ∙ here)

-- if a frame is on top, there is a frame
some_top : (fs : List Frame) (f : Frame) → take 1 fs ≡ f ∷ [] → 0 < length fs
some_top [] f e = absurd (cc)
some_top (x ∷ fs) f e = omega arith

no_push_on_top : (fs : List Frame) (f : Frame) → take 1 fs ≡ f ∷ [] → sends_first (f ∷ []) ≡ false → sends_first fs ≡ false
no_push_on_top [] f e q = absurd (cc)
no_push_on_top (Sends at first count p ∷ fs) f e q = absurd (false≢true (sym (ap sends_first e ∙ q)))
no_push_on_top (Pulls at input ∷ fs) f e q = refl
no_push_on_top (Asks at inputs count input back ∷ fs) f e q = refl

same_top : (fs : List Frame) (f g : Frame) (below : List Frame) → fs ≡ g ∷ below → take 1 fs ≡ f ∷ [] → fs ≡ f ∷ below
same_top [] f g below e t = absurd (cc)
same_top (x ∷ fs) f g below e t = let here : x ∷ [] ≡ f ∷ [] = t in let top : x ≡ f = cc in let rest : fs ≡ below = cc in rw (top, rest) refl

module _ (f : Frame) (old : TransferStack) (d : ℕ) (xs : List PushFrame) (ys : List PullFrame) (got : Bool) (r : ℕ)
    (view : transfer_stack (frames_of (take d xs) ys) (last_of got xs) r ≡ old) (top : take 1 old.frames ≡ f ∷ []) (pulls : sends_first (f ∷ []) ≡ false) (inside : d ≤ length xs) where
  none : sends_first old.frames ≡ false
  none = no_push_on_top old.frames f top pulls

  pub top_asks : 0 < length ys
  top_asks = some_asks old d xs ys got r view none inside (some_top old.frames f top)

  pub top_fits : (n : ℕ) → length old.frames + n ≤ old.room → length ys + n ≤ r
  top_fits n h = asks_fit old d xs ys got r view none inside n h

  pub top_alone : d ≡ 0
  top_alone = no_sends old d xs ys got r view none inside

was_answered : (got : Bool) (xs : List PushFrame) → IsSome (last_of got xs) → got ≡ true
was_answered true xs h = refl
was_answered false xs h = let e = last-none xs in absurd (false≢true (rw e at h))

last-held : (held : Bool) (xs : List PushFrame) (s : PushFrame) → 0 < length xs → last_of held (set xs 0 s) ≡ (if held then Some s.packet else None)
last-held held xs s h = last-first held xs s h

module _ (net : Wiring) (w v : RunState) (f : Frame) (old : TransferStack) (d : ℕ) (xs : List PushFrame) (ys : List PullFrame) (got : Bool) (r n : ℕ)
    (view : transfer_stack (frames_of (take d xs) ys) (last_of got xs) r ≡ old) (top : take 1 old.frames ≡ f ∷ []) (pulls : sends_first (f ∷ []) ≡ false) (inside : d ≤ length xs)
    (first : 0 < length xs) (fits : length old.frames + w.left ≤ old.room) (long : n ≡ length ys) where
  abbrev below : List Frame
  below = frames_of [] (take (n - 1) ys)

  zero_is : d ≡ 0
  zero_is = top_alone f old d xs ys got r view top pulls inside

  count_is : length ys ≡ n - 1 + 1
  count_is = let k = top_asks f old d xs ys got r view top pulls inside in omega arith

  before : (a : Option Packet) → last_of got xs ≡ a → old ≡ transfer_stack (f ∷ below) a r
  before a e =
      let z : PullFrame = get_or ys (n - 1) (Pull 0 0) in
      let here : frames_of (take d xs) ys ≡ asks_of z ∷ below = ap (λ k. frames_of (take k xs) ys) zero_is ∙ asks-read (n - 1) ys (Pull 0 0) count_is in
      let there : old.frames ≡ asks_of z ∷ below = sym (ap (λ (m : TransferStack). m.frames) view) ∙ here in
      sym view ∙ transfer_stack_is _ _ _ _ r (ap (λ (m : TransferStack). m.frames) view ∙ same_top old.frames f (asks_of z) below there top) e

  -- if no push is left, all frames are pulls
  alone : (ss : List PushFrame) (zs : List PullFrame) (fs : List Frame) → frames_of [] zs ≡ fs → frames_of (take d ss) zs ≡ fs
  alone ss zs fs e = ap (λ k. frames_of (take k ss) zs) zero_is ∙ e

  module _ (at input : ℕ) (is : f ≡ Pulls at input) (s : PushFrame) (rep : PullResult) (over : Reached net w v at input s.packet rep) where
    before_pull : old ≡ transfer_stack (Pulls at input ∷ below) (last_of got xs) r
    before_pull = rw (← is) (before (last_of got xs) refl)

    pub pull_ended : (zs : List PullFrame) → zs ≡ take (n - 1) ys → rep.count ≡ 0
        → IsTurn net w old v (transfer_stack (frames_of (take d (set xs 0 s)) zs) (last_of rep.is_answered (set xs 0 s)) r)
    pull_ended zs e c =
        turn_at net w v old _ (Pulls at input ∷ below) below (last_of got xs) (if rep.is_answered then Some s.packet else None) r before_pull
        (transfer_stack_is _ _ _ _ r (alone (set xs 0 s) zs below (ap (λ ts. frames_of [] ts) e)) (last-held rep.is_answered xs s first))
        (λ h. pulls_ended net w v below r s.packet rep (last_of got xs) at input over c h) fits

    pub pull_asks : (z : PullFrame) → z ≡ Tries rep.at rep.inputs rep.count rep.first 0 → 0 < rep.count
        → IsTurn net w old v (transfer_stack (frames_of (take d (set xs 0 s)) (set ys (n - 1) z)) (last_of rep.is_answered (set xs 0 s)) r)
    pull_asks z e c =
        turn_at net w v old _ (Pulls at input ∷ below) (asks_of (Tries rep.at rep.inputs rep.count rep.first 0) ∷ below) (last_of got xs) None r before_pull
        (transfer_stack_is _ _ _ _ r (alone (set xs 0 s) (set ys (n - 1) z) _ (asks-set (n - 1) ys z count_is ∙ ap (λ t. asks_of t ∷ below) e))
        (ap (λ b. last_of b (set xs 0 s)) (over.alone c) ∙ last-none (set xs 0 s)))
        (λ h. pulls_asks net w v below r s.packet rep (last_of got xs) at input 0 over c h) fits

  module _ (at ins count input back : ℕ) (is : f ≡ Asks at ins count input back) where
    before_tries : (a : Option Packet) → last_of got xs ≡ a → old ≡ transfer_stack (Asks at ins count input back ∷ below) a r
    before_tries a e = rw (← is) (before a e)

    pub tries_ended : (zs : List PullFrame) → zs ≡ take (n - 1) ys → got ≡ false → count ≡ 0
        → IsTurn net w old w (transfer_stack (frames_of (take d xs) zs) (last_of got xs) r)
    tries_ended zs e unanswered c =
        let quiet : last_of got xs ≡ None = ap (λ b. last_of b xs) unanswered ∙ last-none xs in
        turn_at net w w old _ (Asks at ins count input back ∷ below) below None None r (before_tries None quiet)
        (transfer_stack_is _ _ _ _ r (alone xs zs below (ap (λ ts. frames_of [] ts) e)) quiet)
        (λ h. asks_ended net w below r at ins count input back c h) fits

    module _ (s : PushFrame) (rep : PullResult) (over : Reached net w v at input s.packet rep) (unanswered : old.last ≡ None) (more : 0 < count) (z : PullFrame) (after_is : asks_of z ≡ Asks at ins (count - 1) (after ins input) input) where
      abbrev next_one : Frame
      next_one = Asks at ins (count - 1) (after ins input) input

      quiet : last_of got xs ≡ None
      quiet = ap (λ (m : TransferStack). m.last) view ∙ unanswered

      moved_here : frames_of [] (set ys (n - 1) z) ≡ next_one ∷ below
      moved_here = asks-set (n - 1) ys z count_is ∙ ap (λ t. t ∷ below) after_is

      pub tries_moved : rep.count ≡ 0 → IsTurn net w old v (transfer_stack (frames_of (take d (set xs 0 s)) (set ys (n - 1) z)) (last_of rep.is_answered (set xs 0 s)) r)
      tries_moved c =
          turn_at net w v old _ (Asks at ins count input back ∷ below) (next_one ∷ below) None (if rep.is_answered then Some s.packet else None) r (before_tries None quiet)
          (transfer_stack_is _ _ _ _ r (alone (set xs 0 s) (set ys (n - 1) z) _ moved_here) (last-held rep.is_answered xs s first))
          (λ h. asks_moved net w v below r s.packet rep at ins count input back more over c h) fits

      pub tries_begun : (zs : List PullFrame) (x : PullFrame) → zs ≡ set ys (n - 1) z ++ x ∷ [] → x ≡ Tries rep.at rep.inputs rep.count rep.first 0 → 0 < rep.count
          → IsTurn net w old v (transfer_stack (frames_of (take d (set xs 0 s)) zs) (last_of rep.is_answered (set xs 0 s)) r)
      tries_begun zs x e f c =
          turn_at net w v old _ (Asks at ins count input back ∷ below) (asks_of (Tries rep.at rep.inputs rep.count rep.first 0) ∷ next_one ∷ below) None None r (before_tries None quiet)
          (transfer_stack_is _ _ _ _ r
          (alone (set xs 0 s) zs _ (ap (λ ts. frames_of [] ts) e ∙ asks-more (set ys (n - 1) z) x ∙ ap (λ fs. asks_of x ∷ fs) moved_here ∙ ap (λ t. asks_of t ∷ next_one ∷ below) f))
          (ap (λ b. last_of b (set xs 0 s)) (over.alone c) ∙ last-none (set xs 0 s)))
          (λ h. asks_begun net w v below r s.packet rep at ins count input back more over 0 c h) fits

    module _ (u : PushFrame) (there : u ≡ get_or xs 0 u) (answered : IsSome old.last) (s : PushFrame) (copies : PortRange) (answers : Bool) (out : GivesOut w v at back u.packet s.packet copies answers)
        (zs : List PullFrame) (cut : zs ≡ take (n - 1) ys) where
      had : last_of got xs ≡ Some u.packet
      had = let there_is : IsSome (last_of got xs) = rw (← ap (λ (m : TransferStack). m.last) view) at answered in last-read got xs u first there (was_answered got xs there_is)

      pub tries_given : copies.count ≡ 0 → IsTurn net w old v (transfer_stack (frames_of (take d (set xs 0 s)) zs) (last_of answers (set xs 0 s)) r)
      tries_given c =
          turn_at net w v old _ (Asks at ins count input back ∷ below) below (Some u.packet) (if answers then Some s.packet else None) r (before_tries (Some u.packet) had)
          (transfer_stack_is _ _ _ _ r (alone (set xs 0 s) zs below (ap (λ ts. frames_of [] ts) cut)) (last-held answers xs s first))
          (λ h. asks_given net w below r at ins count input back v u.packet s.packet copies answers out c h) fits

      pub tries_sends : copies.count < 65536 → s.at ≡ at → s.first ≡ copies.first → s.count ≡ copies.count
          → IsTurn net w old v (transfer_stack (frames_of (take 1 (set xs 0 s)) zs) (last_of answers (set xs 0 s)) r)
      tries_sends few at_is first_is many_are =
          turn_at net w v old _ (Asks at ins count input back ∷ below) (Sends at copies.first copies.count s.packet ∷ below) (Some u.packet) (if answers then Some s.packet else None) r (before_tries (Some u.packet) had)
          (transfer_stack_is _ _ _ _ r (one_send xs s zs first ∙ rw (at_is, first_is, many_are) (ap (λ ts. Sends at copies.first copies.count s.packet ∷ frames_of [] ts) cut)) (last-held answers xs s first))
          (λ h. asks_sends net w below r at ins count input back v u.packet s.packet copies answers out few h) fits
