-- Lemmas about a packet that is pushed at several outputs, from its slot through the slot above it.
use Rattle.std.proofs.Common.{◌≡◌, ℕ, zero, suc, ◌+◌, ◌-◌, ◌<◌, ◌≤◌, ◌⊎◌, inl, inr, refl, sym, ap, ◌∙◌, Bool, if◌then◌else◌, Some, None, List, [], ◌∷◌, ◌++◌, length, take, set, get_or, arith}
use Rattle.std.proofs.lemmas.List.{take-set, take-take, take-append-le, get_or-set_same, get_or_default, get_or-take, get_or_append_left, length-set, length-append, get_or-append-add}
use Rattle.click_packet.specs.Packet.{Packet}
use Rattle.click_engine.specs.RunState.{Wiring, RunState}
use Rattle.click_engine.specs.Run.{push, sent, Pulled}
use Rattle.click_engine.specs.Frames.{Frame, TransferStack, Follows, finish}
use Rattle.click_engine.specs.kept.Transfers.{Along, Served}
use Rattle.click_engine.specs.kept.Slots.{sends_of, frames_of, last_of, ServedAbove}
use Rattle.click_engine.specs.declared.transfer_stack.PushFrame.{PushFrame}
use Rattle.click_engine.specs.declared.transfer_stack.PullFrame.{PullFrame}
use Rattle.click_engine.proofs.OfRuns.RunSteps.{spread-zero}
use Rattle.click_engine.proofs.OfFrames.FrameTurns.{transfer_stack, left_with, sends-next}
use Rattle.click_engine.proofs.OfFrames.PushFrames.{to_do-moved}
use Rattle.click_engine.proofs.OfFrames.SlotFrames.{transfer_stack_is, frames-more, last-take}

-- two sequences of turns, one after the other, are a sequence of turns
pub follows_on : (net : Wiring) (w u v : RunState) (a b c : TransferStack) → Follows net w a u b → Follows net u b v c → Follows net w a v c
follows_on net w u v a b c f g = record {
  keeps = g.keeps ∙ f.keeps;
  fewer = omega (arith, f.fewer, g.fewer);
  room = g.room ∙ f.room;
  fits = g.fits;
  falls = omega (arith, f.falls, g.falls);
}

module _ (net : Wiring) where
  -- no output was served yet
  pub served_none : (w : RunState) (s u : PushFrame) → u.count ≡ 0 → Served net w w s s u
  served_none w s u e = record {
    made = ap (λ (x : RunState). sent net x.left s.at s.packet s.count s.first x) (spread-zero (λ x o. push net w.left x u.at o u.packet) u.count u.first w e);
    packet = refl;
    fewer = omega arith;
    falls = omega arith;
    spends = λ h. absurd (omega arith);
    more = λ h. absurd (omega arith);
  }

  -- one more output was served
  pub served_more : (w v x : RunState) (s t u m z : PushFrame) → Served net w v s t u → u.count ≡ 0 → 1 < t.count
      → Along net v x t.at t.first 1 t.packet z.at z.first z.count z.packet → (z.count ≡ 0) ⊎ (1 < z.count)
      → m.at ≡ t.at → m.first ≡ t.first + 1 → m.count ≡ t.count - 1 → m.packet ≡ t.packet → Served net w x s m z
  served_more w v x s t u m z old none some over ends at_is first_is count_is packet_is =
      let to = sent net x.left z.at z.packet z.count z.first x in
      let first : to ≡ push net v.left v t.at t.first t.packet = over.made in
      let next : sent net v.left t.at t.packet t.count t.first v
      ≡ (let y = push net v.left v t.at t.first t.packet in sent net y.left t.at t.packet (t.count - 1) (t.first + 1) y)
      = ap (λ (r : Pulled). r.run_state) (sends-next net v None t.at t.first t.count (t.count - 1) t.packet (omega (arith, some))) in
      let from : sent net v.left t.at t.packet t.count t.first v ≡ sent net w.left s.at s.packet s.count s.first w
      = ap (λ (y : RunState). sent net y.left t.at t.packet t.count t.first y) (sym (spread-zero (λ y o. push net v.left y u.at o u.packet) u.count u.first v none)) ∙ old.made in
      record {
        made =
            rw (at_is, first_is, count_is, packet_is) (ap (λ (y : RunState). sent net y.left t.at t.packet (t.count - 1) (t.first + 1) y) first ∙ sym next ∙ from);
        packet = packet_is ∙ old.packet;
        fewer = omega (arith, over.fewer, old.fewer);
        falls = omega (arith, over.fewer, old.falls, count_is);
        spends = λ h. elim ends [ inl e ↦ absurd (omega (arith, e, h)) | inr k ↦ omega (arith, over.more k refl, old.fewer) ];
        more = λ h. elim ends [ inl e ↦ absurd (omega (arith, e, h)) | inr k ↦ omega (arith, over.more k refl, old.falls, count_is, some) ];
      }

-- the answer in slot 0 stays
last_served : (got : Bool) (xs zs : List PushFrame) (k : ℕ) (s t : PushFrame) → k < length xs → k < length zs → take k zs ≡ take k xs
    → s ≡ get_or xs k s → t ≡ get_or zs k t → t.packet ≡ s.packet → last_of got zs ≡ last_of got xs
last_served got [] zs zero s t h l b e f g = absurd (omega arith)
last_served got (x ∷ xs) [] zero s t h l b e f g = absurd (omega arith)
last_served got (x ∷ xs) (z ∷ zs) zero s t h l b e f g =
    ap (λ (p : Packet). if got then Some p else None) (ap (λ (y : PushFrame). y.packet) (sym f) ∙ g ∙ ap (λ (y : PushFrame). y.packet) e)
last_served got xs zs (suc k) s t h l b e f g = last-take got xs zs (suc k) (omega arith) b

module _ (net : Wiring) (w v : RunState) (old : TransferStack) (d : ℕ) (xs : List PushFrame) (ys : List PullFrame) (got : Bool) (r : ℕ)
    (view : transfer_stack (frames_of (take d xs) ys) (last_of got xs) r ≡ old) (some : 0 < d) (inside : d ≤ length xs)
    (fits : length old.frames + w.left ≤ old.room) (zs : List PushFrame) (long : d < length zs) (same : take (d - 1) zs ≡ take (d - 1) xs)
    (s t u : PushFrame) (s_is : s ≡ get_or xs (d - 1) s) (t_is : t ≡ get_or zs (d - 1) t) (u_is : u ≡ get_or zs d u) (served : Served net w v s t u) where
  abbrev below : List Frame
  below = frames_of (take (d - 1) xs) ys

  up : d ≡ d - 1 + 1
  up = omega (arith, some)

  before : old ≡ transfer_stack (sends_of s ∷ below) (last_of got xs) r
  before = sym view ∙ transfer_stack_is _ _ _ _ r (ap (λ n. frames_of (take n xs) ys) up ∙ frames-more (d - 1) xs ys s (omega (arith, some, inside)) s_is) refl

  fits_before : length (sends_of s ∷ below) + w.left ≤ r
  fits_before = rw before at fits

  last_same : last_of got zs ≡ last_of got xs
  last_same = last_served got xs zs (d - 1) s t (omega (arith, some, inside)) (omega (arith, some, long)) same s_is t_is served.packet

  lower : frames_of (take d zs) ys ≡ sends_of t ∷ below
  lower = ap (λ n. frames_of (take n zs) ys) up ∙ frames-more (d - 1) zs ys t (omega (arith, some, long)) t_is ∙ ap (λ ts. sends_of t ∷ frames_of ts ys) same

  upper : frames_of (take (d + 1) zs) ys ≡ sends_of u ∷ sends_of t ∷ below
  upper = frames-more d zs ys u long u_is ∙ ap (λ fs. sends_of u ∷ fs) lower

  copies_ended : u.count ≡ 0 → Follows net w old v (transfer_stack (frames_of (take d zs) ys) (last_of got zs) r)
  copies_ended none =
      let follows : Follows net w (transfer_stack (sends_of s ∷ below) (last_of got xs) r) v (transfer_stack (sends_of t ∷ below) (last_of got xs) r) = record {
        keeps = ap (λ x. finish net below (left_with x (last_of got xs)))
            (ap (λ (x : RunState). sent net x.left t.at t.packet t.count t.first x) (sym (spread-zero (λ x o. push net v.left x u.at o u.packet) u.count u.first v none)) ∙ served.made);
        fewer = served.fewer;
        room = refl;
        fits = omega (arith, served.fewer, fits_before);
        falls = omega (arith, served.falls, to_do-moved v.left w.left below);
      } in
      rw (before, lower, last_same) follows

  copies_begun : 0 < u.count → Follows net w old v (transfer_stack (frames_of (take (d + 1) zs) ys) (last_of got zs) r)
  copies_begun more =
      let follows : Follows net w (transfer_stack (sends_of s ∷ below) (last_of got xs) r) v (transfer_stack (sends_of u ∷ sends_of t ∷ below) (last_of got xs) r) = record {
        keeps = ap (λ x. finish net below (left_with x (last_of got xs))) served.made;
        fewer = served.fewer;
        room = refl;
        fits = omega (arith, served.spends more, fits_before);
        falls = omega (arith, served.more more, to_do-moved v.left w.left below);
      } in
      rw (before, upper, last_same) follows

-- what holds of the two parts of the slots holds of all slots
pub served_above : (net : Wiring) (w v : RunState) (old behind ahead : List PushFrame) (top : ℕ) (s t u : PushFrame) → old ≡ behind ++ ahead → length behind ≡ top + 1 → 0 < length ahead
    → s ≡ get_or behind top s → Served net w v s t u → ServedAbove net w v old (set behind top t ++ set ahead 0 u) top
served_above net w v old behind ahead top s t u whole front back s_is served =
    let new = set behind top t ++ set ahead 0 u in
    let same_front : length (set behind top t) ≡ top + 1 = omega (arith, length-set behind top t, front) in
    let same_back : length (set ahead 0 u) ≡ length ahead = length-set ahead 0 u in
    record {
      below = rw whole (take-append-le top (set behind top t) (set ahead 0 u) (omega (arith, same_front)) ∙ take-set behind top t ∙ sym (take-append-le top behind ahead (omega (arith, front))));
      long = omega (arith, length-append (set behind top t) (set ahead 0 u), same_front, same_back, back);
      served = λ d.
          let s_here : get_or old top d ≡ s =
          ap (λ xs. get_or xs top d) whole ∙ get_or_append_left behind ahead d top (omega (arith, front)) ∙ get_or_default behind top d s (omega (arith, front)) ∙ sym s_is in
          let t_here : get_or new top d ≡ t = get_or_append_left (set behind top t) (set ahead 0 u) d top (omega (arith, same_front)) ∙ get_or-set_same behind top t d (omega (arith, front)) in
          let u_here : get_or new (top + 1) d ≡ u =
          ap (λ i. get_or new i d) (omega (arith, same_front)) ∙ get_or-append-add (set behind top t) (set ahead 0 u) 0 d ∙ get_or-set_same ahead 0 u d back in
          rw (s_here, t_here, u_here) served;
    }

module _ (net : Wiring) (w v : RunState) (old : TransferStack) (d : ℕ) (xs : List PushFrame) (ys : List PullFrame) (got : Bool) (r : ℕ)
    (view : transfer_stack (frames_of (take d xs) ys) (last_of got xs) r ≡ old) (some : 0 < d) (inside : d ≤ length xs)
    (fits : length old.frames + w.left ≤ old.room) (ms zs : List PushFrame) (made : take (d - 1 + 1) ms ≡ take (d - 1 + 1) xs) (over : ServedAbove net w v ms zs (d - 1))
    (s u : PushFrame) (s_is : s ≡ get_or xs (d - 1) s) (u_is : u ≡ get_or zs (d - 1 + 1) u) where
  upto : d - 1 + 1 ≡ d
  upto = omega (arith, some)

  long_here : d < length zs
  long_here = omega (arith, over.long, some)

  same_here : take (d - 1) zs ≡ take (d - 1) xs
  same_here =
      over.below ∙ sym (take-take (d - 1) (d - 1 + 1) ms (omega arith)) ∙ ap (λ ts. take (d - 1) ts) made ∙ take-take (d - 1) (d - 1 + 1) xs (omega arith)

  abbrev this : PushFrame
  this = get_or zs (d - 1) s

  this_is : this ≡ get_or zs (d - 1) this
  this_is = get_or_default zs (d - 1) s this (omega (arith, long_here, some))

  served_here : Served net w v s this u
  served_here =
      let from : get_or ms (d - 1) s ≡ s =
      sym (get_or-take (d - 1 + 1) ms (d - 1) s (omega arith)) ∙ ap (λ ts. get_or ts (d - 1) s) made ∙ get_or-take (d - 1 + 1) xs (d - 1) s (omega arith) ∙ sym s_is in
      let to : get_or zs (d - 1 + 1) s ≡ u = get_or_default zs (d - 1 + 1) s u (omega (arith, long_here, some)) ∙ sym u_is in
      let served = over.served s in
      rw (from, to) at served

  pub above_ended : u.count ≡ 0 → Follows net w old v (transfer_stack (frames_of (take d zs) ys) (last_of got zs) r)
  above_ended none =
      copies_ended net w v old d xs ys got r view some inside fits zs long_here same_here s this u s_is this_is (u_is ∙ ap (λ n. get_or zs n u) upto) served_here none

  pub above_begun : 0 < u.count → Follows net w old v (transfer_stack (frames_of (take (d - 1 + 2) zs) ys) (last_of got zs) r)
  above_begun more =
      let plus : d - 1 + 2 ≡ d + 1 = omega (arith, some) in
      rw plus (copies_begun net w v old d xs ys got r view some inside fits zs long_here same_here s this u s_is this_is (u_is ∙ ap (λ n. get_or zs n u) upto) served_here more)
