-- Lemmas about the frames in the slots after one slot was read or written.
use Rattle.std.proofs.Common.{◌≡◌, ℕ, zero, suc, ◌+◌, ◌<◌, ◌≤◌, ◌⊎◌, refl, sym, ap, ◌∙◌, Bool, true, false, List, [], ◌∷◌, ◌++◌, length, take, set, get_or, map, reverse, Option, Some, None, nat_lt, inl, inr, arith}
use Rattle.std.proofs.lemmas.List.{take_more, take_more_set, reverse-append, take_all, length-append, length-map, length-reverse, length-take-le, length-set, nil_from_length}
use Rattle.std.proofs.lemmas.Bool.Decides.{nat_tests}
use Rattle.click_packet.specs.Packet.{Packet}
use Rattle.click_engine.specs.Frames.{Frame, TransferStack, sends_first}
use Rattle.click_engine.specs.kept.Slots.{sends_of, asks_of, frames_of, last_of}
use Rattle.click_engine.specs.declared.transfer_stack.PushFrame.{PushFrame}
use Rattle.click_engine.specs.declared.transfer_stack.PullFrame.{PullFrame}
use Rattle.click_engine.specs.declared.transfer_stack.PullFrame.TheVariants.{Pull, Tries}

pub transfer_stack_is : (fs gs : List Frame) (a b : Option Packet) (r : ℕ) → fs ≡ gs → a ≡ b
    → ◌≡◌ {A = TransferStack} (record { frames = fs; last = a; room = r }) (record { frames = gs; last = b; room = r })
transfer_stack_is fs gs a b r e f = rw (e, f) refl

pub frames-more : (d : ℕ) (xs : List PushFrame) (ys : List PullFrame) (s : PushFrame) → d < length xs → s ≡ get_or xs d s
    → frames_of (take (d + 1) xs) ys ≡ sends_of s ∷ frames_of (take d xs) ys
frames-more d xs ys s h e =
    ap (λ zs. frames_of zs ys) (take_more xs d s h)
    ∙ ap (λ zs. map sends_of zs ++ map asks_of (reverse ys)) (reverse-append (take d xs) (get_or xs d s ∷ []))
    ∙ ap (λ x. sends_of x ∷ frames_of (take d xs) ys) (sym e)

pub frames-set : (d : ℕ) (xs : List PushFrame) (ys : List PullFrame) (s : PushFrame) → d < length xs
    → frames_of (take (d + 1) (set xs d s)) ys ≡ sends_of s ∷ frames_of (take d xs) ys
frames-set d xs ys s h =
    ap (λ zs. frames_of zs ys) (take_more_set xs d s h)
    ∙ ap (λ zs. map sends_of zs ++ map asks_of (reverse ys)) (reverse-append (take d xs) (s ∷ []))

pub asks-more : (ys : List PullFrame) (y : PullFrame) → frames_of [] (ys ++ y ∷ []) ≡ asks_of y ∷ frames_of [] ys
asks-more ys y = ap (λ zs. map asks_of zs) (reverse-append ys (y ∷ []))

-- a write to a slot above slot 0 does not change the answer
pub last-above : (got : Bool) (xs : List PushFrame) (i : ℕ) (s : PushFrame) → 0 < i → last_of got (set xs i s) ≡ last_of got xs
last-above got [] i s h = refl
last-above got (x ∷ xs) zero s h = absurd (omega arith)
last-above got (x ∷ xs) (suc i) s h = refl

pub last-kept : (got : Bool) (xs : List PushFrame) (i : ℕ) (s : PushFrame) → s.packet ≡ (get_or xs i s).packet → last_of got (set xs i s) ≡ last_of got xs
last-kept got [] i s h = refl
last-kept false (x ∷ xs) zero s h = refl
last-kept true (x ∷ xs) zero s h = ap (λ p. Some p) h
last-kept got (x ∷ xs) (suc i) s h = refl

pub last-none : (xs : List PushFrame) → last_of false xs ≡ None
last-none [] = refl
last-none (x ∷ xs) = refl

pub last-first : (got : Bool) (xs : List PushFrame) (s : PushFrame) → 0 < length xs → last_of got (set xs 0 s) ≡ last_of got (s ∷ [])
last-first got [] s h = absurd (omega arith)
last-first got (x ∷ xs) s h = refl

pub last-take : (got : Bool) (xs ys : List PushFrame) (n : ℕ) → 0 < n → take n ys ≡ take n xs → last_of got ys ≡ last_of got xs
last-take got xs ys zero h e = absurd (omega arith)
last-take got [] [] (suc i) h e = refl
last-take got (x ∷ xs) [] (suc i) h e = absurd (cc)
last-take got [] (y ∷ ys) (suc i) h e = absurd (cc)
last-take got (x ∷ xs) (y ∷ ys) (suc i) h e = let same : y ≡ x = cc in ap (λ (z : PushFrame). last_of got (z ∷ [])) same

pub last-free : (got : Bool) (xs : List PushFrame) (i : ℕ) (s : PushFrame) → (0 < i) ⊎ (got ≡ false) → last_of got (set xs i s) ≡ last_of got xs
last-free got xs i s (inl h) = last-above got xs i s h
last-free got xs i s (inr e) = rw e (last-none (set xs i s) ∙ sym (last-none xs))

-- whether a push is on top
pub asks_first : (zs : List PullFrame) → sends_first (map asks_of zs) ≡ false
asks_first [] = refl
asks_first (Pull at input ∷ zs) = refl
asks_first (Tries at inputs count input back ∷ zs) = refl

sends_head : (ts : List PushFrame) (fs : List Frame) → 0 < length ts → sends_first (map sends_of ts ++ fs) ≡ true
sends_head [] fs h = absurd (omega arith)
sends_head (t ∷ ts) fs h = refl

pub sends_above : (d : ℕ) (xs : List PushFrame) (ys : List PullFrame) → 0 < d → d ≤ length xs → sends_first (frames_of (take d xs) ys) ≡ true
sends_above d xs ys h k =
    sends_head (reverse (take d xs)) (map asks_of (reverse ys)) (omega (arith, length-reverse (take d xs), length-take-le d xs k))

pub sends_none : (d : ℕ) (xs : List PushFrame) (ys : List PullFrame) → d ≤ length xs → sends_first (frames_of (take d xs) ys) ≡ false → d ≡ 0
sends_none zero xs ys k e = refl
sends_none (suc d) xs ys k e = let yes_it_is = sends_above (suc d) xs ys (omega arith) k in absurd (cc)

pub sends_some : (d : ℕ) (xs : List PushFrame) (ys : List PullFrame) → sends_first (frames_of (take d xs) ys) ≡ true → 0 < d
sends_some zero xs ys e = let none = asks_first (reverse ys) in absurd (cc)
sends_some (suc d) xs ys e = omega arith

above-zero : (d : ℕ) → nat_lt 0 (suc d) ≡ true
above-zero d = grind (arith, nat_tests)

pub is_above : (d : ℕ) (xs : List PushFrame) (ys : List PullFrame) → d ≤ length xs → nat_lt 0 d ≡ sends_first (frames_of (take d xs) ys)
is_above zero xs ys k = sym (asks_first (reverse ys))
is_above (suc d) xs ys k = above-zero d ∙ sym (sends_above (suc d) xs ys (omega arith) k)

pub asks-length : (ys : List PullFrame) → length (frames_of [] ys) ≡ length ys
asks-length ys = length-map (reverse ys) asks_of ∙ length-reverse ys

pub asks-read : (top : ℕ) (ys : List PullFrame) (d : PullFrame) → length ys ≡ top + 1 → frames_of [] ys ≡ asks_of (get_or ys top d) ∷ frames_of [] (take top ys)
asks-read top ys d h =
    ap (λ zs. frames_of [] zs) (sym (take_all (top + 1) ys (omega arith)) ∙ take_more ys top d (omega arith))
    ∙ asks-more (take top ys) (get_or ys top d)

pub asks-top : (top : ℕ) (ys : List PullFrame) (y : PullFrame) → length ys ≡ top + 1 → y ≡ get_or ys top y → frames_of [] ys ≡ asks_of y ∷ frames_of [] (take top ys)
asks-top top ys y h e =
    asks-read top ys y h ∙ ap (λ z. asks_of z ∷ frames_of [] (take top ys)) (sym e)

pub asks-set : (top : ℕ) (ys : List PullFrame) (y : PullFrame) → length ys ≡ top + 1 → frames_of [] (set ys top y) ≡ asks_of y ∷ frames_of [] (take top ys)
asks-set top ys y h =
    ap (λ zs. frames_of [] zs) (sym (take_all (top + 1) (set ys top y) (omega (arith, length-set ys top y))) ∙ take_more_set ys top y (omega arith))
    ∙ asks-more (take top ys) y

pub frames-length : (xs : List PushFrame) (ys : List PullFrame) → length (frames_of xs ys) ≡ length xs + length ys
frames-length xs ys =
    omega (arith, length-append (map sends_of (reverse xs)) (map asks_of (reverse ys)), length-map (reverse xs) sends_of, length-map (reverse ys) asks_of, length-reverse xs, length-reverse ys)

pub last-read : (got : Bool) (xs : List PushFrame) (s : PushFrame) → 0 < length xs → s ≡ get_or xs 0 s → got ≡ true → last_of got xs ≡ Some s.packet
last-read got [] s h e t = absurd (omega arith)
last-read got (x ∷ xs) s h e t = rw t (ap (λ (z : PushFrame). Some z.packet) (sym e))

pub no_asks : (xs : List PushFrame) (ys : List PullFrame) → frames_of xs ys ≡ [] → ys ≡ []
no_asks xs ys e = nil_from_length ys (omega (arith, frames-length xs ys, ap length e))

pub no_push_frames : (d : ℕ) (xs : List PushFrame) (ys : List PullFrame) → d ≤ length xs → frames_of (take d xs) ys ≡ [] → d ≡ 0
no_push_frames d xs ys h e = omega (arith, frames-length (take d xs) ys, ap length e, length-take-le d xs h)

pub one_send : (xs : List PushFrame) (s : PushFrame) (zs : List PullFrame) → 0 < length xs → frames_of (take 1 (set xs 0 s)) zs ≡ sends_of s ∷ frames_of [] zs
one_send [] s zs h = absurd (omega arith)
one_send (x ∷ xs) s zs h = refl

pub some_packet : (got : Bool) (xs : List PushFrame) (u : PushFrame) (p : Packet) → 0 < length xs → u ≡ get_or xs 0 u → last_of got xs ≡ Some p → u.packet ≡ p
some_packet false xs u p h e f = let n = last-none xs in cc
some_packet true xs u p h e f = let g = last-read true xs u h e refl in cc
