-- Lemmas about lists that are read part by part.
use Rattle.std.proofs.Common.{◌≡◌, ℕ, ◌+◌, ◌*◌, ◌/◌, ◌<◌, ◌≤◌, List, [], ◌∷◌, ◌++◌, length, get_or, drop, Ok, Err, Result, refl, sym, ap, ◌∙◌, arith, append_assoc, length-drop}
use Rattle.std.proofs.lemmas.List.{append-nil, drop_more, at_drop_more, at_drop_all}
use Rattle.click_base.specs.Numbers.{digit_value}
use Rattle.click_classes.specs.declared.fault.ArgFault.{ArgFault}
use Rattle.click_classes.specs.Patterns.{value_of, counted_bits, mask_of}
use Rattle.click_classes.specs.Steps.{◌>>=◌, each}

-- the parts, with others before them
abbrev pub preceded : {B : Type 0} → List B → Result (List B) ArgFault → Result (List B) ArgFault
preceded p r = r >>= λ bs. Ok (p ++ bs)

preceded_one : {B : Type 0} (p : List B) (b : B) (r : Result (List B) ArgFault) → preceded p (r >>= λ bs. Ok (b ∷ bs)) ≡ preceded (p ++ b ∷ []) r
preceded_one p b (Ok bs) = ap Ok (sym (append_assoc p (b ∷ []) bs))
preceded_one p b (Err f) = refl

module _ {A B : Type 0} (read : A → Result B ArgFault) (parts : List A) (p : List B) (i : ℕ) (d : A) (all : Result (List B) ArgFault) (within : i < length parts) (so_far : preceded p (each read (drop i parts)) ≡ all) where
  -- one more part
  pub each_more : (b : B) → read (get_or parts i d) ≡ Ok b → preceded (p ++ b ∷ []) (each read (drop (i + 1) parts)) ≡ all
  each_more b e =
      let next : each read (drop i parts) ≡ (read (get_or parts i d) >>= λ b. each read (drop (i + 1) parts) >>= λ bs. Ok (b ∷ bs)) = at_drop_more (each read) parts i d within in
      let found : each read (drop i parts) ≡ (each read (drop (i + 1) parts) >>= λ bs. Ok (b ∷ bs)) = rw e at next in
      sym (preceded_one p b (each read (drop (i + 1) parts))) ∙ ap (preceded p) (sym found) ∙ so_far

  -- a part with a fault
  pub each_fault : (f : ArgFault) → read (get_or parts i d) ≡ Err f → all ≡ Err f
  each_fault f e =
      let next : each read (drop i parts) ≡ (read (get_or parts i d) >>= λ b. each read (drop (i + 1) parts) >>= λ bs. Ok (b ∷ bs)) = at_drop_more (each read) parts i d within in
      let found : each read (drop i parts) ≡ Err f = rw e at next in
      sym so_far ∙ ap (preceded p) found

-- the end of the parts
pub each_end : {A B : Type 0} (read : A → Result B ArgFault) (parts : List A) (p : List B) (i : ℕ) (all : Result (List B) ArgFault) → length parts ≤ i → preceded p (each read (drop i parts)) ≡ all → all ≡ Ok p
each_end read parts p i all h so_far =
    let end : each read (drop i parts) ≡ Ok [] = at_drop_all (each read) parts i h in
    sym so_far ∙ ap (preceded p) end ∙ ap Ok (append-nil p)

-- two more digits
next_two : (ds : List ℕ) (i : ℕ) → i < length ds / 2 → drop (2 * i) ds ≡ get_or ds (2 * i) 0 ∷ get_or ds (2 * i + 1) 0 ∷ drop (2 * (i + 1)) ds
next_two ds i h =
    let first = drop_more ds (2 * i) 0 (omega arith) in
    let second = drop_more ds (2 * i + 1) 0 (omega arith) in
    let place : 2 * i + 1 + 1 ≡ 2 * (i + 1) = omega arith in
    rw (first, second, place) refl

pub value_more : (ds p : List ℕ) (i : ℕ) → i < length ds / 2 → p ++ value_of (drop (2 * i) ds) ≡ (p ++ (16 * digit_value (get_or ds (2 * i) 0) + digit_value (get_or ds (2 * i + 1) 0)) ∷ []) ++ value_of (drop (2 * (i + 1)) ds)
value_more ds p i h = let two = next_two ds i h in rw two (sym (append_assoc p _ _))

short : (ds : List ℕ) → length ds ≤ 1 → value_of ds ≡ []
short [] h = refl
short (d ∷ []) h = refl
short (d ∷ e ∷ ds) h = absurd (omega arith)

pub value_end : (ds p : List ℕ) (i : ℕ) → length ds / 2 ≤ i → p ++ value_of (drop (2 * i) ds) ≡ p
value_end ds p i h = let none = short (drop (2 * i) ds) (omega (arith, length-drop (2 * i) ds)) in rw none (append-nil p)

pub mask_more : (ds ms p : List ℕ) (i : ℕ) → length ms ≡ length ds → i < length ds / 2 → p ++ mask_of (drop (2 * i) ds) (drop (2 * i) ms) ≡ (p ++ (16 * counted_bits (get_or ds (2 * i) 0) (get_or ms (2 * i) 0) + counted_bits (get_or ds (2 * i + 1) 0) (get_or ms (2 * i + 1) 0)) ∷ []) ++ mask_of (drop (2 * (i + 1)) ds) (drop (2 * (i + 1)) ms)
mask_more ds ms p i e h =
    let other : i < length ms / 2 = rw e h in
    rw (next_two ds i h, next_two ms i other) (sym (append_assoc p _ _))

short_mask : (ds ms : List ℕ) → length ds ≤ 1 → mask_of ds ms ≡ []
short_mask [] ms h = refl
short_mask (d ∷ []) ms h = refl
short_mask (d ∷ e ∷ ds) ms h = absurd (omega arith)

pub mask_end : (ds ms p : List ℕ) (i : ℕ) → length ds / 2 ≤ i → p ++ mask_of (drop (2 * i) ds) (drop (2 * i) ms) ≡ p
mask_end ds ms p i h = let none = short_mask (drop (2 * i) ds) (drop (2 * i) ms) (omega (arith, length-drop (2 * i) ds)) in rw none (append-nil p)
