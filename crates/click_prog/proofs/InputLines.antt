-- Lemmas on the lines of an input, read one after another.
use Rattle.std.proofs.Common.{◌≡◌, ◌⊎◌, ℕ, ◌-◌, ◌<◌, ◌==◌, Bool, true, false, List, [], ◌∷◌, ◌++◌, length, take, append_assoc, Option, Some, None, suc, refl, sym, ap, ◌∙◌, inl, inr, arith}
use Rattle.std.specs.Prelude.{nat_lt, IfSome}
use Rattle.std.specs.Io.KnownBytes.{IsAtEnd}
use Rattle.std.specs.Io.BufRead.{DropsThrough, drop_through, ends_with_byte, strip_last, take_through}
use Rattle.std.proofs.lemmas.List.{append-nil}
use Rattle.click_prog.specs.InputLines.{lines_of, with_first}

by_test : (t : Bool) → (t ≡ true) ⊎ (t ≡ false)
by_test true = inl refl
by_test false = inr refl

some : (b : ℕ) (bs : List ℕ) → nat_lt 0 (length (b ∷ bs)) ≡ true
some b bs = let long : 0 < length (b ∷ bs) = omega arith in grind (arith, long)

-- the bytes end as the bytes after the first one do
one_on : (b t : ℕ) (ts : List ℕ) → length (b ∷ t ∷ ts) - 1 ≡ suc (length (t ∷ ts) - 1)
one_on b t ts = omega arith

end_on : (b t : ℕ) (ts : List ℕ) → ends_with_byte 10 (b ∷ t ∷ ts) ≡ ends_with_byte 10 (t ∷ ts)
end_on b t ts = rw (some b (t ∷ ts), some t ts, one_on b t ts) refl

take_on : (b t : ℕ) (ts : List ℕ) → take (length (b ∷ t ∷ ts) - 1) (b ∷ t ∷ ts) ≡ b ∷ take (length (t ∷ ts) - 1) (t ∷ ts)
take_on b t ts = rw (one_on b t ts) refl

strip_on : (b t : ℕ) (ts : List ℕ) → strip_last 10 (b ∷ t ∷ ts) ≡ b ∷ strip_last 10 (t ∷ ts)
strip_on b t ts = elim (by_test (ends_with_byte 10 (t ∷ ts))) [
  | inl e ↦ rw (end_on b t ts, e) (take_on b t ts)
  | inr e ↦ rw (end_on b t ts, e) refl
]

strip_more : (b c : ℕ) (cs : List ℕ) → strip_last 10 (b ∷ take_through 10 (c ∷ cs)) ≡ b ∷ strip_last 10 (take_through 10 (c ∷ cs))
strip_more b c cs = elim (by_test (c == 10)) [
  | inl e ↦ rw e (strip_on b c [])
  | inr e ↦ rw e (strip_on b c (take_through 10 cs))
]

-- the first line is the bytes that were read, without their end; the others are the lines of the
-- rest
pub first_line : (b : ℕ) (bs : List ℕ) → lines_of (b ∷ bs) ≡ strip_last 10 (take_through 10 (b ∷ bs)) ∷ lines_of (drop_through 10 (b ∷ bs))
first_line b [] = elim (by_test (b == 10)) [
  | inl e ↦ rw (e, e) refl
  | inr e ↦ rw (e, e) refl
]
first_line b (c ∷ cs) = elim (by_test (b == 10)) [
  | inl e ↦ rw (e, e) refl
  | inr e ↦
      let more = first_line c cs in
      rw (e, strip_more b c cs) (ap (with_first b) more)
]

-- the lines that were read, and then those of the bytes that are left, are the lines of all bytes
abbrev pub Left : Option (List ℕ) → Option (List ℕ) → List (List ℕ) → Type 0
Left None left lines = Unit {0}
Left (Some bytes) None lines = ⊥
Left (Some bytes) (Some rest) lines = lines_of bytes ≡ lines ++ lines_of rest

pub all_left : (bytes : Option (List ℕ)) → Left bytes bytes []
all_left None = tt
all_left (Some bytes) = refl

pub ended : (bytes left : Option (List ℕ)) (lines : List (List ℕ)) → Left bytes left lines → IsAtEnd left → IfSome bytes (λ all. lines ≡ lines_of all)
ended None left lines is end = tt
ended (Some bytes) None lines is end = absurd is
ended (Some bytes) (Some rest) lines is end = sym (is ∙ ap (λ (t : List ℕ). lines ++ lines_of t) end ∙ append-nil lines)

-- one more line was read
pub one_read : (bytes left next : Option (List ℕ)) (lines : List (List ℕ)) (read : List ℕ) → Left bytes left lines → IfSome left (λ xs. read ≡ take_through 10 xs)
    → DropsThrough left next 10 → 0 < length read → Left bytes next (lines ++ strip_last 10 read ∷ [])
one_read None left next lines read is took drops some = tt
one_read (Some bytes) None next lines read is took drops some = absurd is
one_read (Some bytes) (Some []) next lines read is took drops some = absurd (let none : length read ≡ 0 = ap length took in omega (arith, none, some))
one_read (Some bytes) (Some (b ∷ bs)) next lines read is took drops some =
    let more : lines_of bytes ≡ lines ++ (strip_last 10 (take_through 10 (b ∷ bs)) ∷ lines_of (drop_through 10 (b ∷ bs))) =
    is ∙ ap (λ (t : List (List ℕ)). lines ++ t) (first_line b bs) in
    rw (drops, took) (more ∙ sym (append_assoc lines (strip_last 10 (take_through 10 (b ∷ bs)) ∷ []) (lines_of (drop_through 10 (b ∷ bs)))))
