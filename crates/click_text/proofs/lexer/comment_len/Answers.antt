use Rattle.std.proofs.Common.{◌≡◌, ◌<◌, ◌+◌, ◌-◌, ℕ, zero, suc, List, [], ◌∷◌, get_or, take, length, true, false, eqb, ◌&&◌, refl, arith, inl, inr, add-one}
use Rattle.std.proofs.lemmas.Bool.{cases_Bool, and_parts, eqb-true}
use Rattle.click_text.specs.Pieces.{ends_comment}
use Rattle.click_text.proofs.lexer.comment_len.Goals as goal

no_mark : (a b : ℕ) → (a ≡ 42 → b ≡ 47 → ⊥) → (eqb a 42 && eqb b 47) ≡ false
no_mark a b h = elim (cases_Bool (eqb a 42 && eqb b 47)) [
  | inl e ↦ let x = and_parts (eqb a 42) (eqb b 47) e in absurd (h (eqb-true a 42 x.0) (eqb-true b 47 x.1))
  | inr e ↦ e
]

-- there is no `*/` before offset n
abbrev NoMark : List ℕ → ℕ → Type 0
NoMark text n = (k : ℕ) → k < n → get_or text k 0 ≡ 42 → get_or text (suc k) 0 ≡ 47 → ⊥

after_first : (x : ℕ) (r : List ℕ) (n : ℕ) → NoMark (x ∷ r) (suc n) → NoMark r n
after_first x r n h k l a b = h (suc k) (omega arith) a b

-- the first `*/` ends a comment
ends_here : (text : List ℕ) (n : ℕ) → suc n < length text → NoMark text n → get_or text n 0 ≡ 42 → get_or text (suc n) 0 ≡ 47 → ends_comment (take (suc (suc n)) text) ≡ true
ends_here [] n l h a b = absurd (omega arith)
ends_here (x ∷ []) n l h a b = absurd (omega arith)
ends_here (x ∷ y ∷ r) zero l h a b = rw (a, b) refl
ends_here (x ∷ y ∷ []) (suc n) l h a b = absurd (omega arith)
ends_here (x ∷ y ∷ z ∷ r) (suc n) l h a b =
    rw (no_mark x y (h 0 (omega arith))) (ends_here (y ∷ z ∷ r) n (omega arith) (after_first x (y ∷ z ∷ r) n h) a b)

ends_nowhere : (text : List ℕ) (s : ℕ) → length text ≡ suc s → NoMark text s → (n : ℕ) → ends_comment (take n text) ≡ false
ends_nowhere [] s e h n = absurd (omega arith)
ends_nowhere (x ∷ r) s e h zero = refl
ends_nowhere (x ∷ []) s e h (suc zero) = refl
ends_nowhere (x ∷ []) s e h (suc (suc n)) = refl
ends_nowhere (x ∷ y ∷ r) s e h (suc zero) = refl
ends_nowhere (x ∷ y ∷ r) s e h (suc (suc zero)) = no_mark x y (h 0 (omega arith))
ends_nowhere (x ∷ y ∷ []) s e h (suc (suc (suc n))) = no_mark x y (h 0 (omega arith))
ends_nowhere (x ∷ y ∷ z ∷ r) zero e h (suc (suc (suc n))) = absurd (omega arith)
ends_nowhere (x ∷ y ∷ z ∷ r) (suc s) e h (suc (suc (suc n))) =
    rw (no_mark x y (h 0 (omega arith))) (ends_nowhere (y ∷ z ∷ r) s (omega arith) (after_first x (y ∷ z ∷ r) s h) (suc (suc n)))

ends_nowhere_in : (text : List ℕ) → NoMark text (length text - 1) → (n : ℕ) → ends_comment (take n text) ≡ false
ends_nowhere_in [] h zero = refl
ends_nowhere_in [] h (suc n) = refl
ends_nowhere_in (x ∷ r) h n = ends_nowhere (x ∷ r) (length (x ∷ r) - 1) (omega arith) h n

pub returns-then-text-i-eq47-clause-ends : goal.returns-then-text-i-eq47-clause-ends
returns-then-text-i-eq47-clause-ends c =
    let i = c.loop-i.i in
    let text = c.args.text.now in
    let e : suc (i - 1) ≡ i = omega arith in
    let f : i + 1 ≡ suc (suc (i - 1)) = omega arith in
    rw f (ends_here text (i - 1) (omega arith) (λ k l a b. c.loop-i.invariant k (omega arith) a (rw add-one b)) c.if-text-i-eq42.true (rw e c.if-text-i-eq47.true))

pub returns-clause-never : goal.returns-clause-never
returns-clause-never c = λ n l. ends_nowhere_in c.args.text.now (λ k h a b. c.loop-i.invariant k (omega arith) a (rw add-one b)) n
