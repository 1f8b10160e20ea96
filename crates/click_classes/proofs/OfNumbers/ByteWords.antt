-- Lemmas about bytes as numbers, and about the bits in which they agree.
use Rattle.std.proofs.Common.{◌≡◌, ℕ, zero, suc, ◌+◌, ◌*◌, ◌<◌, refl, sym, ap, ◌∙◌, arith}
use Rattle.std.specs.Prelude.{bit_and}
use Rattle.std.proofs.lemmas.Nat.{and_block, and_le_l}
use Rattle.click_classes.specs.kept.Masks.{word}

-- all values are bytes
abbrev pub Small : (ℕ → ℕ) → Type 0
Small f = (i : ℕ) → f i < 256

-- the bitwise `and` of two words is that of their bytes
pub word-and : (n : ℕ) (f g : ℕ → ℕ) → Small f → Small g → bit_and (word f n) (word g n) ≡ word (λ i. bit_and (f i) (g i)) n
unfolding word
word-and zero f g h k = refl
word-and (suc n) f g h k =
    and_block 8 (word (λ i. f (suc i)) n) (word (λ i. g (suc i)) n) (f 0) (g 0) (h 0) (k 0)
    ∙ ap (λ x. x * 256 + bit_and (f 0) (g 0)) (word-and n (λ i. f (suc i)) (λ i. g (suc i)) (λ i. h (suc i)) (λ i. k (suc i)))

pub word-same : (n : ℕ) (f g : ℕ → ℕ) → ((i : ℕ) → i < n → f i ≡ g i) → word f n ≡ word g n
unfolding word
word-same zero f g h = refl
word-same (suc n) f g h =
    let first = h 0 (omega arith) in
    let rest = word-same n (λ i. f (suc i)) (λ i. g (suc i)) (λ i l. h (suc i) (omega arith)) in
    rw (first, rest) refl

pub word-apart : (n : ℕ) (f g : ℕ → ℕ) → Small f → Small g → word f n ≡ word g n → (i : ℕ) → i < n → f i ≡ g i
unfolding word
word-apart zero f g h k e i l = absurd (omega arith)
word-apart (suc n) f g h k e zero l =
    let a = h 0 in
    let b = k 0 in
    omega arith
word-apart (suc n) f g h k e (suc i) l =
    let a = h 0 in
    let b = k 0 in
    let rest : word (λ i. f (suc i)) n ≡ word (λ i. g (suc i)) n = omega arith in
    word-apart n (λ i. f (suc i)) (λ i. g (suc i)) (λ i. h (suc i)) (λ i. k (suc i)) rest i (omega arith)

and-small : (f g : ℕ → ℕ) → Small f → Small (λ i. bit_and (f i) (g i))
and-small f g h i =
    let a = h i in
    let b = and_le_l (f i) (g i) in
    omega arith

-- two words agree in the bits of a mask exactly if their bytes do
module _ (x v m : ℕ → ℕ) (x_small : Small x) (v_small : Small v) (m_small : Small m) where
  pub words-agree : ((i : ℕ) → i < 8 → bit_and (x i) (m i) ≡ bit_and (v i) (m i)) → bit_and (word x 8) (word m 8) ≡ bit_and (word v 8) (word m 8)
  words-agree h =
      word-and 8 x m x_small m_small ∙ word-same 8 (λ i. bit_and (x i) (m i)) (λ i. bit_and (v i) (m i)) h ∙ sym (word-and 8 v m v_small m_small)

  pub bytes-agree : bit_and (word x 8) (word m 8) ≡ bit_and (word v 8) (word m 8) → (i : ℕ) → i < 8 → bit_and (x i) (m i) ≡ bit_and (v i) (m i)
  bytes-agree e i l =
      word-apart 8 (λ i. bit_and (x i) (m i)) (λ i. bit_and (v i) (m i)) (and-small x m x_small) (and-small v m v_small)
      (sym (word-and 8 x m x_small m_small) ∙ e ∙ word-and 8 v m v_small m_small) i l
