-- The ends of words and of other runs of bytes.
use Rattle.std.proofs.Common.{◌≡◌, ℕ, ◌+◌, ◌<◌, ◌≤◌, List, [], ◌∷◌, ◌++◌, length, get_or, take, drop, Bool, true, false, eqb, refl, sym, ◌∙◌, arith, inl, inr, append_assoc, length-take, length-drop}
use Rattle.std.specs.Prelude.{if◌then◌else◌}
use Rattle.std.specs.List.{list_all}
use Rattle.std.proofs.lemmas.Bool.{false≢true, cases_Bool, and_parts, false_from_ne_true, eqb-true}
use Rattle.std.proofs.lemmas.List.{take-append-drop, take-take, drop_more, take_more, get_or-take, get_or-drop}
use Rattle.std.proofs.lemmas.List.Folds.{list_all_at}
use Rattle.click_text.specs.Pieces.{word_byte, is_word}
use Rattle.click_text.proofs.OfPieces.FirstBytes.{word_slash, word_first}

-- a longer prefix is a shorter one with further bytes
pub front_splits : (text : List ℕ) (n m : ℕ) → n < m → m ≤ length text → take m text ≡ take n text ++ get_or text n 0 ∷ drop (n + 1) (take m text)
front_splits text n m h l =
    let a : n < length (take m text) = omega (arith, length-take m text) in
    let n-le : n ≤ m = omega arith in
    let b = drop_more (take m text) n 0 a in
    let c = get_or-take m text n 0 h in
    let d = take-take n m text n-le in
    let e = take-append-drop n (take m text) in
    sym e ∙ rw (d, b, c) refl

pub run_ends : (p : ℕ → Bool) (r : List ℕ) (n m : ℕ) → n < m → m ≤ length r → p (get_or r n 0) ≡ false → list_all p (take m r) ≡ false
run_ends p r n m h l f =
    let a : n < length (take m r) = omega (arith, length-take m r) in
    list_all_at p (take m r) n 0 a (rw (get_or-take m r n 0 h) f)

-- what may follow a word
pub word_on : (p : List ℕ) (y : ℕ) (ys : List ℕ) → is_word p ≡ true → is_word (p ++ y ∷ ys) ≡ (if eqb y 47 then is_word ys else is_word (y ∷ ys))
word_on [] y ys h = absurd (false≢true h)
word_on (b ∷ []) y ys h = rw h refl
word_on (b ∷ c ∷ p) y ys h =
    let x = and_parts (word_byte b) (if eqb c 47 then is_word p else is_word (c ∷ p)) h in
    let w : word_byte b ≡ true = x.0 in
    elim (cases_Bool (eqb c 47)) [
      | inl e ↦ let g : is_word p ≡ true = rw e at x.1 in rw (w, e) (word_on p y ys g)
      | inr e ↦ let g : is_word (c ∷ p) ≡ true = rw e at x.1 in rw (w, e) (word_on (c ∷ p) y ys g)
    ]

pub word_more : (text : List ℕ) (n : ℕ) → n < length text → is_word (take n text) ≡ true → word_byte (get_or text n 0) ≡ true → is_word (take (n + 1) text) ≡ true
word_more text n l h w =
    rw (take_more text n 0 l, word_on (take n text) (get_or text n 0) [] h, word_slash (get_or text n 0) w) w

pub word_joined : (text : List ℕ) (n : ℕ) → n + 1 < length text → is_word (take n text) ≡ true → get_or text n 0 ≡ 47 → word_byte (get_or text (n + 1) 0) ≡ true → is_word (take (n + 2) text) ≡ true
word_joined text n l h s w =
    let n-lt : n < length text = omega arith in
    let a : n + 2 ≡ (n + 1) + 1 = omega arith in
    rw (a, take_more text (n + 1) 0 l, take_more text n 0 n-lt, append_assoc, word_on (take n text) (get_or text n 0) (get_or text (n + 1) 0 ∷ []) h, s) w

word_some : (p : List ℕ) → is_word p ≡ true → 0 < length p
word_some [] h = absurd (false≢true h)
word_some (b ∷ p) h = omega arith

no_more : (text : List ℕ) (n m : ℕ) → n < m → m ≤ length text → word_byte (get_or text n 0) ≡ false → (get_or text n 0 ≡ 47 → word_byte (get_or text (n + 1) 0) ≡ false) →
    (if eqb (get_or text n 0) 47 then is_word (drop (n + 1) (take m text)) else is_word (get_or text n 0 ∷ drop (n + 1) (take m text))) ≡ true → ⊥
no_more text n m h l f g t = elim (cases_Bool (eqb (get_or text n 0) 47)) [
  | inl e ↦
      let zs = drop (n + 1) (take m text) in
      let w : is_word zs ≡ true = rw e at t in
      let z : 0 < length zs = word_some zs w in
      let k : n + 1 < m = omega (arith, length-drop (n + 1) (take m text), length-take m text) in
      let a : word_byte (get_or zs 0 0) ≡ true = word_first zs w in
      let z0 : n + 1 + 0 ≡ n + 1 = omega arith in
      let b : get_or zs 0 0 ≡ get_or text (n + 1) 0 = get_or-drop (n + 1) (take m text) 0 0 ∙ rw z0 (get_or-take m text (n + 1) 0 k) in
      let c : word_byte (get_or text (n + 1) 0) ≡ true = rw b at a in
      false≢true (sym (g (eqb-true (get_or text n 0) 47 e)) ∙ c)
  | inr e ↦
      let w : is_word (get_or text n 0 ∷ drop (n + 1) (take m text)) ≡ true = rw e at t in
      let a : word_byte (get_or text n 0) ≡ true = word_first (get_or text n 0 ∷ drop (n + 1) (take m text)) w in
      false≢true (sym f ∙ a)
]

-- a word ends before a byte that cannot continue it
pub word_most : (text : List ℕ) (n : ℕ) → is_word (take n text) ≡ true → word_byte (get_or text n 0) ≡ false → (get_or text n 0 ≡ 47 → word_byte (get_or text (n + 1) 0) ≡ false) → (m : ℕ) → n < m → m ≤ length text → is_word (take m text) ≡ false
word_most text n w f g m h l =
    rw (front_splits text n m h l, word_on (take n text) (get_or text n 0) (drop (n + 1) (take m text)) w)
    (false_from_ne_true _ (no_more text n m h l f g))
