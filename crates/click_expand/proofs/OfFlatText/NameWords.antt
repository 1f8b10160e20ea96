-- The names of elements are words that are neither numbers nor keywords.
use Rattle.std.proofs.Common.{◌≡◌, ℕ, zero, suc, ◌+◌, ◌<◌, ◌/◌, ◌%◌, List, [], ◌∷◌, ◌++◌, true, false, eqb, refl, sym, ◌∙◌, arith, inl, inr, append_assoc}
use Rattle.std.specs.Prelude.{decimal, codes, ◌==◌}
use Rattle.std.specs.List.{list_all, list_any, AllByRecursion}
use Rattle.std.specs.Fmt.{digits, digits_onto, digit_glyph}
use Rattle.std.proofs.lemmas.Bool.{false≢true, and_parts, and_from, and_right, or_right, cases_Bool}
use Rattle.std.proofs.lemmas.Bool.Decides.{nat_tests}
use Rattle.std.proofs.lemmas.List.Folds.{list_all-append, list_any-append}
use Rattle.click_text.specs.declared.lexer.Piece.TheVariants as piece
use Rattle.click_base.specs.Numbers.{digit}
use Rattle.click_text.specs.Pieces.{is_word, IsPiece}
use Rattle.click_text.proofs.OfPieces.FirstBytes.{word_form}
use Rattle.click_text.proofs.OfPieces.WordForms.{word_on}
use Rattle.click_scopes.specs.Elements.{name_with_number}
use Rattle.click_expand.specs.Flat.{flat_name}

abbrev pub IsName : List ℕ → Type 0
IsName n = IsPiece piece.Word n

-- a byte that is in no number and in no keyword
abbrev IsOdd : ℕ → Type 0
IsOdd b = (digit b ≡ false) × (eqb b b ≡ true) × (list_any (eqb b) (codes "elementclass") ≡ false) × (list_any (eqb b) (codes "require") ≡ false)

has_byte : (b : ℕ) (p q : List ℕ) → eqb b b ≡ true → list_any (eqb b) (p ++ b ∷ q) ≡ true
has_byte b p q h = rw (list_any-append (eqb b) p (b ∷ q)) (or_right (list_any (eqb b) p) (list_any (eqb b) (b ∷ q)) (rw h refl))

no_digits : (b : ℕ) (p q : List ℕ) → digit b ≡ false → list_all digit (p ++ b ∷ q) ≡ false
no_digits b p q h = rw (list_all-append digit p (b ∷ q)) (and_right (list_all digit p) (list_all digit (b ∷ q)) (rw h refl))

not_of : (b : ℕ) (p q k : List ℕ) → eqb b b ≡ true → list_any (eqb b) k ≡ false → p ++ b ∷ q ≡ k → ⊥
not_of b p q k h n e = let f : list_any (eqb b) k ≡ true = rw (← e) (has_byte b p q h) in false≢true (sym n ∙ f)

named_by : (b : ℕ) (p q : List ℕ) → IsOdd b → is_word (p ++ b ∷ q) ≡ true → IsName (p ++ b ∷ q)
named_by b p q o w = (w, no_digits b p q o.0, not_of b p q (codes "elementclass") o.1 o.2, not_of b p q (codes "require") o.1 o.3)

digit_slash : (b : ℕ) → digit b ≡ true → eqb b 47 ≡ false
digit_slash b h = grind (arith, nat_tests)

at_word : (q : List ℕ) → list_all digit q ≡ true → is_word (64 ∷ q) ≡ true
at_word [] h = refl
at_word (b ∷ q) h =
    let x = and_parts (digit b) (list_all digit q) h in
    rw (digit_slash b x.0) (word_form piece.Number (b ∷ q) refl (omega arith, h))

glyph_digit : (n : ℕ) → digit (digit_glyph false (n % 10)) ≡ true
glyph_digit n = let l : n % 10 < 10 = omega arith in grind (arith, nat_tests)

onto_digits : (k n : ℕ) (acc : List ℕ) → list_all digit acc ≡ true → list_all digit (digits_onto k 10 false n acc) ≡ true
onto_digits zero n acc h = h
onto_digits (suc k) n acc h =
    let g : list_all digit (digit_glyph false (n % 10) ∷ acc) ≡ true = and_from (digit (digit_glyph false (n % 10))) (list_all digit acc) (glyph_digit n) h in
    elim (cases_Bool (n / 10 == 0)) [
      | inl e ↦ rw e g
      | inr e ↦ rw e (onto_digits k (n / 10) (digit_glyph false (n % 10) ∷ acc) g)
    ]

decimal_digits : (n : ℕ) → list_all digit (decimal n) ≡ true
unfolding digits
decimal_digits n = onto_digits 64 n [] refl

pub numbered_name : (w : List ℕ) (n : ℕ) → IsName w → IsName (name_with_number w n)
numbered_name w n h =
    let e : name_with_number w n ≡ w ++ 64 ∷ decimal (n + 1) = append_assoc w (64 ∷ []) (decimal (n + 1)) in
    let u : is_word (w ++ 64 ∷ decimal (n + 1)) ≡ true = rw (word_on w 64 (decimal (n + 1)) h.0) (at_word (decimal (n + 1)) (decimal_digits (n + 1))) in
    rw e (named_by 64 w (decimal (n + 1)) (refl, refl, refl, refl) u)

-- local names joined by `/` are a name
pub path_name : (n : List ℕ) (ns : List (List ℕ)) → AllByRecursion IsName (n ∷ ns) → IsName (flat_name (n ∷ ns))
path_name n [] a = a.0
path_name n (m ∷ ns) a =
    let r = path_name m ns a.1 in
    let u : is_word (n ++ 47 ∷ flat_name (m ∷ ns)) ≡ true = rw (word_on n 47 (flat_name (m ∷ ns)) a.0.0) r.0 in
    named_by 47 n (flat_name (m ∷ ns)) (refl, refl, refl, refl) u
