-- The piece that begins a text, and its length.
use Rattle.std.proofs.Common.{◌≡◌, ◌≢◌, ℕ, zero, suc, ◌+◌, ◌<◌, ◌≤◌, List, [], ◌∷◌, length, get_or, take, drop, Bool, true, false, eqb, Option, Some, None, refl, sym, ◌∙◌, ap, subst, arith, inl, inr, ◌⊎◌, length-take}
use Rattle.std.specs.Prelude.{if◌then◌else◌, IfNone}
use Rattle.std.specs.List.{list_all}
use Rattle.std.proofs.lemmas.Bool.{false≢true, cases_Bool, eqb-true, ne_eqb}
use Rattle.std.proofs.lemmas.List.{get_or_past}
use Rattle.click_text.specs.declared.lexer.Piece.{Piece}
use Rattle.click_text.specs.declared.lexer.Piece.TheVariants as piece
use Rattle.click_text.specs.declared.strings.Mode.TheVariants as mode
use Rattle.click_text.specs.Strings.{closes}
use Rattle.click_text.specs.kept.SingleBytePieces.{mark_of}
use Rattle.click_text.specs.Pieces.{white, name_byte, word_byte, is_word, ends_comment, IsPiece, Longest, NoPiece}
use Rattle.click_text.proofs.OfPieces.FirstBytes.{family, begins, begins_as, word_form, no_piece, kind_from}
use Rattle.click_text.proofs.OfPieces.WordForms.{front_splits, run_ends}
use Rattle.click_text.proofs.OfPieces.StringEnds.{closes_once, ends_once}

pub or_not : {T : Type 0} (found : Option T) (P : Type 0) → P → IfNone found P
or_not None P h = h
or_not (Some x) P h = tt

-- a piece is the longest, if it has the kind that its first bytes determine and no longer one of
-- that kind begins the text
longest_of : (text : List ℕ) (k : Piece) (n : ℕ) → begins text ≡ Some k → k ≢ piece.Word → n ≤ length text → IsPiece k (take n text) → ((m : ℕ) → n < m → m ≤ length text → IsPiece k (take m text) → ⊥) → Longest text k n
longest_of text k n b w l f g = record {
  within = l;
  form = f;
  longest = λ j m h i p. g m h i (kind_from k j text m b w p);
}

none_of : (text : List ℕ) (k : Piece) → begins text ≡ Some k → k ≢ piece.Word → ((m : ℕ) → m ≤ length text → IsPiece k (take m text) → ⊥) → NoPiece text
none_of text k b w g j m l p = g m l (kind_from k j text m b w p)

-- the length of each piece of a kind, if they all have the same
abbrev size_of : Piece → ℕ
size_of piece.Word = 0
size_of piece.Number = 0
size_of piece.Elementclass = 0
size_of piece.Require = 0
size_of piece.LineComment = 0
size_of piece.BlockComment = 0
size_of piece.Formal = 0
size_of piece.String = 0
size_of piece.DoubleColon = 2
size_of piece.Arrow = 2
size_of k = 1

sized : (k : Piece) (p : List ℕ) → 0 < size_of k → IsPiece k p → length p ≡ size_of k
sized piece.Word p z h = absurd (omega arith)
sized piece.Number p z h = absurd (omega arith)
sized piece.Elementclass p z h = absurd (omega arith)
sized piece.Require p z h = absurd (omega arith)
sized piece.LineComment p z h = absurd (omega arith)
sized piece.BlockComment p z h = absurd (omega arith)
sized piece.Formal p z h = absurd (omega arith)
sized piece.String p z h = absurd (omega arith)
sized piece.Blank p z (b, w, e) = rw e refl
sized _ p z e = rw e refl

longest_sized : (text : List ℕ) (k : Piece) (n : ℕ) → begins text ≡ Some k → 0 < n → size_of k ≡ n → n ≤ length text → IsPiece k (take n text) → Longest text k n
longest_sized text k n b z s l f =
    longest_of text k n b (λ e. let g = ap size_of e in omega arith) l f
    (λ m h i p. let z' : 0 < size_of k = omega arith in let g = sized k (take m text) z' p in omega (arith, length-take m text))

-- a text by its first byte, and by its first two
pub as_one : (text : List ℕ) (a : ℕ) → 0 < length text → get_or text 0 0 ≡ a → text ≡ a ∷ drop 1 text
as_one [] a z e = absurd (omega arith)
as_one (x ∷ r) a z e = rw e refl

pub as_two : (text : List ℕ) (a b : ℕ) → 1 < length text → get_or text 0 0 ≡ a → get_or text 1 0 ≡ b → text ≡ a ∷ b ∷ drop 2 text
as_two [] a b z e f = absurd (omega arith)
as_two (x ∷ []) a b z e f = absurd (omega arith)
as_two (x ∷ y ∷ r) a b z e f = rw (e, f) refl

-- white space and pieces of one byte
pub longest_blank : (text : List ℕ) → 0 < length text → white (get_or text 0 0) ≡ true → Longest text piece.Blank 1
longest_blank [] z w = absurd (omega arith)
longest_blank (x ∷ r) z w =
    longest_sized (x ∷ r) piece.Blank 1 (rw w refl) (omega arith) refl (omega arith) (x, w, refl)

pick : (b n : ℕ) (j k : Piece) (o : Option Piece) → (if eqb b n then Some j else o) ≡ Some k → ((b ≡ n) × (j ≡ k)) ⊎ (o ≡ Some k)
pick b n j k o h = elim (cases_Bool (eqb b n)) [
  | inl e ↦ let g : Some j ≡ Some k = rw e at h in inl (eqb-true b n e, cc)
  | inr e ↦ let g : o ≡ Some k = rw e at h in inr g
]

abbrev IsMark : ℕ → Piece → Type 0
IsMark b k = (size_of k ≡ 1) × IsPiece k (b ∷ [])

mark_at : (b n : ℕ) (j k : Piece) → IsMark n j → (b ≡ n) × (j ≡ k) → IsMark b k
mark_at b n j k m (p, q) = rw (p, ← q) m

mark_is : (b : ℕ) (k : Piece) → mark_of b ≡ Some k → IsMark b k
mark_is b k h = elim (pick b 59 piece.Semicolon k _ h) [
  | inl e ↦ mark_at b 59 piece.Semicolon k (refl, refl) e
  | inr h ↦ elim (pick b 44 piece.Comma k _ h) [
    | inl e ↦ mark_at b 44 piece.Comma k (refl, refl) e
    | inr h ↦ elim (pick b 91 piece.OpenBracket k _ h) [
      | inl e ↦ mark_at b 91 piece.OpenBracket k (refl, refl) e
      | inr h ↦ elim (pick b 93 piece.CloseBracket k _ h) [
        | inl e ↦ mark_at b 93 piece.CloseBracket k (refl, refl) e
        | inr h ↦ elim (pick b 123 piece.Open k _ h) [
          | inl e ↦ mark_at b 123 piece.Open k (refl, refl) e
          | inr h ↦ elim (pick b 125 piece.Close k _ h) [
            | inl e ↦ mark_at b 125 piece.Close k (refl, refl) e
            | inr h ↦ elim (pick b 124 piece.Bar k _ h) [
              | inl e ↦ mark_at b 124 piece.Bar k (refl, refl) e
              | inr h ↦ cc
            ]
          ]
        ]
      ]
    ]
  ]
]

pub longest_mark : (text : List ℕ) (k : Piece) → 0 < length text → white (get_or text 0 0) ≡ false → word_byte (get_or text 0 0) ≡ false → mark_of (get_or text 0 0) ≡ Some k → Longest text k 1
longest_mark [] k z w v h = absurd (omega arith)
longest_mark (x ∷ r) k z w v h =
    let m = mark_is x k h in
    longest_sized (x ∷ r) k 1 (rw (w, v, h) refl) (omega arith) m.0 (omega arith) m.1

pub longest_colons : (text : List ℕ) → 1 < length text → get_or text 0 0 ≡ 58 → get_or text 1 0 ≡ 58 → Longest text piece.DoubleColon 2
longest_colons text z e f =
    subst (λ t. Longest t piece.DoubleColon 2) (sym (as_two text 58 58 z e f))
    (longest_sized (58 ∷ 58 ∷ drop 2 text) piece.DoubleColon 2 refl (omega arith) refl (omega arith) refl)

pub longest_arrow : (text : List ℕ) → 1 < length text → get_or text 0 0 ≡ 45 → get_or text 1 0 ≡ 62 → Longest text piece.Arrow 2
longest_arrow text z e f =
    subst (λ t. Longest t piece.Arrow 2) (sym (as_two text 45 62 z e f))
    (longest_sized (45 ∷ 62 ∷ drop 2 text) piece.Arrow 2 refl (omega arith) refl (omega arith) refl)

-- words
pub longest_word : (text : List ℕ) (k : Piece) (n : ℕ) → white (get_or text 0 0) ≡ false → word_byte (get_or text 0 0) ≡ true → n ≤ length text → IsPiece k (take n text) → ((m : ℕ) → n < m → m ≤ length text → is_word (take m text) ≡ false) → Longest text k n
longest_word text k n w v l f g = record {
  within = l;
  form = f;
  longest = λ j m h i p.
      let b : begins text ≡ Some piece.Word = rw (w, v) refl in
      let e = begins_as j text m p in
      let d : family j ≡ piece.Word = cc in
      false≢true (sym (g m h i) ∙ word_form j (take m text) d p);
}

-- parameters
formal_more : (r : List ℕ) (n m : ℕ) → (n < length r → name_byte (get_or r n 0) ≡ false) → n < m → m ≤ length r → IsPiece piece.Formal (36 ∷ take m r) → ⊥
formal_more r n m g h l (q, e, (z, a)) =
    let d : take m r ≡ q = cc in
    let b : list_all name_byte (take m r) ≡ true = rw d a in
    false≢true (sym (run_ends name_byte r n m h l (g (omega arith))) ∙ b)

formal_longer : (r : List ℕ) (n m : ℕ) → (n < length r → name_byte (get_or r n 0) ≡ false) → suc n < m → m ≤ length (36 ∷ r) → IsPiece piece.Formal (take m (36 ∷ r)) → ⊥
formal_longer r n zero g h l p = omega arith
formal_longer r n (suc m) g h l p = formal_more r n m g (omega arith) (omega arith) p

pub longest_formal : (text : List ℕ) (n : ℕ) → 0 < length text → get_or text 0 0 ≡ 36 → 0 < n → n ≤ length (drop 1 text) → list_all name_byte (take n (drop 1 text)) ≡ true → (n < length (drop 1 text) → name_byte (get_or (drop 1 text) n 0) ≡ false) → Longest text piece.Formal (1 + n)
longest_formal text n z e p l a g =
    let r = drop 1 text in
    let s : 1 + n ≡ suc n = omega arith in
    rw s (subst (λ t. Longest t piece.Formal (suc n)) (sym (as_one text 36 z e))
    (longest_of (36 ∷ r) piece.Formal (suc n) refl (λ x. cc) (omega arith) (take n r, refl, (omega (arith, length-take n r), a))
    (λ m h i. formal_longer r n m g h i)))

no_name : (r : List ℕ) (m : ℕ) → (0 < length r → name_byte (get_or r 0 0) ≡ false) → m ≤ length (36 ∷ r) → IsPiece piece.Formal (take m (36 ∷ r)) → ⊥
no_name r zero g l (q, e, (z, a)) = cc
no_name r (suc zero) g l (q, e, (z, a)) = let d : [] ≡ q = cc in let f = ap length d in omega arith
no_name r (suc (suc m)) g l p = formal_more r 0 (suc m) g (omega arith) (omega arith) p

pub no_formal : (text : List ℕ) → 0 < length text → get_or text 0 0 ≡ 36 → (0 < length (drop 1 text) → name_byte (get_or (drop 1 text) 0 0) ≡ false) → NoPiece text
no_formal text z e g =
    subst (λ t. NoPiece t) (sym (as_one text 36 z e))
    (none_of (36 ∷ drop 1 text) piece.Formal refl (λ x. cc) (λ m l. no_name (drop 1 text) m g l))

-- configuration strings
string_closes : (r q : List ℕ) → 40 ∷ r ≡ 40 ∷ q → closes mode.Plain 1 q ≡ true → closes mode.Plain 1 r ≡ true
string_closes r q e c = let d : r ≡ q = cc in rw d c

string_longer : (r : List ℕ) (n m : ℕ) → closes mode.Plain 1 (take n r) ≡ true → suc n < m → m ≤ length (40 ∷ r) → IsPiece piece.String (take m (40 ∷ r)) → ⊥
string_longer r n zero g h l p = omega arith
string_longer r n (suc m) g h l (q, e, c) =
    let i : n < m = omega arith in
    let k : m ≤ length r = omega arith in
    let a : closes mode.Plain 1 (take m r) ≡ false = rw (front_splits r n m i k) (closes_once mode.Plain 1 (take n r) (get_or r n 0) (drop (n + 1) (take m r)) g) in
    false≢true (sym a ∙ string_closes (take m r) q e c)

pub longest_string : (text : List ℕ) (n : ℕ) → 0 < length text → get_or text 0 0 ≡ 40 → n ≤ length (drop 1 text) → closes mode.Plain 1 (take n (drop 1 text)) ≡ true → Longest text piece.String (1 + n)
longest_string text n z e l c =
    let r = drop 1 text in
    let s : 1 + n ≡ suc n = omega arith in
    rw s (subst (λ t. Longest t piece.String (suc n)) (sym (as_one text 40 z e))
    (longest_of (40 ∷ r) piece.String (suc n) refl (λ x. cc) (omega arith) (take n r, refl, c)
    (λ m h i. string_longer r n m c h i)))

never_closed : (r : List ℕ) (m : ℕ) → ((n : ℕ) → n ≤ length r → closes mode.Plain 1 (take n r) ≡ false) → m ≤ length (40 ∷ r) → IsPiece piece.String (take m (40 ∷ r)) → ⊥
never_closed r zero g l (q, e, c) = cc
never_closed r (suc m) g l (q, e, c) = false≢true (sym (g m (omega arith)) ∙ string_closes (take m r) q e c)

pub no_string : (text : List ℕ) → 0 < length text → get_or text 0 0 ≡ 40 → ((n : ℕ) → n ≤ length (drop 1 text) → closes mode.Plain 1 (take n (drop 1 text)) ≡ false) → NoPiece text
no_string text z e g =
    subst (λ t. NoPiece t) (sym (as_one text 40 z e))
    (none_of (40 ∷ drop 1 text) piece.String refl (λ x. cc) (λ m l. never_closed (drop 1 text) m g l))

-- comments up to an LF
abbrev pub in_line : ℕ → Bool
in_line b = if eqb b 10 then false else true

line_longer : (r : List ℕ) (n m : ℕ) → (n < length r → get_or r n 0 ≡ 10) → suc (suc n) < m → m ≤ length (47 ∷ 47 ∷ r) → IsPiece piece.LineComment (take m (47 ∷ 47 ∷ r)) → ⊥
line_longer r n zero g h l p = omega arith
line_longer r n (suc zero) g h l p = omega arith
line_longer r n (suc (suc m)) g h l (q, e, a) =
    let d : take m r ≡ q = cc in
    let b : list_all in_line (take m r) ≡ true = rw d a in
    let i : n < length r = omega arith in
    let f : in_line (get_or r n 0) ≡ false = rw (g i) refl in
    false≢true (sym (run_ends in_line r n m (omega arith) (omega arith) f) ∙ b)

pub longest_line : (text : List ℕ) (n : ℕ) → 1 < length text → get_or text 0 0 ≡ 47 → get_or text 1 0 ≡ 47 → n ≤ length (drop 2 text) → list_all (λ b. if eqb b 10 then false else true) (take n (drop 2 text)) ≡ true → (n < length (drop 2 text) → get_or (drop 2 text) n 0 ≡ 10) → Longest text piece.LineComment (2 + n)
longest_line text n z e f l a g =
    let r = drop 2 text in
    let s : 2 + n ≡ suc (suc n) = omega arith in
    rw s (subst (λ t. Longest t piece.LineComment (suc (suc n))) (sym (as_two text 47 47 z e f))
    (longest_of (47 ∷ 47 ∷ r) piece.LineComment (suc (suc n)) refl (λ x. cc) (omega arith) (take n r, refl, a)
    (λ m h i. line_longer r n m g h i)))

-- comments up to `*/`
comment_ends : (r q : List ℕ) → 47 ∷ 42 ∷ r ≡ 47 ∷ 42 ∷ q → ends_comment q ≡ true → ends_comment r ≡ true
comment_ends r q e c = let d : r ≡ q = cc in rw d c

comment_longer : (r : List ℕ) (n m : ℕ) → ends_comment (take n r) ≡ true → suc (suc n) < m → m ≤ length (47 ∷ 42 ∷ r) → IsPiece piece.BlockComment (take m (47 ∷ 42 ∷ r)) → ⊥
comment_longer r n zero g h l p = omega arith
comment_longer r n (suc zero) g h l p = omega arith
comment_longer r n (suc (suc m)) g h l (q, e, c) =
    let i : n < m = omega arith in
    let k : m ≤ length r = omega arith in
    let a : ends_comment (take m r) ≡ false = rw (front_splits r n m i k) (ends_once (take n r) (get_or r n 0) (drop (n + 1) (take m r)) g) in
    false≢true (sym a ∙ comment_ends (take m r) q e c)

pub longest_comment : (text : List ℕ) (n : ℕ) → 1 < length text → get_or text 0 0 ≡ 47 → get_or text 1 0 ≡ 42 → n ≤ length (drop 2 text) → ends_comment (take n (drop 2 text)) ≡ true → Longest text piece.BlockComment (2 + n)
longest_comment text n z e f l c =
    let r = drop 2 text in
    let s : 2 + n ≡ suc (suc n) = omega arith in
    rw s (subst (λ t. Longest t piece.BlockComment (suc (suc n))) (sym (as_two text 47 42 z e f))
    (longest_of (47 ∷ 42 ∷ r) piece.BlockComment (suc (suc n)) refl (λ x. cc) (omega arith) (take n r, refl, c)
    (λ m h i. comment_longer r n m c h i)))

never_ended : (r : List ℕ) (m : ℕ) → ((n : ℕ) → n ≤ length r → ends_comment (take n r) ≡ false) → m ≤ length (47 ∷ 42 ∷ r) → IsPiece piece.BlockComment (take m (47 ∷ 42 ∷ r)) → ⊥
never_ended r zero g l (q, e, c) = cc
never_ended r (suc zero) g l (q, e, c) = cc
never_ended r (suc (suc m)) g l (q, e, c) = false≢true (sym (g m (omega arith)) ∙ comment_ends (take m r) q e c)

pub no_comment : (text : List ℕ) → 1 < length text → get_or text 0 0 ≡ 47 → get_or text 1 0 ≡ 42 → ((n : ℕ) → n ≤ length (drop 2 text) → ends_comment (take n (drop 2 text)) ≡ false) → NoPiece text
no_comment text z e f g =
    subst (λ t. NoPiece t) (sym (as_two text 47 42 z e f))
    (none_of (47 ∷ 42 ∷ drop 2 text) piece.BlockComment refl (λ x. cc) (λ m l. never_ended (drop 2 text) m g l))

-- bytes that begin no piece
pub no_slash : (text : List ℕ) → get_or text 0 0 ≡ 47 → get_or text 1 0 ≢ 47 → get_or text 1 0 ≢ 42 → NoPiece text
no_slash text e f g = no_piece text (rw (e, ne_eqb (get_or text 1 0) 47 f, ne_eqb (get_or text 1 0) 42 g) refl)

pub no_colons : (text : List ℕ) → get_or text 0 0 ≡ 58 → get_or text 1 0 ≢ 58 → NoPiece text
no_colons text e f = no_piece text (rw (e, ne_eqb (get_or text 1 0) 58 f) refl)

pub no_arrow : (text : List ℕ) → get_or text 0 0 ≡ 45 → get_or text 1 0 ≢ 62 → NoPiece text
no_arrow text e f = no_piece text (rw (e, ne_eqb (get_or text 1 0) 62 f) refl)

-- no byte comes after the end
pub past_end : (text : List ℕ) (x : ℕ) → length text ≤ 1 → 0 < x → get_or text 1 0 ≢ x
past_end text x l z e = let d = get_or_past text 1 0 l in omega arith

pub no_beginning : (text : List ℕ) → white (get_or text 0 0) ≡ false → word_byte (get_or text 0 0) ≡ false → mark_of (get_or text 0 0) ≡ None → get_or text 0 0 ≢ 47 → get_or text 0 0 ≢ 36 → get_or text 0 0 ≢ 40 → get_or text 0 0 ≢ 58 → get_or text 0 0 ≢ 45 → NoPiece text
no_beginning text w v m a b c d e =
    no_piece text (rw (w, v, m, ne_eqb (get_or text 0 0) 47 a, ne_eqb (get_or text 0 0) 36 b, ne_eqb (get_or text 0 0) 40 c, ne_eqb (get_or text 0 0) 58 d, ne_eqb (get_or text 0 0) 45 e) refl)
