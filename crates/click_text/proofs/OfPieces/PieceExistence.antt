-- Every text has pieces up to an ending, because it can be decided whether a piece begins it.
use Rattle.std.proofs.Common.{◌⊎◌, inl, inr, ◌≡◌, ℕ, zero, suc, ◌+◌, ◌<◌, ◌≤◌, List, [], ◌∷◌, ◌++◌, length, take, drop, Bool, true, false, Option, Some, None, refl, sym, subst, arith, length-drop}
use Rattle.std.specs.Prelude.{codes, if◌then◌else◌, eqb}
use Rattle.std.specs.List.{list_all}
use Rattle.std.proofs.lemmas.Bool.{cases_Bool, cases_eq, cases_lt}
use Rattle.click_base.specs.Numbers.{digit}
use Rattle.click_text.specs.declared.lexer.Piece.{Piece}
use Rattle.click_text.specs.declared.lexer.Piece.TheVariants as piece
use Rattle.click_text.specs.declared.strings.Mode.TheVariants as mode
use Rattle.click_text.specs.declared.syntax.Token.{Token}
use Rattle.click_text.specs.declared.syntax.Ending.{Ending}
use Rattle.click_text.specs.declared.syntax.Ending.TheVariants as ending
use Rattle.click_text.specs.Strings.{closes}
use Rattle.click_text.specs.Pieces.{white, name_byte, is_word, ends_comment, IsRun, IsPiece, Longest, token_of, span, piece_fault, Reads, ends, passes, takes, stuck}
use Rattle.click_text.proofs.OfPieces.FirstBytes.{begins_as}

abbrev Decided : Type 0 → Type 0
Decided P = P ⊎ (P → ⊥)

list_decided : (p q : List ℕ) → Decided (p ≡ q)
list_decided [] [] = inl refl
list_decided [] (b ∷ q) = inr (λ e. cc)
list_decided (a ∷ p) [] = inr (λ e. cc)
list_decided (a ∷ p) (b ∷ q) = elim (cases_eq a b) [
  | inl e ↦ elim (list_decided p q) [
    | inl w ↦ inl (rw (e, w) refl)
    | inr n ↦ inr (λ h. n cc)
  ]
  | inr n ↦ inr (λ h. n cc)
]

true_decided : (b : Bool) → Decided (b ≡ true)
true_decided true = inl refl
true_decided false = inr (λ e. cc)

whole_decided : (p : List ℕ) (b : Bool) → Decided (IsRun p b)
whole_decided [] b = inr (λ h. omega (arith, h.0))
whole_decided (x ∷ p) true = inl (omega arith, refl)
whole_decided (x ∷ p) false = inr (λ h. let e = h.1 in cc)

-- it can be decided whether bytes begin with q and go on with Q
after_beginning : (q : List ℕ) (Q : List ℕ → Type 0) → ((r : List ℕ) → Decided (Q r)) → (p : List ℕ) → Decided ((r : List ℕ) × (p ≡ q ++ r) × Q r)
after_beginning [] Q f p = elim (f p) [
  | inl h ↦ inl (p, refl, h)
  | inr n ↦ inr (λ h. n (subst Q (sym h.1) h.2))
]
after_beginning (a ∷ q) Q f [] = inr (λ h. let e = h.1 in cc)
after_beginning (a ∷ q) Q f (b ∷ p) = elim (cases_eq b a) [
  | inl e ↦ elim (after_beginning q Q f p) [
    | inl h ↦ inl (h.0, rw (e, h.1) refl, h.2)
    | inr n ↦ inr (λ h. let e = h.1 in n (h.0, cc, h.2))
  ]
  | inr n ↦ inr (λ h. let e = h.1 in n cc)
]

blank_decided : (p : List ℕ) → Decided (IsPiece piece.Blank p)
blank_decided [] = inr (λ h. let e = h.2 in cc)
blank_decided (b ∷ []) = elim (true_decided (white b)) [
  | inl w ↦ inl (b, w, refl)
  | inr n ↦ inr (λ h. let e = h.2 in let q : h.0 ≡ b = cc in n (rw q at h.1))
]
blank_decided (b ∷ c ∷ p) = inr (λ h. let e = h.2 in cc)

word_decided : (p : List ℕ) → Decided (IsPiece piece.Word p)
word_decided p = elim (true_decided (is_word p)) [
  | inr n ↦ inr (λ h. n h.0)
  | inl w ↦ elim (cases_Bool (list_all digit p)) [
    | inl d ↦ inr (λ h. let e = h.1 in cc)
    | inr d ↦ elim (list_decided p (codes "elementclass")) [
      | inl e ↦ inr (λ h. h.2 e)
      | inr m ↦ elim (list_decided p (codes "require")) [
        | inl e ↦ inr (λ h. h.3 e)
        | inr k ↦ inl (w, d, m, k)
      ]
    ]
  ]
]

decided : (k : Piece) (p : List ℕ) → Decided (IsPiece k p)
decided piece.Blank p = blank_decided p
decided piece.LineComment p = after_beginning (47 ∷ 47 ∷ []) (λ r. list_all (λ b. if eqb b 10 then false else true) r ≡ true) (λ r. true_decided (list_all (λ b. if eqb b 10 then false else true) r)) p
decided piece.BlockComment p = after_beginning (47 ∷ 42 ∷ []) (λ r. ends_comment r ≡ true) (λ r. true_decided (ends_comment r)) p
decided piece.Word p = word_decided p
decided piece.Number p = whole_decided p (list_all digit p)
decided piece.Elementclass p = list_decided p (codes "elementclass")
decided piece.Require p = list_decided p (codes "require")
decided piece.Formal p = after_beginning (36 ∷ []) (λ r. IsRun r (list_all name_byte r)) (λ r. whole_decided r (list_all name_byte r)) p
decided piece.String p = after_beginning (40 ∷ []) (λ r. closes mode.Plain 1 r ≡ true) (λ r. true_decided (closes mode.Plain 1 r)) p
decided piece.DoubleColon p = list_decided p (codes "::")
decided piece.Arrow p = list_decided p (codes "->")
decided piece.Semicolon p = list_decided p (codes ";")
decided piece.Comma p = list_decided p (codes ",")
decided piece.OpenBracket p = list_decided p (codes "[")
decided piece.CloseBracket p = list_decided p (codes "]")
decided piece.Open p = list_decided p (codes "{")
decided piece.Close p = list_decided p (codes "}")
decided piece.Bar p = list_decided p (codes "|")

abbrev AnyPiece : List ℕ → Type 0
AnyPiece p = (k : Piece) × IsPiece k p

-- the bytes are a piece of none of these kinds
abbrev NoneOf : List Piece → List ℕ → Type 0
NoneOf [] p = Unit {0}
NoneOf (k ∷ ks) p = (IsPiece k p → ⊥) × NoneOf ks p

any_of : (ks : List Piece) (p : List ℕ) → AnyPiece p ⊎ NoneOf ks p
any_of [] p = inr tt
any_of (k ∷ ks) p = elim (decided k p) [
  | inl h ↦ inl (k, h)
  | inr n ↦ elim (any_of ks p) [ inl h ↦ inl h | inr m ↦ inr (n, m) ]
]

abbrev kinds : List Piece
kinds = piece.Blank ∷ piece.LineComment ∷ piece.BlockComment ∷ piece.Word ∷ piece.Number ∷ piece.Elementclass ∷ piece.Require ∷ piece.Formal ∷ piece.String ∷ piece.DoubleColon ∷ piece.Arrow ∷ piece.Semicolon ∷ piece.Comma ∷ piece.OpenBracket ∷ piece.CloseBracket ∷ piece.Open ∷ piece.Close ∷ piece.Bar ∷ []

none_is : (p : List ℕ) → NoneOf kinds p → (k : Piece) → IsPiece k p → ⊥
none_is p n piece.Blank h = n.0 h
none_is p n piece.LineComment h = n.1.0 h
none_is p n piece.BlockComment h = n.1.1.0 h
none_is p n piece.Word h = n.1.1.1.0 h
none_is p n piece.Number h = n.1.1.1.1.0 h
none_is p n piece.Elementclass h = n.1.1.1.1.1.0 h
none_is p n piece.Require h = n.1.1.1.1.1.1.0 h
none_is p n piece.Formal h = n.1.1.1.1.1.1.1.0 h
none_is p n piece.String h = n.1.1.1.1.1.1.1.1.0 h
none_is p n piece.DoubleColon h = n.1.1.1.1.1.1.1.1.1.0 h
none_is p n piece.Arrow h = n.1.1.1.1.1.1.1.1.1.1.0 h
none_is p n piece.Semicolon h = n.1.1.1.1.1.1.1.1.1.1.1.0 h
none_is p n piece.Comma h = n.1.1.1.1.1.1.1.1.1.1.1.1.0 h
none_is p n piece.OpenBracket h = n.1.1.1.1.1.1.1.1.1.1.1.1.1.0 h
none_is p n piece.CloseBracket h = n.1.1.1.1.1.1.1.1.1.1.1.1.1.1.0 h
none_is p n piece.Open h = n.1.1.1.1.1.1.1.1.1.1.1.1.1.1.1.0 h
none_is p n piece.Close h = n.1.1.1.1.1.1.1.1.1.1.1.1.1.1.1.1.0 h
none_is p n piece.Bar h = n.1.1.1.1.1.1.1.1.1.1.1.1.1.1.1.1.1.0 h

any_piece : (p : List ℕ) → AnyPiece p ⊎ ((k : Piece) → IsPiece k p → ⊥)
any_piece p = elim (any_of kinds p) [ inl h ↦ inl h | inr n ↦ inr (none_is p n) ]

-- the longest piece among the prefixes of up to m bytes, or none
record Best (text : List ℕ) (m : ℕ) : Type 0 where
  pub kind : Piece
  pub size : ℕ
  pub below : size ≤ m
  pub form : IsPiece kind (take size text)
  pub most : (j : Piece) (i : ℕ) → size < i → i ≤ m → IsPiece j (take i text) → ⊥

abbrev NoneWithin : List ℕ → ℕ → Type 0
NoneWithin text m = (k : Piece) (i : ℕ) → i ≤ m → IsPiece k (take i text) → ⊥

none_more : (text : List ℕ) (m : ℕ) → ((k : Piece) → IsPiece k (take (suc m) text) → ⊥) → NoneWithin text m → NoneWithin text (suc m)
none_more text m n h k i l q = elim (cases_lt m i) [
  | inl g ↦ let e : i ≡ suc m = omega arith in n k (rw e at q)
  | inr g ↦ h k i g q
]

best_more : (text : List ℕ) (m : ℕ) → ((k : Piece) → IsPiece k (take (suc m) text) → ⊥) → Best text m → Best text (suc m)
best_more text m n b = record {
  kind = b.kind;
  size = b.size;
  below = omega (arith, b.below);
  form = b.form;
  most = λ j i h l q. elim (cases_lt m i) [
    | inl g ↦ let e : i ≡ suc m = omega arith in n j (rw e at q)
    | inr g ↦ b.most j i h g q
  ];
}

none_at_zero : (text : List ℕ) → ((k : Piece) → IsPiece k (take zero text) → ⊥) → NoneWithin text zero
none_at_zero text n k i l q = let e : i ≡ zero = omega arith in n k (rw e at q)

best : (text : List ℕ) (m : ℕ) → Best text m ⊎ NoneWithin text m
best text zero = elim (any_piece (take zero text)) [
  | inl h ↦ inl (record { kind = h.0; size = zero; below = omega arith; form = h.1; most = λ j i g l q. absurd (omega arith) })
  | inr n ↦ inr (none_at_zero text n)
]
best text (suc m) = elim (any_piece (take (suc m) text)) [
  | inl h ↦ inl (record { kind = h.0; size = suc m; below = omega arith; form = h.1; most = λ j i g l q. absurd (omega arith) })
  | inr n ↦ elim (best text m) [
    | inl b ↦ inl (best_more text m n b)
    | inr h ↦ inr (none_more text m n h)
  ]
]

-- no piece is empty
some_bytes : (text : List ℕ) (k : Piece) (n : ℕ) → IsPiece k (take n text) → 0 < n
some_bytes text k zero h = let e = begins_as k [] zero h in cc
some_bytes text k (suc n) h = omega arith

abbrev Reading : ℕ → List ℕ → Type 0
Reading at text = (ts : List Token) × (e : Ending) × Reads at text ts e

reads_piece : (at : ℕ) (text : List ℕ) (k : Piece) (n : ℕ) → Longest text k n → Reading (at + n) (drop n text) → (o : Option Token) → token_of k (take n text) (span at (at + n)) ≡ o → Reading at text
reads_piece at text k n l (ts, e, r) None q = (ts, e, passes at text ts e k n l q r)
reads_piece at text k n l (ts, e, r) (Some tok) q = (tok ∷ ts, e, takes at text ts e k n tok l q r)

longest_of : (text : List ℕ) (b : Best text (length text)) → Longest text b.kind b.size
longest_of text b = record { within = b.below; form = b.form; longest = λ j m h l q. b.most j m h l q }

reads_within : (n at : ℕ) (text : List ℕ) → length text ≤ n → Reading at text
reads_within n at [] h = ([], ending.Whole, ends at)
reads_within zero at (x ∷ r) h = absurd (omega arith)
reads_within (suc n) at (x ∷ r) h = elim (best (x ∷ r) (length (x ∷ r))) [
  | inl b ↦
      let l = longest_of (x ∷ r) b in
      let p : 0 < b.size = some_bytes (x ∷ r) b.kind b.size b.form in
      let d : length (drop b.size (x ∷ r)) ≤ n = omega (arith, length-drop b.size (x ∷ r), b.below) in
      reads_piece at (x ∷ r) b.kind b.size l (reads_within n (at + b.size) (drop b.size (x ∷ r)) d) _ refl
  | inr z ↦ ([], piece_fault at (x ∷ r), stuck at (x ∷ r) (omega arith) (λ k m l q. z k m l q))
]

-- every text has pieces up to an ending
pub reads : (text : List ℕ) → (ts : List Token) × (e : Ending) × Reads 0 text ts e
reads text = reads_within (length text) 0 text (omega arith)
