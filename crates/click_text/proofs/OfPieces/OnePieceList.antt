-- A text has at most one list of pieces.
use Rattle.std.proofs.Common.{◌≡◌, ◌≢◌, ℕ, zero, suc, ◌+◌, ◌-◌, ◌<◌, List, [], ◌∷◌, length, take, drop, refl, sym, ◌∙◌, arith, inl, inr, ◌⊎◌}
use Rattle.std.proofs.lemmas.List.{take_rest}
use Rattle.click_text.specs.declared.lexer.Piece.{Piece}
use Rattle.click_text.specs.declared.lexer.Piece.TheVariants as piece
use Rattle.click_text.specs.declared.syntax.Token.{Token}
use Rattle.click_text.specs.declared.syntax.Ending.{Ending}
use Rattle.click_text.specs.Pieces.{IsPiece, Longest, NoPiece, token_of, span, Reads, ends, passes, takes, stuck}
use Rattle.click_text.proofs.OfPieces.FirstBytes.{family, begins_as, alone}

pub none_tail : (text : List ℕ) (at : ℕ) → NoPiece (take (length text - at) (drop at text)) → NoPiece (drop at text)
none_tail text at h = rw take_rest at h

pub longest_tail : (text : List ℕ) (at : ℕ) (k : Piece) (n : ℕ) → Longest (take (length text - at) (drop at text)) k n → Longest (drop at text) k n
longest_tail text at k n h = rw take_rest at h

-- no piece is empty
no_empty : (k : Piece) (n : ℕ) → IsPiece k (take n []) → ⊥
no_empty k zero h = let e = begins_as k [] zero h in cc
no_empty k (suc n) h = let e = begins_as k [] (suc n) h in cc

pub some_text : (text : List ℕ) (k : Piece) (n : ℕ) → Longest text k n → 0 < length text
some_text [] k n h = absurd (no_empty k n h.form)
some_text (x ∷ r) k n h = omega arith

pub equal_by : (a b : ℕ) → (a < b → ⊥) → (b < a → ⊥) → a ≡ b
equal_by a b h k = omega arith

pub same_len : (text : List ℕ) (k j : Piece) (n m : ℕ) → Longest text k n → Longest text j m → n ≡ m
same_len text k j n m l r = equal_by n m (λ h. l.longest j m h r.within r.form) (λ h. r.longest k n h l.within l.form)

-- a word, a number or a keyword is only one of them
same_word : (k j : Piece) (p : List ℕ) → family k ≡ piece.Word → family j ≡ piece.Word → IsPiece k p → IsPiece j p → k ≡ j
same_word piece.Word piece.Word p f g h i = refl
same_word piece.Word piece.Number p f g (w, d, e, r) (z, a) = cc
same_word piece.Word piece.Elementclass p f g (w, d, e, r) i = absurd (e i)
same_word piece.Word piece.Require p f g (w, d, e, r) i = absurd (r i)
same_word piece.Number piece.Word p f g (z, a) (w, d, e, r) = cc
same_word piece.Number piece.Number p f g h i = refl
same_word piece.Number piece.Elementclass p f g (z, a) i = let b = rw i at a in cc
same_word piece.Number piece.Require p f g (z, a) i = let b = rw i at a in cc
same_word piece.Elementclass piece.Word p f g h (w, d, e, r) = absurd (e h)
same_word piece.Elementclass piece.Number p f g h (z, a) = let b = rw h at a in cc
same_word piece.Elementclass piece.Elementclass p f g h i = refl
same_word piece.Elementclass piece.Require p f g h i = cc
same_word piece.Require piece.Word p f g h (w, d, e, r) = absurd (r h)
same_word piece.Require piece.Number p f g h (z, a) = let b = rw h at a in cc
same_word piece.Require piece.Elementclass p f g h i = cc
same_word piece.Require piece.Require p f g h i = refl
same_word k j p f g h i = cc

is_word_kind : (k : Piece) → (k ≡ piece.Word) ⊎ (k ≢ piece.Word)
is_word_kind piece.Word = inl refl
is_word_kind k = inr (λ e. cc)

pub same_kind : (text : List ℕ) (k j : Piece) (n m : ℕ) → Longest text k n → Longest text j m → k ≡ j
same_kind text k j n m l r =
    let e : n ≡ m = same_len text k j n m l r in
    let a = begins_as k text n l.form in
    let b = begins_as j text m r.form in
    let f : family k ≡ family j = cc in
    elim (is_word_kind (family j)) [
      | inl w ↦ let v : family k ≡ piece.Word = cc in same_word k j (take n text) v w l.form (rw e r.form)
      | inr w ↦ let v : family k ≢ piece.Word = rw f w in
          alone (family k) k refl v ∙ f ∙ sym (alone (family j) j refl w)
    ]

same_token : (text : List ℕ) (at : ℕ) (k j : Piece) (n m : ℕ) → Longest text k n → Longest text j m → token_of k (take n text) (span at (at + n)) ≡ token_of j (take m text) (span at (at + m))
same_token text at k j n m l r =
    let a : n ≡ m = same_len text k j n m l r in
    let b : k ≡ j = same_kind text k j n m l r in
    rw (a, b) refl

pub reads_once : {at : ℕ} {text : List ℕ} {ts us : List Token} {e f : Ending} → Reads at text ts e → Reads at text us f → (ts ≡ us) × (e ≡ f)
reads_once (ends at) (ends _) = (refl, refl)
reads_once (ends at) (passes _ _ us f k n l q r) = absurd (no_empty k n l.form)
reads_once (ends at) (takes _ _ us f k n tok l q r) = absurd (no_empty k n l.form)
reads_once (ends at) (stuck _ _ h z) = absurd (omega arith)
reads_once (passes at text ts e k n l q r) (ends _) = absurd (no_empty k n l.form)
reads_once (passes at text ts e k n l q r) (passes _ _ us f j m l' q' r') =
    let a : n ≡ m = same_len text k j n m l l' in reads_once r (rw a r')
reads_once (passes at text ts e k n l q r) (takes _ _ us f j m tok l' q' r') =
    let a = same_token text at k j n m l l' in cc
reads_once (passes at text ts e k n l q r) (stuck _ _ h z) = absurd (z k n l.within l.form)
reads_once (takes at text ts e k n tok l q r) (ends _) = absurd (no_empty k n l.form)
reads_once (takes at text ts e k n tok l q r) (passes _ _ us f j m l' q' r') =
    let a = same_token text at k j n m l l' in cc
reads_once (takes at text ts e k n tok l q r) (takes _ _ us f j m tok' l' q' r') =
    let a : n ≡ m = same_len text k j n m l l' in
    let b = same_token text at k j n m l l' in
    let d : tok ≡ tok' = cc in
    let i : (ts ≡ us) × (e ≡ f) = reads_once r (rw a r') in (let g = i.0 in cc, i.1)
reads_once (takes at text ts e k n tok l q r) (stuck _ _ h z) = absurd (z k n l.within l.form)
reads_once (stuck at text h z) (ends _) = absurd (omega arith)
reads_once (stuck at text h z) (passes _ _ us f k n l q r) = absurd (z k n l.within l.form)
reads_once (stuck at text h z) (takes _ _ us f k n tok l q r) = absurd (z k n l.within l.form)
reads_once (stuck at text h z) (stuck _ _ h' z') = (refl, refl)
