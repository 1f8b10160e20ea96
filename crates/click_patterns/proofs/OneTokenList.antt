-- A text has at most one list of tokens.
use Rattle.std.proofs.Common.{◌≡◌, ℕ, ◌-◌, ◌<◌, List, [], ◌∷◌, ◌++◌, length, take, drop, Option, Some, None, refl, sym, ◌∙◌, ap, subst, arith, append_assoc}
use Rattle.std.proofs.lemmas.List.{append-nil, take_rest}
use Rattle.click_patterns.specs.declared.token.Token.{Token}
use Rattle.click_patterns.specs.Tokens.{piece, AreTokens, ends, passes, takes}

-- two readings of a piece agree
same_token : {x y : Option Token × ℕ} {o : Option (Option Token × ℕ)} → o ≡ Some x → o ≡ Some y → x.0 ≡ y.0
same_token {x} {y} e f = let q : x ≡ y = cc in ap (λ (p : Option Token × ℕ). p.0) q

same_length : {x y : Option Token × ℕ} {o : Option (Option Token × ℕ)} → o ≡ Some x → o ≡ Some y → x.1 ≡ y.1
same_length {x} {y} e f = let q : x ≡ y = cc in ap (λ (p : Option Token × ℕ). p.1) q

-- without a piece at the front there is no list
pub no_piece : {text : List ℕ} {ts : List Token} → AreTokens text ts → 0 < length text → piece text ≡ None → ⊥
no_piece ends h e = absurd (omega arith)
no_piece (passes k f r) h e = cc
no_piece (takes k f r) h e = cc

-- white space is passed
pub at_white : {text : List ℕ} {ts : List Token} → AreTokens text ts → (n : ℕ) → 0 < length text → piece text ≡ Some (None, n) → AreTokens (drop n text) ts
at_white ends n h e = absurd (omega arith)
at_white {text} {ts} (passes k f r) n h e = subst (λ (i : ℕ). AreTokens (drop i text) ts) (same_length f e) r
at_white (takes k f r) n h e = let q = same_token f e in cc

-- a token is taken
pub record Taken (text : List ℕ) (t : Token) (n : ℕ) (all : List Token) : Type 0 where
  pub rest : List Token
  pub whole : all ≡ t ∷ rest
  pub behind : AreTokens (drop n text) rest

pub at_token : {text : List ℕ} {all : List Token} → AreTokens text all → (t : Token) (n : ℕ) → 0 < length text → piece text ≡ Some (Some t, n) → Taken text t n all
at_token ends t n h e = absurd (omega arith)
at_token (passes k f r) t n h e = let q = same_token f e in absurd (cc)
at_token {text} (takes {ts = ts} {t = u} k f r) t n h e =
    let q = same_token f e in
    let one : u ≡ t = cc in
    record { rest = ts; whole = ap (λ (x : Token). x ∷ ts) one; behind = subst (λ (i : ℕ). AreTokens (drop i text) ts) (same_length f e) r }

pub one_list : {text : List ℕ} {ts us : List Token} → AreTokens text ts → AreTokens text us → ts ≡ us
one_list ends ends = refl
one_list ends (passes k f r) = absurd (omega arith)
one_list ends (takes k f r) = absurd (omega arith)
one_list (passes {n = n} k f r) s = one_list r (at_white s n k f)
one_list (takes {ts = ts} {t = t} {n = n} k f r) s =
    let q = at_token s t n k f in
    ap (λ (x : List Token). t ∷ x) (one_list r q.behind) ∙ sym q.whole

-- `all` begins with the tokens so far, and the rest of the text consists of those behind them
pub record Remaining (front : List Token) (rest : List ℕ) (all : List Token) : Type 0 where
  pub back : List Token
  pub whole : all ≡ front ++ back
  pub left : AreTokens rest back

-- the text up to `rest` consists of the tokens `front`
pub record Scanned (text : List ℕ) (front : List Token) (rest : List ℕ) : Type 0 where
  pub sound : (ts : List Token) → AreTokens rest ts → AreTokens text (front ++ ts)
  pub complete : (all : List Token) → AreTokens text all → Remaining front rest all

pub nothing_scanned : (text : List ℕ) → Scanned text [] text
nothing_scanned text = record { sound = λ ts r. r; complete = λ all r. record { back = all; whole = refl; left = r } }

pub past_white : (text rest : List ℕ) (front : List Token) (o : Option Token) (n : ℕ) → 0 < length rest → Some (o, n) ≡ piece rest → o ≡ None → Scanned text front rest →
    Scanned text front (take (length rest - n) (drop n rest))
past_white text rest front o n h e w s =
    let k : piece rest ≡ Some (None, n) = rw w at (sym e) in
    rw take_rest
    (record {
      sound = λ ts r. s.sound ts (passes h k r);
      complete = λ all r. let q = s.complete all r in record { back = q.back; whole = q.whole; left = at_white q.left n h k };
    })

pub past_token : (text rest : List ℕ) (front : List Token) (o : Option Token) (t : Token) (n : ℕ) → 0 < length rest → Some (o, n) ≡ piece rest → o ≡ Some t → Scanned text front rest →
    Scanned text (front ++ t ∷ []) (take (length rest - n) (drop n rest))
past_token text rest front o t n h e w s =
    let k : piece rest ≡ Some (Some t, n) = rw w at (sym e) in
    rw take_rest
    (record {
      sound = λ ts r. rw append_assoc (s.sound (t ∷ ts) (takes h k r));
      complete = λ all r.
          let q = s.complete all r in
          let p = at_token q.left t n h k in
          record { back = p.rest; whole = q.whole ∙ ap (λ (x : List Token). front ++ x) p.whole ∙ sym (append_assoc front (t ∷ []) p.rest); left = p.behind };
    })

pub all_scanned : (text rest : List ℕ) (front : List Token) → length rest ≡ 0 → Scanned text front rest → AreTokens text front
all_scanned text [] front e s = rw append-nil at (s.sound [] ends)
all_scanned text (x ∷ rest) front e s = absurd (omega arith)

-- without a piece at the front of the rest, the text has no list of tokens
pub none_scanned : (text rest : List ℕ) (front : List Token) → 0 < length rest → None ≡ piece rest → Scanned text front rest → (ts : List Token) → AreTokens text ts → ⊥
none_scanned text rest front h e s ts r = no_piece ((s.complete ts r).left) h (sym e)
