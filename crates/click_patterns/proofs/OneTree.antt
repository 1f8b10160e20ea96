-- Tokens have at most one tree.
use Rattle.std.proofs.Common.{◌≡◌, ◌≢◌, length, ℕ, List, [], ◌∷◌, true, false, None, refl, sym, ap, subst}
use Rattle.click_filter.specs.Trees.{Tree, leaf, negated, Parts, first, further}
use Rattle.click_patterns.specs.declared.token.Join.{Join}
use Rattle.click_patterns.specs.declared.token.Join.TheVariants as join
use Rattle.click_patterns.specs.declared.token.Token.{Token}
use Rattle.click_patterns.specs.declared.token.Token.TheVariants as token
use Rattle.click_patterns.specs.Tests.{test_of, test_from, direction_of, direction_from, ends_test}
use Rattle.click_patterns.specs.Grammar.{goes_on, joined, IsChain, chain, IsMore, no_more, one_more, IsPart, of_or, of_and, IsNegation, a_not, a_group, a_test, IsPattern}
use Rattle.click_patterns.specs.Tokens.{AreTokens}
use Rattle.click_patterns.proofs.OneTokenList.{one_list}

pub goes : (j : Join) (ts : List Token) → goes_on j (token.Join j ∷ ts) ≡ true
goes join.And ts = refl
goes join.Or ts = refl

-- no words are no test
pub no_words : test_of [] ≡ None
unfolding test_of test_from direction_of direction_from ends_test
no_words = refl

-- a chain that ends ends there only
pub at_end : {j : Join} {d : ℕ} {ps qs : Parts} {ts rest : List Token} → IsMore j d ps ts qs rest → goes_on j ts ≡ false → (ps ≡ qs) × (ts ≡ rest)
at_end (no_more e) f = (refl, refl)
at_end {j} (one_more {ts = ts} p m) f = let g = goes j ts in absurd (cc)

-- a chain that goes on behind an `and` or `or`
pub record Continues (j : Join) (d : ℕ) (ps : Parts) (ts : List Token) (qs : Parts) (rest : List Token) : Type 0 where
  pub next : Tree
  pub left : List Token
  pub part : IsPart j d ts next left
  pub more : IsMore j d (further ps next) left qs rest

pub behind_join : {j : Join} {d : ℕ} {ps qs : Parts} {all rest : List Token} → IsMore j d ps all qs rest → (ts : List Token) → all ≡ token.Join j ∷ ts → Continues j d ps ts qs rest
behind_join {j} (no_more e) ts f = let g = goes j ts in absurd (cc)
behind_join {j} {d} (one_more {ts = us} {ts1 = left} {t = t} p m) ts f =
    let q : us ≡ ts = cc in
    record { next = t; left = left; part = subst (λ (x : List Token). IsPart j d x t left) q p; more = m }

-- further parts behind an equal part
pub moved : {j : Join} {d : ℕ} {t u : Tree} {ts us rest : List Token} {qs : Parts} (make : Tree → Parts) → t ≡ u → ts ≡ us → IsMore j d (make u) us qs rest → IsMore j d (make t) ts qs rest
moved {j} {d} {u = u} {ts = ts} {rest = rest} {qs = qs} make e f m =
    subst (λ (x : Tree). IsMore j d (make x) ts qs rest) (sym e) (subst (λ (x : List Token). IsMore j d (make u) x qs rest) (sym f) m)

mutual
  pub one_chain : {j : Join} {d : ℕ} {ts r : List Token} {t : Tree} → IsChain j d ts t r → {r' : List Token} {t' : Tree} → IsChain j d ts t' r' → (t ≡ t') × (r ≡ r')
  one_chain {j} (chain p m) (chain p' m') =
      let e = one_part p p' in
      let f = one_more_list m (moved (λ (x : Tree). first x) e.0 e.1 m') in
      (ap (joined j) f.0, f.1)

  pub one_more_list : {j : Join} {d : ℕ} {ps qs : Parts} {ts r : List Token} → IsMore j d ps ts qs r → {qs' : Parts} {r' : List Token} → IsMore j d ps ts qs' r' → (qs ≡ qs') × (r ≡ r')
  one_more_list (no_more e) m' = at_end m' e
  one_more_list (one_more {ps = ps} p m) m' =
      let b = behind_join m' _ refl in
      let e = one_part p b.part in
      one_more_list m (moved (λ (x : Tree). further ps x) e.0 e.1 b.more)

  pub one_part : {j : Join} {d : ℕ} {ts r : List Token} {t : Tree} → IsPart j d ts t r → {r' : List Token} {t' : Tree} → IsPart j d ts t' r' → (t ≡ t') × (r ≡ r')
  one_part (of_or c) (of_or c') = one_chain c c'
  one_part (of_and n) (of_and n') = one_negation n n'

  pub one_negation : {d : ℕ} {ts r : List Token} {t : Tree} → IsNegation d ts t r → {r' : List Token} {t' : Tree} → IsNegation d ts t' r' → (t ≡ t') × (r ≡ r')
  one_negation (a_not h n) (a_not h' n') = let e = one_negation n n' in (ap negated e.0, e.1)
  one_negation (a_not h n) (a_test e) = let g = no_words in cc
  one_negation (a_group h c) (a_group h' c') = let e = one_chain c c' in (e.0, cc (e.1))
  one_negation (a_group h c) (a_test e) = let g = no_words in cc
  one_negation (a_test e) (a_not h' n') = let g = no_words in cc
  one_negation (a_test e) (a_group h' c') = let g = no_words in cc
  one_negation (a_test {x = x} e) (a_test {x = y} e') = let q : x ≡ y = cc in (ap leaf q, refl)

-- a text has at most one tree
pub one_tree : (text : List ℕ) (t u : Tree) → IsPattern text t → IsPattern text u → t ≡ u
one_tree text t u (ts, a, c) (us, b, e) = (one_chain c (subst (λ (x : List Token). IsChain join.Or 0 x u []) (one_list b a) e)).0

-- no chain begins, or tokens are left
pub no_pattern : (text : List ℕ) (ts : List Token) → AreTokens text ts → ((t : Tree) → IsChain join.Or 0 ts t [] → ⊥) → (t : Tree) → IsPattern text t → ⊥
no_pattern text ts a n t (us, b, c) = n t (subst (λ (x : List Token). IsChain join.Or 0 x t []) (one_list b a) c)

pub tokens_left : {ts rest : List Token} {u : Tree} → IsChain join.Or 0 ts u rest → length rest ≢ 0 → (t : Tree) → IsChain join.Or 0 ts t [] → ⊥
tokens_left c n t e = n (ap length (one_chain c e).1)
