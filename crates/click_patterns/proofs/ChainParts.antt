-- What a chain has read so far.
use Rattle.std.proofs.Common.{◌≡◌, ℕ, List, [], ◌∷◌, ◌++◌, refl, sym, ◌∙◌, ap, subst, append_assoc}
use Rattle.click_filter.specs.declared.pattern.Node.{Node}
use Rattle.click_filter.specs.declared.pattern.Node.TheVariants as node
use Rattle.click_filter.specs.Trees.{Tree, Parts, first, further, flat}
use Rattle.click_patterns.specs.declared.token.Join.{Join}
use Rattle.click_patterns.specs.declared.token.Join.TheVariants as join
use Rattle.click_patterns.specs.declared.token.Token.{Token}
use Rattle.click_patterns.specs.declared.token.Token.TheVariants as token
use Rattle.click_patterns.specs.Grammar.{joined, IsChain, chain, IsMore, one_more, IsPart}
use Rattle.click_patterns.proofs.OneTree.{one_part, moved, behind_join}

abbrev pub rank : Join → ℕ
rank join.And = 0
rank join.Or = 1

abbrev pub node_of : Join → Node
node_of join.And = node.And
node_of join.Or = node.Or

-- a chain that ends behind the tokens read so far, or goes on there
pub record Goes (j : Join) (d : ℕ) (ps : Parts) (ts : List Token) (t : Tree) (rest : List Token) : Type 0 where
  pub all : Parts
  pub tree : t ≡ joined j all
  pub on : IsMore j d ps ts all rest

-- From the tokens `from`, a chain has read the parts `parts` so far, and `ts` are left. Each chain
-- from there goes on behind these parts.
pub record Chained (j : Join) (d : ℕ) (from : List Token) (old : List Node) (ts : List Token) (new : List Node) : Type 0 where
  pub parts : Parts
  pub nodes : new ≡ old ++ flat (joined j parts)
  pub sound : (qs : Parts) (rest : List Token) → IsMore j d parts ts qs rest → IsChain j d from (joined j qs) rest
  pub complete : (t : Tree) (rest : List Token) → IsChain j d from t rest → Goes j d parts ts t rest

goes_first : {j : Join} {d : ℕ} {from ts rest : List Token} {t u : Tree} → IsPart j d from t ts → IsChain j d from u rest → Goes j d (first t) ts u rest
goes_first p (chain {ps = qs} q m) = let e = one_part p q in record { all = qs; tree = refl; on = moved (λ (x : Tree). first x) e.0 e.1 m }

pub begun : (j : Join) (d : ℕ) (from ts : List Token) (old new : List Node) (t : Tree) → IsPart j d from t ts → new ≡ old ++ flat t → Chained j d from old ts new
begun j d from ts old new t p e = record {
  parts = first t;
  nodes = e;
  sound = λ qs rest m. chain p m;
  complete = λ u rest c. goes_first p c;
}

-- ---- one part more

flat_more : (j : Join) (ps : Parts) (t : Tree) → flat (joined j (further ps t)) ≡ flat (joined j ps) ++ flat t ++ node_of j ∷ []
flat_more join.And (first s) t = refl
flat_more join.And (further ps s) t = refl
flat_more join.Or (first s) t = refl
flat_more join.Or (further ps s) t = refl

goes_more : {j : Join} {d : ℕ} {ps qs : Parts} {ts left rest : List Token} {t : Tree} → IsPart j d ts t left → IsMore j d ps (token.Join j ∷ ts) qs rest → IsMore j d (further ps t) left qs rest
goes_more {ps = ps} p m =
    let b = behind_join m _ refl in
    let e = one_part p b.part in
    moved (λ (x : Tree). further ps x) e.0 e.1 b.more

no_part : {j : Join} {d : ℕ} {ps qs : Parts} {ts rest : List Token} → ((u : Tree) (rest : List Token) → IsPart j d ts u rest → ⊥) → IsMore j d ps (token.Join j ∷ ts) qs rest → ⊥
no_part n m = let b = behind_join m _ refl in n b.next b.left b.part

module _ {j : Join} {d : ℕ} {from before ts : List Token} {old mid : List Node} (c : Chained j d from old before mid) (e : before ≡ token.Join j ∷ ts) where
  pub continued : {left : List Token} {new last : List Node} {t : Tree} → IsPart j d ts t left → new ≡ mid ++ flat t → last ≡ new ++ node_of j ∷ [] → Chained j d from old left last
  continued {t = t} p f g = record {
    parts = further c.parts t;
    nodes = g ∙ ap (λ (x : List Node). x ++ node_of j ∷ []) (f ∙ ap (λ (x : List Node). x ++ flat t) c.nodes)
        ∙ ap (λ (x : List Node). x ++ node_of j ∷ []) (append_assoc old (flat (joined j c.parts)) (flat t))
        ∙ append_assoc old (flat (joined j c.parts) ++ flat t) (node_of j ∷ [])
        ∙ ap (λ (x : List Node). old ++ x) (sym (flat_more j c.parts t));
    sound = λ qs rest m. c.sound qs rest (subst (λ (x : List Token). IsMore j d c.parts x qs rest) (sym e) (one_more p m));
    complete = λ u rest k.
        let r = c.complete u rest k in
        record { all = r.all; tree = r.tree; on = goes_more p (subst (λ (x : List Token). IsMore j d c.parts x r.all rest) e r.on) };
  }

  -- behind the `and` or `or` no part begins
  pub broken : ((u : Tree) (rest : List Token) → IsPart j d ts u rest → ⊥) → (u : Tree) (rest : List Token) → IsChain j d from u rest → ⊥
  broken n u rest k =
      let r = c.complete u rest k in
      no_part n (subst (λ (x : List Token). IsMore j d c.parts x r.all rest) e r.on)
