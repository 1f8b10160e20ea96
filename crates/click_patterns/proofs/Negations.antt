-- Tokens that begin with no negation, and the trees of those that do.
use Rattle.std.proofs.Common.{◌≡◌, ℕ, zero, suc, ◌+◌, ◌-◌, ◌<◌, ◌≤◌, List, [], ◌∷◌, ◌++◌, length, take, drop, slice_get, true, false, Option, Some, None, refl, sym, ◌∙◌, ap, subst, append_assoc, arith, length-drop}
use Rattle.std.proofs.lemmas.List.{take_rest}
use Rattle.click_filter.specs.declared.test.Test.{Test}
use Rattle.click_filter.specs.declared.pattern.Node.{Node}
use Rattle.click_filter.specs.declared.pattern.Node.TheVariants as node
use Rattle.click_filter.specs.Trees.{Tree, leaf, negated, flat}
use Rattle.click_patterns.specs.declared.token.Join.{Join}
use Rattle.click_patterns.specs.declared.token.Join.TheVariants as join
use Rattle.click_patterns.specs.declared.token.Token.{Token}
use Rattle.click_patterns.specs.declared.token.Token.TheVariants as token
use Rattle.click_patterns.specs.Tests.{test_of}
use Rattle.click_patterns.specs.Grammar.{words, behind, goes_on, IsChain, IsPart, of_or, of_and, IsNegation, a_not, a_group, a_test}
use Rattle.click_patterns.proofs.OneTree.{no_words, one_chain}

abbrev pub NoChain : Join → ℕ → List Token → Type 0
NoChain j d ts = (t : Tree) (rest : List Token) → IsChain j d ts t rest → ⊥

abbrev pub NoNegation : ℕ → List Token → Type 0
NoNegation d ts = (t : Tree) (rest : List Token) → IsNegation d ts t rest → ⊥

-- 32 are open
pub deep_not : (d : ℕ) (ts : List Token) → 32 ≤ d → NoNegation d (token.Not ∷ ts)
deep_not d ts h t rest (a_not k n) = absurd (omega arith)
deep_not d ts h t rest (a_test e) = let g = no_words in cc

pub deep_group : (d : ℕ) (ts : List Token) → 32 ≤ d → NoNegation d (token.Open ∷ ts)
deep_group d ts h t rest (a_group k c) = absurd (omega arith)
deep_group d ts h t rest (a_test e) = let g = no_words in cc

pub no_not : (d : ℕ) (ts : List Token) → NoNegation (d + 1) ts → NoNegation d (token.Not ∷ ts)
no_not d ts n t rest (a_not {t = u} k m) = n u rest m
no_not d ts n t rest (a_test e) = let g = no_words in cc

pub no_group : (d : ℕ) (ts : List Token) → NoChain join.Or (d + 1) ts → NoNegation d (token.Open ∷ ts)
no_group d ts n t rest (a_group k c) = n t (token.Close ∷ rest) c
no_group d ts n t rest (a_test e) = let g = no_words in cc

-- what is in parentheses ends before another token
pub not_closed : (d : ℕ) (ts ts1 : List Token) (u : Tree) → IsChain join.Or (d + 1) ts u ts1 → ((rest : List Token) → ts1 ≡ token.Close ∷ rest → ⊥) → NoNegation d (token.Open ∷ ts)
not_closed d ts ts1 u c n t rest (a_group k c') = n rest (one_chain c c').1
not_closed d ts ts1 u c n t rest (a_test e) = let g = no_words in cc

-- no token is left
pub no_token : {d : ℕ} {ts : List Token} {o : Option Token} → o ≡ slice_get ts 0 → o ≡ None → NoNegation d ts
no_token {ts = []} f e t rest (a_test g) = let h = no_words in cc
no_token {ts = x ∷ ts} f e t rest n = absurd (cc)

-- ---- what was read

-- a negation of these tokens, whose nodes were appended
abbrev pub Negated : ℕ → List Token → List Node → List Token → List Node → Type 0
Negated d ts old rest new = (t : Tree) × IsNegation d ts t rest × (new ≡ old ++ flat t)

pub negated_of : (d : ℕ) (ts us rest : List Token) (old mid new : List Node) → ts ≡ token.Not ∷ us → d < 32 → Negated (d + 1) us old rest mid → new ≡ mid ++ node.Not ∷ [] → Negated d ts old rest new
negated_of d ts us rest old mid new e h (t, n, f) g =
    (negated t, rw e (a_not h n), g ∙ ap (λ (x : List Node). x ++ node.Not ∷ []) f ∙ append_assoc old (flat t) (node.Not ∷ []))

pub group_of : (d : ℕ) (ts us inner rest : List Token) (old mid new : List Node) → ts ≡ token.Open ∷ us → d < 32 →
    (t : Tree) × IsChain join.Or (d + 1) us t inner × (mid ≡ old ++ flat t) → (inner ≡ token.Close ∷ rest) × (new ≡ mid) → Negated d ts old rest new
group_of d ts us inner rest old mid new e h (t, c, f) (g, k) = (t, rw e (a_group h (rw g at c)), k ∙ f)

-- what is in parentheses is not followed by a closing one
pub open_group : (d : ℕ) (ts us inner : List Token) (old mid : List Node) → ts ≡ token.Open ∷ us → (t : Tree) × IsChain join.Or (d + 1) us t inner × (mid ≡ old ++ flat t) →
    ((rest : List Token) → inner ≡ token.Close ∷ rest → ⊥) → NoNegation d ts
open_group d ts us inner old mid e (t, c, f) n = subst (NoNegation d) (sym e) (not_closed d us inner t c n)

pub test_read : (d : ℕ) (ts rest : List Token) (old new : List Node) → (x : Test) × (test_of (words false ts) ≡ Some x) × (rest ≡ behind false ts) × (new ≡ old ++ node.Test x ∷ []) → Negated d ts old rest new
test_read d ts rest old new (x, e, f, g) = (leaf x, rw f (a_test e), g)

pub or_part : (d : ℕ) (ts rest : List Token) (old new : List Node) → (t : Tree) × IsChain join.And d ts t rest × (new ≡ old ++ flat t) → (t : Tree) × IsPart join.Or d ts t rest × (new ≡ old ++ flat t)
or_part d ts rest old new (t, c, e) = (t, of_or c, e)

pub and_part : (d : ℕ) (ts rest : List Token) (old new : List Node) → Negated d ts old rest new → (t : Tree) × IsPart join.And d ts t rest × (new ≡ old ++ flat t)
and_part d ts rest old new (t, c, e) = (t, of_and c, e)

-- the first token and the tokens behind it
pub begins_with : {ts rest : List Token} {o : Option Token} {x t : Token} → o ≡ slice_get ts 0 → o ≡ Some x → x ≡ t → rest ≡ drop 1 ts → ts ≡ t ∷ rest
begins_with {ts = []} f e g r = absurd (cc)
begins_with {ts = y ∷ ts} f e g r = cc

-- a test has a word
pub shorter_by_test : (n : ℕ) (ts : List Token) (x : Test) → n ≤ length ts → Some x ≡ test_of (take n ts) → length (take (length ts - n) (drop n ts)) < length ts
shorter_by_test zero ts x h e = let g = no_words in absurd (cc)
shorter_by_test (suc n) ts x h e = rw take_rest (omega (arith, length-drop (suc n) ts))

-- the token that goes on with a chain
pub next_join : (j : Join) (ts : List Token) → goes_on j ts ≡ true → ts ≡ token.Join j ∷ take (length ts - 1) (drop 1 ts)
next_join join.And (token.Join join.And ∷ ts) e = rw take_rest refl
next_join join.Or (token.Join join.Or ∷ ts) e = rw take_rest refl
next_join j _ e = absurd (cc)
