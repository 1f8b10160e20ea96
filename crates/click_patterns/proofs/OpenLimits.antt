-- 32 parentheses and `not` may be open, and 33 may not.
use Rattle.std.proofs.Common.{◌≡◌, ℕ, ◌+◌, ◌<◌, ◌≤◌, List, [], ◌∷◌, ◌++◌, length, true, Some, refl, arith, append_assoc}
use Rattle.std.proofs.lemmas.List.{append-nil}
use Rattle.std.specs.List.{list_all}
use Rattle.click_filter.specs.declared.test.Test.TheVariants as test
use Rattle.click_filter.specs.Trees.{Tree, leaf}
use Rattle.click_patterns.specs.declared.token.Join.TheVariants as join
use Rattle.click_patterns.specs.declared.token.Token.{Token}
use Rattle.click_patterns.specs.declared.token.Token.TheVariants as token
use Rattle.click_patterns.specs.Tests.{test_of, test_from}
use Rattle.click_patterns.specs.Grammar.{IsChain, chain, no_more, of_or, of_and, IsNegation, a_not, a_group, a_test}
use Rattle.click_patterns.specs.Nesting.{is_opening, closing, around}
use Rattle.click_patterns.proofs.OneTree.{no_words}

-- the test `all`
all_test : test_of (token.Constant true ∷ []) ≡ Some (test.Constant true)
unfolding test_of test_from
all_test = refl

-- behind a pattern stands a closing parenthesis or nothing
abbrev Stops : List Token → Type 0
Stops [] = Unit {0}
Stops (token.Close ∷ ts) = Unit {0}
Stops (t ∷ ts) = ⊥

-- a negation alone is a chain
alone : {d : ℕ} {ts rest : List Token} {t : Tree} → IsNegation d ts t rest → Stops rest → IsChain join.Or d ts t rest
alone {rest = []} n s = chain (of_or (chain (of_and n) (no_more refl))) (no_more refl)
alone {rest = token.Close ∷ rest} n s = chain (of_or (chain (of_and n) (no_more refl))) (no_more refl)
alone {rest = t ∷ rest} n s = absurd s

nested : (d : ℕ) (front rest : List Token) → list_all is_opening front ≡ true → d + length front ≤ 32 → Stops rest →
    IsNegation d (front ++ token.Constant true ∷ (closing front ++ rest)) (around front (leaf (test.Constant true))) rest
nested d [] [] o h s = a_test all_test
nested d [] (token.Close ∷ rest) o h s = a_test all_test
nested d [] (t ∷ rest) o h s = absurd s
nested d (token.Open ∷ front) rest o h s =
    rw (append_assoc (closing front) (token.Close ∷ []) rest) (a_group {d = d} (omega arith) (alone (nested (d + 1) front (token.Close ∷ rest) o (omega arith) tt) tt))
nested d (token.Not ∷ front) rest o h s = a_not (omega arith) (nested (d + 1) front rest o (omega arith) s)
nested d (t ∷ front) rest o h s = absurd (cc)

pub accepted : (front : List Token) → list_all is_opening front ≡ true → length front ≤ 32 → IsChain join.Or 0 (front ++ token.Constant true ∷ closing front) (around front (leaf (test.Constant true))) []
accepted front o h = rw append-nil at (alone (nested 0 front [] o (omega arith) tt) tt)

too_deep : (d : ℕ) (front ts rest : List Token) (t : Tree) → list_all is_opening front ≡ true → d ≤ 32 → 32 < d + length front → IsNegation d (front ++ ts) t rest → ⊥
too_deep d [] ts rest t o k h n = omega arith
too_deep d (token.Open ∷ front) ts rest t o k h (a_group l (chain (of_or (chain (of_and n) m)) p)) = too_deep (d + 1) front ts _ _ o (omega arith) (omega arith) n
too_deep d (token.Open ∷ front) ts rest t o k h (a_test e) = let g = no_words in cc
too_deep d (token.Not ∷ front) ts rest t o k h (a_not l n) = too_deep (d + 1) front ts rest _ o (omega arith) (omega arith) n
too_deep d (token.Not ∷ front) ts rest t o k h (a_test e) = let g = no_words in cc
too_deep d (u ∷ front) ts rest t o k h n = cc

pub refused : (front ts : List Token) (t : Tree) → list_all is_opening front ≡ true → 32 < length front → IsChain join.Or 0 (front ++ ts) t [] → ⊥
refused front ts t o h (chain (of_or (chain (of_and n) m)) p) = too_deep 0 front ts _ _ o (omega arith) (omega arith) n
