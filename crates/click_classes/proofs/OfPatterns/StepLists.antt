-- Lemmas about lists of steps and tests.
use Rattle.std.proofs.Common.{◌≡◌, ℕ, zero, suc, ◌+◌, ◌<◌, ◌≤◌, List, [], ◌∷◌, ◌++◌, length, take, drop, get_or, min, Bool, true, false, cond, ◌&&◌, nat_lt, Option, Some, None, refl, sym, ap, ◌∙◌, arith}
use Rattle.std.specs.Prelude.{not, position}
use Rattle.std.specs.List.{AllZip, list_all, prefix_len}
use Rattle.std.proofs.lemmas.List.{take_all, take_more}
use Rattle.std.proofs.lemmas.List.Folds.{list_all-append}
use Rattle.click_classes.specs.declared.patterns.Step.{Step}
use Rattle.click_classes.specs.declared.patterns.Test.{Test}
use Rattle.click_classes.specs.declared.patterns.PatternTests.{PatternTests}
use Rattle.click_classes.specs.declared.values.pattern.Clause.{Clause}
use Rattle.click_classes.specs.declared.values.pattern.Pattern.{Pattern}
use Rattle.click_classes.specs.Matches.{agrees, holds, matches}
use Rattle.click_classes.specs.kept.Masks.{IsBytes, step_holds, test_holds, tests_hold, pattern_holds, first_matching, IsStep, AreSteps, IsTest, AreTests, ArePatternTests}
use Rattle.click_classes.proofs.OfPatterns.MaskedBytes.{agrees-cut, agrees-nothing}

drop-none : {X : Type 0} (j : ℕ) → drop {A = X} j [] ≡ []
drop-none zero = refl
drop-none (suc j) = refl

drop_drop : {X : Type 0} (i j : ℕ) (xs : List X) → drop j (drop i xs) ≡ drop (i + j) xs
drop_drop zero j xs = ap (λ n. drop n xs) (omega arith)
drop_drop (suc i) j [] = let e : suc i + j ≡ suc (i + j) = omega arith in rw e (drop-none j)
drop_drop (suc i) j (x ∷ xs) = let e : suc i + j ≡ suc (i + j) = omega arith in rw e (drop_drop i j xs)

-- the steps so far, with the bytes of the clause that are left, agree with all bytes from `from` on
pub record SoFar (offset : ℕ) (value mask : List ℕ) (from at : ℕ) (steps : List Step) : Type 0 where
  pub same : (bytes : List ℕ) → IsBytes bytes
      → (list_all (λ s. step_holds s bytes) steps && agrees (drop (offset + at) bytes) (drop at value) (drop at mask))
      ≡ agrees (drop (offset + from) bytes) (drop from value) (drop from mask)

and_assoc : (a b c : Bool) → ((a && b) && c) ≡ (a && (b && c))
and_assoc true b c = refl
and_assoc false b c = refl

and_true : (a : Bool) → (a && true) ≡ a
and_true true = refl
and_true false = refl

pub so_far_begins : (offset : ℕ) (value mask : List ℕ) (from : ℕ) → SoFar offset value mask from from []
so_far_begins offset value mask from = record { same = λ bytes b. refl }

-- the bytes of a clause in two parts
two_parts : (offset at k : ℕ) (value mask bytes : List ℕ) → k ≤ length (drop at value) → k ≤ length (drop at mask)
    → agrees (drop (offset + at) bytes) (drop at value) (drop at mask)
    ≡ (agrees (drop (offset + at) bytes) (take k (drop at value)) (take k (drop at mask)) && agrees (drop (offset + (at + k)) bytes) (drop (at + k) value) (drop (at + k) mask))
two_parts offset at k value mask bytes l h =
    let e : offset + (at + k) ≡ offset + at + k = omega arith in
    rw (e, ← drop_drop (offset + at) k bytes, ← drop_drop at k value, ← drop_drop at k mask) (agrees-cut k (drop (offset + at) bytes) (drop at value) (drop at mask) l h)

pub so_far_more : (offset : ℕ) (value mask : List ℕ) (from at k : ℕ) (steps : List Step) (s : Step) → k ≤ length (drop at value) → k ≤ length (drop at mask)
    → SoFar offset value mask from at steps → IsStep (offset + at) (take k (drop at value)) (take k (drop at mask)) s → SoFar offset value mask from (at + k) (steps ++ s ∷ [])
so_far_more offset value mask from at k steps s l h so_far step = record {
  same = λ bytes b.
      let one = step.step_agrees bytes b in
      let rest = agrees (drop (offset + (at + k)) bytes) (drop (at + k) value) (drop (at + k) mask) in
      ap (λ x. x && rest) (list_all-append (λ s. step_holds s bytes) steps (s ∷ []))
      ∙ and_assoc (list_all (λ s. step_holds s bytes) steps) (step_holds s bytes && true) rest
      ∙ ap (λ x. list_all (λ s. step_holds s bytes) steps && (x && rest)) (and_true (step_holds s bytes) ∙ one)
      ∙ ap (λ x. list_all (λ s. step_holds s bytes) steps && x) (sym (two_parts offset at k value mask bytes l h))
      ∙ so_far.same bytes b;
}

pub so_far_ends : (offset : ℕ) (value mask : List ℕ) (from at : ℕ) (steps : List Step) → min (length value) (length mask) ≤ at
    → SoFar offset value mask from at steps → AreSteps (offset + from) (drop from value) (drop from mask) steps
so_far_ends offset value mask from at steps l so_far = record {
  steps_agree = λ bytes b. sym (and_true (list_all (λ s. step_holds s bytes) steps)) ∙ ap (λ x. list_all (λ s. step_holds s bytes) steps && x) (sym (agrees-nothing (drop (offset + at) bytes) value mask at l)) ∙ so_far.same bytes b;
}

-- a test with a step for the first bytes of a clause, and steps for the others
pub test_made : (c : Clause) (k : ℕ) (first : Step) (rest : List Step) → k ≤ length c.value → k ≤ length c.mask
    → IsStep c.offset (take k c.value) (take k c.mask) first → AreSteps (c.offset + k) (drop k c.value) (drop k c.mask) rest
    → IsTest c (record { negated = c.negated; first = first; rest = rest })
test_made c k first rest l h step steps = record {
  test_tells = λ bytes b.
      let whole = agrees-cut k (drop c.offset bytes) c.value c.mask l h in
      let cut : agrees (drop c.offset bytes) c.value c.mask ≡ (agrees (drop c.offset bytes) (take k c.value) (take k c.mask) && agrees (drop (c.offset + k) bytes) (drop k c.value) (drop k c.mask)) = rw drop_drop at whole in
      rw (cut, step.step_agrees bytes b, steps.steps_agree bytes b) refl;
}

-- the tests of the clauses from index `at` on, with the clauses before it, agree with all clauses
pub record TestsSoFar (all : List Clause) (at : ℕ) (tests : List Test) : Type 0 where
  pub same : (bytes : List ℕ) → IsBytes bytes → (tests_hold tests bytes && list_all (λ c. holds c bytes) (take at all)) ≡ list_all (λ c. holds c bytes) all

pub tests_begin : (all : List Clause) (at : ℕ) → length all ≤ at → TestsSoFar all at []
tests_begin all at l = record { same = λ bytes b. ap (λ cs. list_all (λ c. holds c bytes) cs) (take_all at all l) }

and_swap : (a b c : Bool) → ((a && (b && true)) && c) ≡ (a && (c && (b && true)))
and_swap true true true = refl
and_swap true true false = refl
and_swap true false true = refl
and_swap true false false = refl
and_swap false b c = refl

pub tests_more : (all : List Clause) (at : ℕ) (tests : List Test) (t : Test) (d : Clause) → at < length all → IsTest (get_or all at d) t → TestsSoFar all (at + 1) tests → TestsSoFar all at (tests ++ t ∷ [])
tests_more all at tests t d l one so_far = record {
  same = λ bytes b.
      let rest = list_all (λ c. holds c bytes) (take at all) in
      let last : list_all (λ c. holds c bytes) (take (at + 1) all) ≡ (rest && (holds (get_or all at d) bytes && true)) =
      ap (λ cs. list_all (λ c. holds c bytes) cs) (take_more all at d l) ∙ list_all-append (λ c. holds c bytes) (take at all) (get_or all at d ∷ []) in
      ap (λ x. x && rest) (list_all-append (λ t. test_holds t bytes) tests (t ∷ []))
      ∙ and_swap (tests_hold tests bytes) (test_holds t bytes) rest
      ∙ ap (λ x. tests_hold tests bytes && (rest && (x && true))) (one.test_tells bytes b)
      ∙ ap (λ x. tests_hold tests bytes && x) (sym last)
      ∙ so_far.same bytes b;
}

pub tests_end : (p : Pattern) (all : List Clause) (tests : List Test) → all ≡ p.clauses → TestsSoFar all 0 tests → AreTests p tests
tests_end p all tests e so_far = record {
  tests_tell = λ bytes b. sym (and_true (tests_hold tests bytes)) ∙ so_far.same bytes b ∙ ap (λ cs. list_all (λ c. holds c bytes) cs) e;
}

-- the first tests that hold have the same index as the first pattern that matches
same_prefix : (ps : List Pattern) (ready : List PatternTests) (bytes : List ℕ) (n : ℕ) → IsBytes bytes → AllZip ArePatternTests ps ready
    → prefix_len (λ t. not (pattern_holds t bytes)) (take n ready) ≡ prefix_len (λ q. not (matches q bytes)) (take n ps)
same_prefix ps ready bytes zero b h = refl
same_prefix [] [] bytes (suc n) b h = refl
same_prefix [] (t ∷ ready) bytes (suc n) b h = absurd h
same_prefix (p ∷ ps) [] bytes (suc n) b h = absurd h
same_prefix (p ∷ ps) (t ∷ ready) bytes (suc n) b h =
    let one : ArePatternTests p t = h.0 in
    rw (one.pattern_tells bytes b, same_prefix ps ready bytes n b h.1) refl

same_length : (ps : List Pattern) (ready : List PatternTests) (n : ℕ) → AllZip ArePatternTests ps ready → length (take n ready) ≡ length (take n ps)
same_length ps ready zero h = refl
same_length [] [] (suc n) h = refl
same_length [] (t ∷ ready) (suc n) h = absurd h
same_length (p ∷ ps) [] (suc n) h = absurd h
same_length (p ∷ ps) (t ∷ ready) (suc n) h = ap suc (same_length ps ready n h.1)

-- the index, if it is within the length
abbrev placed : ℕ → ℕ → Option ℕ
placed at len = cond (nat_lt at len) (Some at) None

-- the first pattern whose tests hold is the first one that matches
pub first_same : (ps : List Pattern) (ready : List PatternTests) (bytes : List ℕ) (n : ℕ) → IsBytes bytes → AllZip ArePatternTests ps ready
    → first_matching (take n ready) bytes ≡ position (λ q. matches q bytes) (take n ps)
first_same ps ready bytes n b h =
    ap (λ at. placed at (length (take n ready))) (same_prefix ps ready bytes n b h)
    ∙ ap (λ len. placed (prefix_len (λ q. not (matches q bytes)) (take n ps)) len) (same_length ps ready n h)
