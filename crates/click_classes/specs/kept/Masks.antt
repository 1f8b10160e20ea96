-- The prepared form of patterns: steps that compare eight bytes at once.
use Rattle.std.specs.Prelude.{◌≡◌, ℕ, zero, suc, ◌+◌, ◌-◌, ◌*◌, ◌<◌, ◌==◌, List, length, drop, Bool, not, ◌&&◌, nat_le, bit_and, slice_index, position, Option, if◌then◌else◌}
use Rattle.std.specs.List.{list_all}
use Rattle.click_classes.specs.declared.values.pattern.Clause.{Clause}
use Rattle.click_classes.specs.declared.values.pattern.Pattern.{Pattern}
use Rattle.click_classes.specs.declared.patterns.Step.{Step}
use Rattle.click_classes.specs.declared.patterns.Test.{Test}
use Rattle.click_classes.specs.declared.patterns.PatternTests.{PatternTests}
use Rattle.click_classes.specs.Matches.{agrees, holds, matches}

abbrev pub IsBytes : List ℕ → Type 0
IsBytes bytes = (i : ℕ) → slice_index bytes i < 256

-- n bytes as a number, the first byte lowest
unfoldable pub word : (ℕ → ℕ) → ℕ → ℕ
word byte zero = 0
word byte (suc n) = word (λ i. byte (suc i)) n * 256 + byte 0

-- the bytes from an offset on
abbrev pub at_place : ℕ → List ℕ → ℕ → ℕ
at_place at bytes i = slice_index bytes (at + i)

-- the bytes after `lead` others, which are 0
abbrev pub behind : ℕ → List ℕ → ℕ → ℕ
behind lead bytes i = if nat_le lead i then slice_index bytes (i - lead) else 0

-- the eight bytes agree with the value
abbrev pub fits : Step → List ℕ → Bool
fits s bytes = bit_and (word (at_place s.at bytes) 8) s.mask == s.value

abbrev pub step_holds : Step → List ℕ → Bool
step_holds s bytes = if nat_le (s.at + 8) (length bytes) then fits s bytes else (nat_le s.end (length bytes) && fits s bytes)

abbrev pub test_holds : Test → List ℕ → Bool
test_holds t bytes = let found = step_holds t.first bytes && list_all (λ s. step_holds s bytes) t.rest in if t.negated then not found else found

abbrev pub tests_hold : List Test → List ℕ → Bool
tests_hold ts bytes = list_all (λ t. test_holds t bytes) ts

-- a step, steps, a test and tests agree with the clause or pattern that they were made from
pub record IsStep (offset : ℕ) (value mask : List ℕ) (s : Step) : Type 0 where
  pub step_agrees : (bytes : List ℕ) → IsBytes bytes → step_holds s bytes ≡ agrees (drop offset bytes) value mask

pub record AreSteps (offset : ℕ) (value mask : List ℕ) (steps : List Step) : Type 0 where
  pub steps_agree : (bytes : List ℕ) → IsBytes bytes → list_all (λ s. step_holds s bytes) steps ≡ agrees (drop offset bytes) value mask

pub record IsTest (c : Clause) (t : Test) : Type 0 where
  pub test_tells : (bytes : List ℕ) → IsBytes bytes → test_holds t bytes ≡ holds c bytes

pub record AreTests (p : Pattern) (ts : List Test) : Type 0 where
  pub tests_tell : (bytes : List ℕ) → IsBytes bytes → tests_hold ts bytes ≡ matches p bytes

-- the head step holds, and then the tests
abbrev pub pattern_holds : PatternTests → List ℕ → Bool
pattern_holds t bytes = step_holds t.head bytes && tests_hold t.tests bytes

pub record ArePatternTests (p : Pattern) (t : PatternTests) : Type 0 where
  pub pattern_tells : (bytes : List ℕ) → IsBytes bytes → pattern_holds t bytes ≡ matches p bytes

-- the index of the first pattern whose tests hold
abbrev pub first_matching : List PatternTests → List ℕ → Option ℕ
first_matching ready bytes = position (λ t. pattern_holds t bytes) ready
