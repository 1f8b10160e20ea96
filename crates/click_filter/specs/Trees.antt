-- Patterns as trees, and their truth for a packet.
use Rattle.std.specs.Prelude.{ℕ, ◌+◌, List, [], ◌∷◌, ◌++◌, Bool, not, ◌||◌, ◌&&◌}
use Rattle.click_filter.specs.declared.test.Test.{Test}
use Rattle.click_filter.specs.declared.pattern.Node.{Node}
use Rattle.click_filter.specs.declared.pattern.Node.TheVariants as node
use Rattle.click_filter.specs.Tests.{holds}

mutual
  -- a pattern: a test, or `not`, `and` or `or` of patterns
  pub data Tree : Type 0 where
    leaf : Test → Tree
    negated : Tree → Tree
    conjunction : Parts → Tree
    disjunction : Parts → Tree

  -- the parts of a conjunction or disjunction: a first one, and each further one after those before it
  pub data Parts : Type 0 where
    first : Tree → Parts
    further : Parts → Tree → Parts

-- whether the pattern is true for a packet with these bytes
abbrev mutual
  pub truth : Tree → List ℕ → Bool
  truth (leaf test) b = holds test b
  truth (negated t) b = not (truth t b)
  truth (conjunction ps) b = all_true ps b
  truth (disjunction ps) b = any_true ps b

  pub all_true : Parts → List ℕ → Bool
  all_true (first t) b = truth t b
  all_true (further ps t) b = all_true ps b && truth t b

  pub any_true : Parts → List ℕ → Bool
  any_true (first t) b = truth t b
  any_true (further ps t) b = any_true ps b || truth t b

-- the number of tests
abbrev mutual
  pub tests : Tree → ℕ
  tests (leaf test) = 1
  tests (negated t) = tests t
  tests (conjunction ps) = tests_of ps
  tests (disjunction ps) = tests_of ps

  pub tests_of : Parts → ℕ
  tests_of (first t) = tests t
  tests_of (further ps t) = tests_of ps + tests t

-- the nodes of a pattern: each `not`, `and` and `or` follows what it joins
abbrev mutual
  pub flat : Tree → List Node
  flat (leaf test) = node.Test test ∷ []
  flat (negated t) = flat t ++ node.Not ∷ []
  flat (conjunction ps) = flat_all ps
  flat (disjunction ps) = flat_any ps

  pub flat_all : Parts → List Node
  flat_all (first t) = flat t
  flat_all (further ps t) = flat_all ps ++ flat t ++ node.And ∷ []

  pub flat_any : Parts → List Node
  flat_any (first t) = flat t
  flat_any (further ps t) = flat_any ps ++ flat t ++ node.Or ∷ []
