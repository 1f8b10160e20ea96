-- The grammar of patterns (Click element reference, "IPClassifier"), by cases over the list of
-- tokens.
-- In `IsX d ts t rest`, d parentheses and `not` are open, the tokens ts begin with an X and go on
-- with rest, and t is its tree. At most 32 may be open.
use Rattle.std.specs.Prelude.{◌≡◌, ℕ, ◌+◌, ◌<◌, List, [], ◌∷◌, Bool, true, false, ◌||◌, ◌&&◌, Some, if◌then◌else◌}
use Rattle.click_filter.specs.declared.test.Test.{Test}
use Rattle.click_filter.specs.Trees.{Tree, leaf, negated, conjunction, disjunction, Parts, first, further}
use Rattle.click_patterns.specs.declared.token.Join.{Join}
use Rattle.click_patterns.specs.declared.token.Join.TheVariants as join
use Rattle.click_patterns.specs.declared.token.Token.{Token}
use Rattle.click_patterns.specs.declared.token.Token.TheVariants as token
use Rattle.click_patterns.specs.Tests.{test_of}
use Rattle.click_patterns.specs.Tokens.{AreTokens}

-- the most parentheses and `not` that may be open
abbrev pub most_open : ℕ
most_open = 32

-- no parenthesis, and neither `not`, `and` nor `or`
abbrev pub is_word : Token → Bool
is_word token.Open = false
is_word token.Close = false
is_word token.Not = false
is_word (token.Join j) = false
is_word _ = true

abbrev pub is_join : Token → Bool
is_join (token.Join j) = true
is_join _ = false

abbrev pub is_source : Token → Bool
is_source token.Src = true
is_source _ = false

-- the tokens of a test, if `after_source` says whether the token before these is `src`: words, and
-- an `and` or `or` right behind `src`
abbrev pub words : Bool → List Token → List Token
words after_source [] = []
words after_source (t ∷ ts) = if is_word t || (after_source && is_join t) then t ∷ words (is_source t) ts else []

-- the tokens behind them
abbrev pub behind : Bool → List Token → List Token
behind after_source [] = []
behind after_source (t ∷ ts) = if is_word t || (after_source && is_join t) then behind (is_source t) ts else t ∷ ts

-- the next token is this `and` or `or`
abbrev pub goes_on : Join → List Token → Bool
goes_on join.And (token.Join join.And ∷ ts) = true
goes_on join.Or (token.Join join.Or ∷ ts) = true
goes_on j _ = false

-- the tree of parts that are joined: one part alone is itself
abbrev pub joined : Join → Parts → Tree
joined j (first t) = t
joined join.And (further ps t) = conjunction (further ps t)
joined join.Or (further ps t) = disjunction (further ps t)

mutual
  -- one part or more, all joined by `and` or all by `or`
  pub data IsChain : Join → ℕ → List Token → Tree → List Token → Type 0 where
    chain : {j : Join} {d : ℕ} {ts ts1 rest : List Token} {t : Tree} {ps : Parts} →
        IsPart j d ts t ts1 → IsMore j d (first t) ts1 ps rest → IsChain j d ts (joined j ps) rest

  -- `IsMore j d ps ts qs rest`: further parts behind the parts ps; together they are the parts qs
  pub data IsMore : Join → ℕ → Parts → List Token → Parts → List Token → Type 0 where
    no_more : {j : Join} {d : ℕ} {ts : List Token} {ps : Parts} → goes_on j ts ≡ false → IsMore j d ps ts ps ts
    one_more : {j : Join} {d : ℕ} {ts ts1 rest : List Token} {t : Tree} {ps qs : Parts} →
        IsPart j d ts t ts1 → IsMore j d (further ps t) ts1 qs rest → IsMore j d ps (token.Join j ∷ ts) qs rest

  -- `and` binds tighter than `or`, and `not` tighter than `and`
  pub data IsPart : Join → ℕ → List Token → Tree → List Token → Type 0 where
    of_or : {d : ℕ} {ts rest : List Token} {t : Tree} → IsChain join.And d ts t rest → IsPart join.Or d ts t rest
    of_and : {d : ℕ} {ts rest : List Token} {t : Tree} → IsNegation d ts t rest → IsPart join.And d ts t rest

  -- a negation, a pattern in parentheses, or a test
  pub data IsNegation : ℕ → List Token → Tree → List Token → Type 0 where
    a_not : {d : ℕ} {ts rest : List Token} {t : Tree} → d < most_open → IsNegation (d + 1) ts t rest → IsNegation d (token.Not ∷ ts) (negated t) rest
    a_group : {d : ℕ} {ts rest : List Token} {t : Tree} → d < most_open → IsChain join.Or (d + 1) ts t (token.Close ∷ rest) → IsNegation d (token.Open ∷ ts) t rest
    a_test : {d : ℕ} {ts : List Token} {x : Test} → test_of (words false ts) ≡ Some x → IsNegation d ts (leaf x) (behind false ts)

-- the text is a pattern, with this tree
abbrev pub IsPattern : List ℕ → Tree → Type 0
IsPattern text t = (ts : List Token) × AreTokens text ts × IsChain join.Or 0 ts t []
