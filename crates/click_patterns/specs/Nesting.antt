-- Parentheses and `not` around a pattern.
use Rattle.std.specs.Prelude.{List, [], ◌∷◌, ◌++◌, Bool, true, false}
use Rattle.click_filter.specs.Trees.{Tree, negated}
use Rattle.click_patterns.specs.declared.token.Token.{Token}
use Rattle.click_patterns.specs.declared.token.Token.TheVariants as token

-- a parenthesis or `not`
abbrev pub is_opening : Token → Bool
is_opening token.Open = true
is_opening token.Not = true
is_opening _ = false

-- the parentheses that close those of these tokens
abbrev pub closing : List Token → List Token
closing [] = []
closing (token.Open ∷ ts) = closing ts ++ token.Close ∷ []
closing (_ ∷ ts) = closing ts

-- the tree behind these tokens: one `not` for each of theirs
abbrev pub around : List Token → Tree → Tree
around [] t = t
around (token.Not ∷ ts) t = negated (around ts t)
around (_ ∷ ts) t = around ts t
