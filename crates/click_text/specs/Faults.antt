-- The first fault of a list of tokens.
use Rattle.std.specs.Prelude.{◌≡◌, ◌⊎◌, ℕ, List, [], ◌∷◌, ◌++◌}
use Rattle.click_text.specs.declared.syntax.Span.{Span}
use Rattle.click_text.specs.declared.syntax.Token.{Token}
use Rattle.click_text.specs.declared.syntax.Token.TheVariants as token
use Rattle.click_text.specs.declared.syntax.FaultKind.{FaultKind}
use Rattle.click_text.specs.declared.syntax.FaultKind.TheVariants as kind
use Rattle.click_text.specs.declared.syntax.TextFault.{TextFault}
use Rattle.click_text.specs.declared.syntax.Ending.{Ending}
use Rattle.click_text.specs.declared.syntax.Ending.TheVariants as ending
use Rattle.click_text.specs.Grammar.{IsText, BeginsText, NestsWithin}

abbrev pub fault : FaultKind → ℕ → ℕ → TextFault
fault k a b = record { kind = k; span = record { start = a; end = b } }

abbrev pub spanned_fault : FaultKind → Span → TextFault
spanned_fault k s = record { kind = k; span = s }

-- the span of a token
abbrev pub span_of : Token → Span
span_of (token.Word s) = s
span_of (token.Number n s) = s
span_of (token.Formal s) = s
span_of (token.String s) = s
span_of (token.DoubleColon s) = s
span_of (token.Arrow s) = s
span_of (token.Semicolon s) = s
span_of (token.Comma s) = s
span_of (token.OpenBracket s) = s
span_of (token.CloseBracket s) = s
span_of (token.Open s) = s
span_of (token.Close s) = s
span_of (token.Bar s) = s
span_of (token.Elementclass s) = s
span_of (token.Require s) = s

-- `IsFaultAmong n tokens ending f`: f is the first fault of a text of n bytes with these tokens and
-- this ending. Nothing is wrong with the tokens before it: `front`, or `ts` if the fault comes
-- after all tokens.
pub data IsFaultAmong : ℕ → List Token → Ending → TextFault → Type 0 where
  -- no text of the grammar begins with the tokens before and this one
  unexpected : (n : ℕ) (front more : List Token) (tok : Token) (e : Ending) → BeginsText front → NestsWithin 0 front →
      (BeginsText (front ++ tok ∷ []) → ⊥) → IsFaultAmong n (front ++ tok ∷ more) e (spanned_fault kind.Unexpected (span_of tok))
  -- the 33rd open brace
  too_deep : (n : ℕ) (front more : List Token) (tok : Token) (e : Ending) → BeginsText (front ++ tok ∷ []) → NestsWithin 0 front →
      (NestsWithin 0 (front ++ tok ∷ []) → ⊥) → IsFaultAmong n (front ++ tok ∷ more) e (spanned_fault kind.TooDeep (span_of tok))
  -- the text ends, but its tokens are not a text of the grammar
  unfinished : (n : ℕ) (ts : List Token) → BeginsText ts → NestsWithin 0 ts →
      ((t : _) → IsText ts t → ⊥) → IsFaultAmong n ts ending.Whole (fault kind.Unexpected n n)
  -- no piece begins at the offset after the tokens
  no_piece : (n : ℕ) (ts : List Token) (f : TextFault) → BeginsText ts → NestsWithin 0 ts → IsFaultAmong n ts (ending.Stuck f) f

-- the fault of running out of memory, which has no position
abbrev pub no_memory : TextFault
no_memory = fault kind.NoMemory 0 0

-- P holds, or f is the fault of running out of memory
abbrev pub IsMemoryOr : TextFault → Type 0 → Type 0
IsMemoryOr f P = (f ≡ no_memory) ⊎ P
