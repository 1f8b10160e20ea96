use Rattle.std.proofs.Common.{◌≡◌, ℕ, ◌++◌, List, drop}
use Rattle.click_text.specs.declared.argument_bytes.Escape.TheVariants as escape
use Rattle.click_text.specs.Unquote.{unescaped, before}
use Rattle.click_text.specs.kept.Unescaping.{fits_digit}
use Rattle.click_text.proofs.argument_bytes.push_unescaped.Given as goal

-- the bytes so far stand for those that were appended, and the others go on from this state
abbrev pub invariant-loop-byte : goal.invariant-loop-byte
invariant-loop-byte l =
    (p : List ℕ) × (l.to.items ≡ l.initial.to.items ++ p) × (unescaped escape.Clear l.bytes ≡ before p (unescaped l.escape (drop l.byte-index l.bytes))) × fits_digit l.escape
