use Rattle.std.proofs.Common.{◌≡◌, ℕ, ◌≤◌, ◌+◌, ◌++◌, List, ◌∷◌, take, false}
use Rattle.click_text.specs.declared.strings.Mode.TheVariants as mode
use Rattle.click_text.specs.Strings.{closes}
use Rattle.click_text.proofs.strings.string_len.Given as goal

-- no prefix so far closes the string, and the rest goes on from this mode and depth
abbrev pub invariant-loop-i : goal.invariant-loop-i
invariant-loop-i l = record {
  deep : l.depth ≤ l.i + 1;
  unclosed : (n : ℕ) → n ≤ l.i → closes mode.Plain 1 (take n l.text) ≡ false;
  goes_on : (y : ℕ) (ys : List ℕ) → closes mode.Plain 1 (take l.i l.text ++ y ∷ ys) ≡ closes l.mode l.depth (y ∷ ys);
}
