use Rattle.std.proofs.Common.{◌≡◌, ℕ, ◌≤◌, ◌++◌, List, ◌∷◌, take, false}
use Rattle.click_text.specs.Items.{ends_quote}
use Rattle.click_text.proofs.items.quote_len.Given as goal

-- no prefix so far ends the quote, and the rest goes on from this mode
abbrev pub invariant-loop-i : goal.invariant-loop-i
invariant-loop-i l = record {
  unclosed : (n : ℕ) → n ≤ l.i → ends_quote l.fn.quote (take n l.text) ≡ false;
  goes_on : (y : ℕ) (ys : List ℕ) → ends_quote l.fn.quote (take l.i l.text ++ y ∷ ys) ≡ ends_quote l.mode (y ∷ ys);
}
