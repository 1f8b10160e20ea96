use Rattle.std.proofs.Common.{◌≡◌, ℕ, ◌+◌, ◌<◌, get_or}
use Rattle.click_text.proofs.lexer.comment_len.Given as goal

-- there is no `*/` so far
abbrev pub invariant-loop-i : goal.invariant-loop-i
invariant-loop-i l = (k : ℕ) → k + 1 < l.i → get_or l.text k 0 ≡ 42 → get_or l.text (k + 1) 0 ≡ 47 → ⊥
